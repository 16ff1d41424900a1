-- A list of weighted entries, as its parties see it.
use Rattle.world_base.proofs.Prelude.{◌≡◌, ◌≢◌, ℕ, ◌+◌, ◌<◌, ◌≤◌, Bool, true, false, List, [], ◌∷◌, length, ◌==◌, Option, Some, None, IsTrue, refl, arith, sym, ap, ◌∙◌, get_or-set_same, get_or-set_other, length-set, set, nat_tests, Entry, is_marked, joined, without, key_at, is_listed, is_marked_at, marked_count, with_key, has_id, slot_of, by_party, party_of, is_party, entries_of, IsWaiting, Joins, Departs, IsSeated, seat_of, seat_at, taken, unladen, unweighed, weight_in, IsWeighed, IsWeightedWaiting, IsWeightedQueue, IsListedSeat, JoinsWeighted, DepartsWeighted, AskedWeighted, weighted_queue, weighted_seat}
use Rattle.lock_event.specs.declared.event.Slot.{Slot}
use Rattle.lock_event.specs.declared.event.EntryId.{EntryId}
use Rattle.weighted_event.specs.declared.weighted.Load.{Load}
use Rattle.weighted_event.specs.Loads.{laden, weight_of, weight_at}
use Rattle.weighted_event.specs.Weights.{is_enough, fit_first, fitted}
use Rattle.world_base.proofs.of_queue.Keys.{is_listed-key_at}
use Rattle.world_base.proofs.of_queue.Queues as queues
use Rattle.world_base.proofs.of_queue.Rekeyed.{rekeyed-joined, length-rekeyed, marked_count-rekeyed}

abbrev Weighed : Type 0
Weighed = List (Entry (Slot (Load ℕ)))

-- ---- the list without weights goes through the same list functions

pub unweighed-without : (id : EntryId) (l : Weighed) → unweighed (without (has_id id) l) ≡ without (has_id id) (unweighed l)
unweighed-without id [] = refl
unweighed-without id (e ∷ es) = grind (arith, unweighed-without id es)

pub unweighed-listed : (id : EntryId) (l : Weighed) → is_listed (has_id id) (unweighed l) ≡ is_listed (has_id id) l
unweighed-listed id [] = refl
unweighed-listed id (e ∷ es) = grind (arith, unweighed-listed id es)

pub unweighed-marked_at : (id : EntryId) (l : Weighed) → is_marked_at (has_id id) (unweighed l) ≡ is_marked_at (has_id id) l
unweighed-marked_at id [] = refl
unweighed-marked_at id (e ∷ es) = grind (arith, unweighed-marked_at id es)

module _ (w : Slot (Load ℕ) → ℕ) (a : ℕ) where
  key_at-fit_first : (test : Slot ℕ → Bool) (l : Weighed) → key_at test (unweighed (fit_first w a l)) ≡ key_at test (unweighed l)
  key_at-fit_first test [] = refl
  key_at-fit_first test (e ∷ es) = grind (arith, key_at-fit_first test es)

  entries_of-fit_first : (p : ℕ) (l : Weighed) → entries_of p (by_party (unweighed (fit_first w a l))) ≡ entries_of p (by_party (unweighed l))
  entries_of-fit_first p [] = refl
  entries_of-fit_first p (e ∷ es) = grind (arith, entries_of-fit_first p es)

  length-fit_first : (l : Weighed) → length (fit_first w a l) ≡ length l
  length-fit_first [] = refl
  length-fit_first (e ∷ es) = grind (arith, length-fit_first es)

-- ---- each entry has its party's weight

module _ (weights : List ℕ) where
  weighed-without : (id : EntryId) (l : Weighed) → IsWeighed weights l → IsWeighed weights (without (has_id id) l)
  weighed-without id [] h = tt
  weighed-without id (e ∷ es) h = by_test (has_id id e.key) refl (weighed-without id es h.1) where
    by_test : (b : Bool) → has_id id e.key ≡ b → IsWeighed weights (without (has_id id) es) → IsWeighed weights (without (has_id id) (e ∷ es))
    by_test true is more = rw is h.1
    by_test false is more = rw is (h.0, more)

  weighed-fit : (a : ℕ) (l : Weighed) → IsWeighed weights l → IsWeighed weights (fit_first weight_of a l)
  weighed-fit a [] h = tt
  weighed-fit a (e ∷ es) h = by_marks (is_marked e.mark) refl (is_enough weight_of a e) refl (weighed-fit a es h.1) where
    by_marks : (b : Bool) → is_marked e.mark ≡ b → (c : Bool) → is_enough weight_of a e ≡ c → IsWeighed weights (fit_first weight_of a es) → IsWeighed weights (fit_first weight_of a (e ∷ es))
    by_marks true is c fits more = rw is (h.0, more)
    by_marks false is true fits more = rw (is, fits) h
    by_marks false is false fits more = rw (is, fits) (h.0, more)

  -- whom so many fit is told alike, by the weights of entries and of parties
  fit-by_party : (a : ℕ) (l : Weighed) → IsWeighed weights l → by_party (unweighed (fit_first weight_of a l)) ≡ fit_first (weight_in weights) a (by_party (unweighed l))
  fit-by_party a [] h = refl
  fit-by_party a (e ∷ es) h =
      let same = h.0 in
      let more = fit-by_party a es h.1 in
      grind arith

weighed-set : (weights : List ℕ) (p w : ℕ) (l : Weighed) → entries_of p (by_party (unweighed l)) ≡ 0 → IsWeighed weights l → IsWeighed (set weights p w) l
weighed-set weights p w [] none h = tt
weighed-set weights p w (e ∷ es) none h =
    let apart : party_of (unladen e.key) ≢ p = λ is. (let some : entries_of p (by_party (unweighed (e ∷ es))) ≡ 1 + entries_of p (by_party (unweighed es)) = grind (arith, nat_tests) in omega (arith, some, none)) in
    let less : entries_of p (by_party (unweighed es)) ≡ 0 = grind (arith, nat_tests) in
    (rw (get_or-set_other weights p (party_of (unladen e.key)) w 0 apart) h.0, weighed-set weights p w es less h.1)

weighed-joined : (weights : List ℕ) (l : Weighed) (s : Slot (Load ℕ)) → weight_of s ≡ weight_in weights (party_of (unladen s)) → IsWeighed weights l → IsWeighed weights (joined l s)
weighed-joined weights [] s is h = (is, tt)
weighed-joined weights (e ∷ es) s is h = (h.0, weighed-joined weights es s is h.1)

-- ---- the queue

module _ (seats : List (Option EntryId)) (weights : List ℕ) (l : Weighed) (room : ℕ) (q : IsWeightedWaiting seats weights l room) where
  pub laws : marked_count l ≤ 1 → IsWeightedQueue (weighted_queue (length seats) (by_party (unweighed l)) weights)
  laws one = record {
    once = λ p. rw (q.waiting.owners p) (queues.one_at_most (seat_at seats p));
    known = λ p h. q.waiting.owners p ∙ ap taken (queues.past_end seats p h);
    one_marked = omega (arith, one, marked_count-rekeyed party_of (unweighed l), marked_count-rekeyed unladen l);
  }

  fit_waiting : (a more : ℕ) → room ≤ more → IsWaiting seats (unweighed (fit_first weight_of a l)) more
  fit_waiting a more r = record {
    owners = λ p. entries_of-fit_first weight_of a p l ∙ q.waiting.owners p;
    seated = λ p h. queues.kept_seat p (unweighed l) (unweighed (fit_first weight_of a l)) (seat_at seats p) (λ id e s. key_at-fit_first weight_of a (has_id id) l ∙ s) (q.waiting.seated p h);
    size = q.waiting.size ∙ (length-rekeyed unladen l ∙ (sym (length-fit_first weight_of a l) ∙ sym (length-rekeyed unladen (fit_first weight_of a l))));
    enough = omega (arith, r, q.waiting.enough);
  }

  pub fits : (a more : ℕ) → room ≤ more → IsWeightedWaiting seats weights (fitted weight_of a l) more × (by_party (unweighed (fitted weight_of a l)) ≡ fitted (weight_in weights) a (by_party (unweighed l)))
  fits a more r =
      let count : marked_count (by_party (unweighed l)) ≡ marked_count l = marked_count-rekeyed party_of (unweighed l) ∙ marked_count-rekeyed unladen l in
      by_count (marked_count l == 0) refl count where
        by_count : (b : Bool) → (marked_count l == 0) ≡ b → marked_count (by_party (unweighed l)) ≡ marked_count l
            → IsWeightedWaiting seats weights (fitted weight_of a l) more × (by_party (unweighed (fitted weight_of a l)) ≡ fitted (weight_in weights) a (by_party (unweighed l)))
        by_count true is same = rw (same, is) (record { waiting = fit_waiting a more r; weighed = weighed-fit weights a l q.weighed; as_many = q.as_many }, fit-by_party weights a l q.weighed)
        by_count false is same = rw (same, is) (record { waiting = record { owners = q.waiting.owners; seated = q.waiting.seated; size = q.waiting.size; enough = omega (arith, r, q.waiting.enough) }; weighed = q.weighed; as_many = q.as_many }, refl)

  module _ (p : ℕ) (known : p < length seats) where
    -- the party's entry stands in the list
    pub seat : 0 < entries_of p (by_party (unweighed l)) → IsListedSeat (weighted_seat l (seat_at seats p))
    seat some = listed (seat_at seats p) (queues.seat seats (unweighed l) room q.waiting p known some) where
      listed : (o : Option EntryId) → IsSeated p (seat_of (unweighed l) o) → IsListedSeat (weighted_seat l o)
      listed None h = absurd h
      listed (Some id) h = sym (unweighed-listed id l) ∙ is_listed-key_at (has_id id) (unweighed l) (slot_of id (Some p)) h

    pub roomy : entries_of p (by_party (unweighed l)) ≡ 0 → length l < room
    roomy out = omega (arith, queues.roomy seats (unweighed l) room q.waiting p known out (record { number = 0 }), length-rekeyed unladen l)

    pub joins : (o : Option EntryId) (m : Weighed) (w more : ℕ) → entries_of p (by_party (unweighed l)) ≡ 0 → JoinsWeighted p w (weighted_seat l (seat_at seats p)) (weighted_seat m o) → room ≤ more
        → IsWeightedWaiting (set seats p o) (set weights p w) m more × (by_party (unweighed m) ≡ joined (by_party (unweighed l)) p)
    joins o m w more out j r =
        let plain : Joins p (seat_of (unweighed l) (seat_at seats p)) (seat_of (unweighed m) o) = record {
          id = j.id;
          has_it = j.has_it;
          fresh = unweighed-listed j.id l ∙ j.fresh;
          entries = ap unweighed j.entries ∙ rekeyed-joined unladen l (laden j.id w (Some p));
        } in
        let done = queues.joins seats (unweighed l) room q.waiting p known o (unweighed m) more out plain r in
        let here : p < length weights = omega (arith, known, q.as_many) in
        let weight : w ≡ weight_in (set weights p w) p = sym (get_or-set_same weights p w 0 here) in (
          record {
            waiting = done.0;
            weighed = rw j.entries (weighed-joined (set weights p w) l (laden j.id w (Some p)) weight (weighed-set weights p w l out q.weighed));
            as_many = length-set weights p w ∙ (q.as_many ∙ sym (length-set seats p o));
          },
          done.1,
        )

    pub asked : (b : Bool) → AskedWeighted (weighted_seat l (seat_at seats p)) b → is_marked_at (is_party p) (by_party (unweighed l)) ≡ b
    asked b a = queues.asked seats (unweighed l) room q.waiting p known b (record { id = a.id; had_it = a.had_it; answer = unweighed-marked_at a.id l ∙ a.answer })

    module _ (o : Option EntryId) (m : Weighed) (more : ℕ) (r : room ≤ more) where
      pub takes : DepartsWeighted (weighted_seat l (seat_at seats p)) (weighted_seat m o) → IsWeightedWaiting (set seats p o) weights m more × (by_party (unweighed m) ≡ without (is_party p) (by_party (unweighed l)))
      takes d =
          let plain : Departs (seat_of (unweighed l) (seat_at seats p)) (seat_of (unweighed m) o) without = record { id = d.id; had_it = d.had_it; gone = d.gone; entries = ap unweighed d.entries ∙ unweighed-without d.id l } in
          let done = queues.takes seats (unweighed l) room q.waiting p known o (unweighed m) more r plain in (
            record {
              waiting = done.0;
              weighed = rw d.entries (weighed-without weights d.id l q.weighed);
              as_many = q.as_many ∙ sym (length-set seats p o);
            },
            done.1,
          )

      pub asks : (b : Bool) → (IsTrue b → DepartsWeighted (weighted_seat l (seat_at seats p)) (weighted_seat m o)) → (b ≡ false → weighted_seat m o ≡ weighted_seat l (seat_at seats p))
          → IsWeightedWaiting (set seats p o) weights m more
          × (IsTrue b → weighted_queue (length (set seats p o)) (by_party (unweighed m)) weights ≡ weighted_queue (length seats) (without (is_party p) (by_party (unweighed l))) weights)
          × (b ≡ false → weighted_queue (length (set seats p o)) (by_party (unweighed m)) weights ≡ weighted_queue (length seats) (by_party (unweighed l)) weights)
      asks true told waits = let done = takes (told refl) in (done.0, (λ t. rw (length-set seats p o, done.1) refl), (λ f. absurd (cc f)))
      asks false told waits =
          let same = waits refl in
          let o_is : o ≡ seat_at seats p = ap (λ s. s.id) same in
          let m_is : m ≡ l = ap (λ s. s.entries) same in
          let all : set seats p o ≡ seats = rw o_is (queues.set_own seats p) in
          rw (all, m_is) (
            record { waiting = record { owners = q.waiting.owners; seated = q.waiting.seated; size = q.waiting.size; enough = omega (arith, r, q.waiting.enough) }; weighed = q.weighed; as_many = q.as_many },
            (λ t. absurd (cc t)),
            (λ f. refl),
          )

-- ---- a new entry gets its waker

pub with_key-fresh : (id : EntryId) (p w : ℕ) (l : Weighed) → is_listed (has_id id) l ≡ false
    → with_key (has_id id) (laden id (weight_at id (joined l (laden id w None))) (Some p)) (joined l (laden id w None)) ≡ joined l (laden id w (Some p))
with_key-fresh id p w l fresh = ap (λ n. with_key (has_id id) (laden id n (Some p)) (joined l (laden id w None))) (weight_there l fresh) ∙ placed l fresh where
  weight_there : (l : Weighed) → is_listed (has_id id) l ≡ false → weight_at id (joined l (laden id w None)) ≡ w
  weight_there [] h = grind (arith, nat_tests)
  weight_there (e ∷ es) h = grind (arith, nat_tests, weight_there es)

  placed : (l : Weighed) → is_listed (has_id id) l ≡ false → with_key (has_id id) (laden id w (Some p)) (joined l (laden id w None)) ≡ joined l (laden id w (Some p))
  placed [] h = grind (arith, nat_tests)
  placed (e ∷ es) h = grind (arith, nat_tests, placed es)
