-- Each call keeps each party's seat.
use Rattle.world_base.proofs.Prelude.{◌≡◌, ◌≢◌, ℕ, ◌+◌, ◌*◌, ◌<◌, ◌≤◌, Bool, true, false, List, [], ◌∷◌, length, get_or, zero, suc, Option, Some, None, arith, refl, sym, ◌∙◌, ap, subst, IsTrue, get_or-set_same, get_or-set_other, length-set, ◌==◌, eq-eqb, set, sum_by, sum_by-set, sum_by-le, nat_tests, same_Some, Entry, Mark, Waiting, entry, joined, without, left, mark_at, key_at, passed_on, is_marked_at, mark_waiting, IsMarkedFirst, has_id, slot_of, by_party, party_of, entries_of, is_party, rekeyed, seat_of, Joins, Departs, Asked, IsSeated, IsSeatedIf, IsSeatOf, taken, seat_at, IsWaiting, IsQueue, queue}
use Rattle.std.proofs.Math.Decide.{ℕ_discrete}
use Rattle.lock_event.specs.declared.event.Slot.{Slot}
use Rattle.lock_event.specs.declared.event.EntryId.{EntryId}
use Rattle.lock_event.proofs.Marks.{length-mark_waiting}
use Rattle.lock_event.proofs.Counts.{length-joined, length-without, length-passed_on}
use Rattle.world_base.proofs.of_queue.Keys.{is_listed-key_at, key_at-joined, key_at-joined_new, key_at-mark_waiting, key_at-passed_on, key_at-without}
use Rattle.world_base.proofs.of_queue.Rekeyed.{marked_count-rekeyed, rekeyed-joined, rekeyed-mark_waiting, rekeyed-without, rekeyed-passed_on, mark_at-rekeyed, is_marked_at-rekeyed, entries_of-joined, entries_of-mark_waiting, entries_of-passed_on, entries_of-without_own, entries_of-without_other}

pub one_at_most : (o : Option EntryId) → taken o ≤ 1
one_at_most None = omega arith
one_at_most (Some id) = omega arith

pub kept_seat : (j : ℕ) (l m : List (Entry (Slot ℕ))) (o : Option EntryId) → ((id : EntryId) → o ≡ Some id → IsSeatOf j l id → IsSeatOf j m id) → IsSeatedIf j l o → IsSeatedIf j m o
kept_seat j l m None f h = tt
kept_seat j l m (Some id) f h = f id refl h

pub is_seated : (j : ℕ) (l : List (Entry (Slot ℕ))) (o : Option EntryId) → 0 < taken o → IsSeatedIf j l o → IsSeated j (seat_of l o)
is_seated j l None some h = absurd (omega arith)
is_seated j l (Some id) some h = h

pub own_one : (p : ℕ) (l : List (Entry ℕ)) → entries_of p (entry p Waiting ∷ l) ≡ 1 + entries_of p l
own_one p l = grind (arith, nat_tests)

pub other_one : (j p : ℕ) (l : List (Entry ℕ)) → j ≢ p → entries_of j (entry p Waiting ∷ l) ≡ entries_of j l
other_one j p l apart = grind (arith, nat_tests)

pub past_end : (xs : List (Option EntryId)) (p : ℕ) → length xs ≤ p → seat_at xs p ≡ None
past_end [] p h = refl
past_end (x ∷ xs) zero h = absurd (omega arith)
past_end (x ∷ xs) (suc p) h = past_end xs p (omega arith)

pub set_own : (xs : List (Option EntryId)) (p : ℕ) → set xs p (seat_at xs p) ≡ xs
set_own [] p = refl
set_own (x ∷ xs) zero = refl
set_own (x ∷ xs) (suc p) = ap (λ ys. x ∷ ys) (set_own xs p)

IsMarkedFirst-rekeyed : {K L : Type 0} (f : K → L) (l : List (Entry K)) → IsMarkedFirst l → IsMarkedFirst (rekeyed f l)
IsMarkedFirst-rekeyed f [] h = tt
IsMarkedFirst-rekeyed f (e ∷ es) h = ((λ w. marked_count-rekeyed f es ∙ h.0 w), IsMarkedFirst-rekeyed f es h.1)

module _ (seats : List (Option EntryId)) (l : List (Entry (Slot ℕ))) (room : ℕ) (w : IsWaiting seats l room) where
  pub laws : IsMarkedFirst l → IsQueue (queue (length seats) (by_party l))
  laws ordered = record {
    once = λ p. rw (w.owners p) (one_at_most (seat_at seats p));
    known = λ p h. w.owners p ∙ ap taken (past_end seats p h);
    in_order = IsMarkedFirst-rekeyed party_of l ordered;
  }

  -- nothing changed
  pub as_before : (p : ℕ) (o : Option EntryId) (m : List (Entry (Slot ℕ))) (more : ℕ) → p < length seats → seat_of m o ≡ seat_of l (seat_at seats p) → room ≤ more → IsWaiting (set seats p o) m more × (queue (length (set seats p o)) (by_party m) ≡ queue (length seats) (by_party l))
  as_before p o m more known same r =
      let o_is : o ≡ seat_at seats p = ap (λ s. s.id) same in
      let m_is : m ≡ l = ap (λ s. s.entries) same in
      let all : set seats p o ≡ seats = rw o_is (set_own seats p) in
      rw (all, m_is) (record { owners = w.owners; seated = w.seated; size = w.size; enough = omega (arith, w.enough) }, refl)

  -- the list keeps its entries in their order
  pub marked : (m : Mark) (n more : ℕ) → room ≤ more → IsWaiting seats (mark_waiting m n l) more
  marked m n more r = record {
    owners = λ p. ap (entries_of p) (rekeyed-mark_waiting party_of m n l) ∙ (entries_of-mark_waiting p m n (by_party l) ∙ w.owners p);
    seated = λ p h. kept_seat p l (mark_waiting m n l) (seat_at seats p) (λ id e s. key_at-mark_waiting (has_id id) m n l ∙ s) (w.seated p h);
    size = w.size ∙ sym (length-mark_waiting m n l);
    enough = omega (arith, w.enough);
  }

  module _ (p : ℕ) (known : p < length seats) where
    pub seat : 0 < entries_of p (by_party l) → IsSeated p (seat_of l (seat_at seats p))
    seat some = is_seated p l (seat_at seats p) (rw (← w.owners p) some) (w.seated p known)

    pub roomy : entries_of p (by_party l) ≡ 0 → (id : EntryId) → length l < room
    roomy out id =
        let more : sum_by taken (set seats p (Some id)) + taken (get_or seats p None) ≡ sum_by taken seats + 1 = sum_by-set taken seats p (Some id) None known in
        let most : sum_by taken (set seats p (Some id)) ≤ length (set seats p (Some id)) * 1 = sum_by-le taken 1 (set seats p (Some id)) (λ k d h. one_at_most (get_or (set seats p (Some id)) k d)) in
        let same : length (set seats p (Some id)) ≡ length seats = length-set seats p (Some id) in
        let none : taken (get_or seats p None) ≡ 0 = sym (w.owners p) ∙ out in
        omega (arith, w.size, w.enough)

    -- the party joins
    pub joins : (o : Option EntryId) (m : List (Entry (Slot ℕ))) (more : ℕ) → entries_of p (by_party l) ≡ 0 → Joins p (seat_of l (seat_at seats p)) (seat_of m o) → room ≤ more
        → IsWaiting (set seats p o) m more × (by_party m ≡ joined (by_party l) p)
    joins o m more out j r =
        let it : has_id {W = ℕ} j.id (slot_of j.id (Some p)) ≡ true = eq-eqb j.id.number j.id.number refl in
        let seen : by_party m ≡ joined (by_party l) p = ap by_party j.entries ∙ rekeyed-joined party_of l (slot_of j.id (Some p)) in
        let size : length m ≡ length l + 1 = ap length j.entries ∙ length-joined l (slot_of j.id (Some p)) in
        let own : entries_of p (by_party m) ≡ 1 = ap (entries_of p) seen ∙ (entries_of-joined p p (by_party l) ∙ (own_one p (by_party l) ∙ ap (λ n. 1 + n) out)) in
        let mine : IsSeatOf p m j.id = rw j.entries (key_at-joined_new (has_id j.id) l (slot_of j.id (Some p)) j.fresh it) in
        let mine' : IsSeatedIf p m o = rw j.has_it mine in (
          record {
            owners = λ k. elim (ℕ_discrete k p) as (λ _. entries_of k (by_party m) ≡ taken (seat_at (set seats p o) k)) [
              | yes e ↦ (let P : ℕ → Type 0 = λ x. entries_of x (by_party m) ≡ taken (seat_at (set seats p o) x) in
                  subst P (sym e) (rw (get_or-set_same seats p o None known) (rw j.has_it own)))
              | no apart ↦ rw (get_or-set_other seats p k o None apart) (ap (entries_of k) seen ∙ (entries_of-joined k p (by_party l) ∙ (other_one k p (by_party l) apart ∙ w.owners k)))
            ];
            seated = λ k h. elim (ℕ_discrete k p) as (λ _. IsSeatedIf k m (seat_at (set seats p o) k)) [
              | yes e ↦ (let P : ℕ → Type 0 = λ x. IsSeatedIf x m (seat_at (set seats p o) x) in
                  subst P (sym e) (rw (get_or-set_same seats p o None known) mine'))
              | no apart ↦ rw (get_or-set_other seats p k o None apart)
                  (kept_seat k l m (seat_at seats k) (λ id e s. rw j.entries (key_at-joined (has_id id) l (slot_of j.id (Some p)) (slot_of id (Some k)) s)) (w.seated k (rw (length-set seats p o) at h)))
            ];
            size = (let more : sum_by taken (set seats p o) + taken (get_or seats p None) ≡ sum_by taken seats + taken o = sum_by-set taken seats p o None known in
                let none : taken (get_or seats p None) ≡ 0 = sym (w.owners p) ∙ out in
                let one : taken o ≡ 1 = ap taken j.has_it in
                omega (arith, w.size));
            enough = rw (length-set seats p o) (omega (arith, w.enough));
          },
          seen,
        )

    -- two parties' entries have two names
    two_names : (j : ℕ) → j ≢ p → (id mine : EntryId) → IsSeatOf j l id → IsSeatOf p l mine → id.number ≢ mine.number
    two_names j apart id mine h m e =
        let one : slot_of id (Some j) ≡ slot_of mine (Some p) = same_Some _ _ (sym h ∙ (ap (λ n. key_at (λ slot. slot.id.number == n) l) e ∙ m)) in
        apart (same_Some _ _ (ap (λ x. x.waker) one))

    names_apart : (id mine : EntryId) → id.number ≢ mine.number → (k : Slot ℕ) → has_id id k ≡ true → has_id mine k ≡ false
    names_apart id mine ne k h = grind (arith, nat_tests)

    -- the party's entry goes
    gone : (o : Option EntryId) (m : List (Entry (Slot ℕ))) (more : ℕ) (mine : EntryId) → seat_at seats p ≡ Some mine → o ≡ None → room ≤ more
        → ((test : Slot ℕ → Bool) → ((k : Slot ℕ) → test k ≡ true → has_id mine k ≡ false) → key_at test m ≡ key_at test l)
        → length m + 1 ≡ length l → entries_of p (by_party m) ≡ 0 → ((k : ℕ) → k ≢ p → entries_of k (by_party m) ≡ entries_of k (by_party l))
        → IsWaiting (set seats p o) m more
    gone o m more mine had none r keys size own others =
        let its : IsSeatOf p l mine = rw had at (w.seated p known) in
        record {
          owners = λ k. elim (ℕ_discrete k p) as (λ _. entries_of k (by_party m) ≡ taken (seat_at (set seats p o) k)) [
            | yes e ↦ (let P : ℕ → Type 0 = λ x. entries_of x (by_party m) ≡ taken (seat_at (set seats p o) x) in
                subst P (sym e) (rw (get_or-set_same seats p o None known) (own ∙ sym (ap taken none))))
            | no apart ↦ rw (get_or-set_other seats p k o None apart) (others k apart ∙ w.owners k)
          ];
          seated = λ k h. elim (ℕ_discrete k p) as (λ _. IsSeatedIf k m (seat_at (set seats p o) k)) [
            | yes e ↦ (let P : ℕ → Type 0 = λ x. IsSeatedIf x m (seat_at (set seats p o) x) in
                subst P (sym e) (rw (get_or-set_same seats p o None known) (rw none tt)))
            | no apart ↦ rw (get_or-set_other seats p k o None apart)
                (kept_seat k l m (seat_at seats k) (λ id e s. keys (has_id id) (names_apart id mine (two_names k apart id mine s its)) ∙ s) (w.seated k (rw (length-set seats p o) at h)))
          ];
          size = (let more : sum_by taken (set seats p o) + taken (get_or seats p None) ≡ sum_by taken seats + taken o = sum_by-set taken seats p o None known in
              let was : taken (get_or seats p None) ≡ 1 = ap taken had in
              let now : taken o ≡ 0 = ap taken none in
              omega (arith, w.size));
          enough = rw (length-set seats p o) (omega (arith, w.enough));
        }

    pub asked : (b : Bool) → Asked (seat_of l (seat_at seats p)) b → is_marked_at (is_party p) (by_party l) ≡ b
    asked b a =
        let mine : IsSeatOf p l a.id = rw a.had_it at (w.seated p known) in
        let some : taken (seat_at seats p) ≡ 1 = ap taken a.had_it in
        is_marked_at-rekeyed party_of (has_id a.id) p l (slot_of a.id (Some p)) mine refl (w.owners p ∙ some) ∙ a.answer

    module _ (o : Option EntryId) (m : List (Entry (Slot ℕ))) (more : ℕ) (r : room ≤ more) where
      -- the party takes its notification
      pub takes : Departs (seat_of l (seat_at seats p)) (seat_of m o) without → IsWaiting (set seats p o) m more × (by_party m ≡ without (is_party p) (by_party l))
      takes d =
          let mine : IsSeatOf p l d.id = rw d.had_it at (w.seated p known) in
          let some : taken (seat_at seats p) ≡ 1 = ap taken d.had_it in
          let alone : entries_of p (by_party l) ≡ 1 = w.owners p ∙ some in
          let seen : by_party m ≡ without (is_party p) (by_party l) = ap by_party d.entries ∙ rekeyed-without party_of (has_id d.id) p l (slot_of d.id (Some p)) mine refl alone in
          let size : length m + 1 ≡ length l = rw d.entries (length-without (has_id d.id) l (is_listed-key_at (has_id d.id) l (slot_of d.id (Some p)) mine)) in
          let own : entries_of p (by_party m) + 1 ≡ entries_of p (by_party l) = rw seen (entries_of-without_own p (by_party l) (omega arith)) in (
            gone o m more d.id d.had_it d.gone r (λ test apart. rw d.entries (key_at-without test (has_id d.id) apart l)) size (omega arith)
                (λ k apart. ap (entries_of k) seen ∙ entries_of-without_other k p (by_party l) apart),
            seen,
          )

      -- the party leaves
      pub leaves : Departs (seat_of l (seat_at seats p)) (seat_of m o) left → IsWaiting (set seats p o) m more × (by_party m ≡ left (is_party p) (by_party l))
      leaves d =
          let mine : IsSeatOf p l d.id = rw d.had_it at (w.seated p known) in
          let some : taken (seat_at seats p) ≡ 1 = ap taken d.had_it in
          let alone : entries_of p (by_party l) ≡ 1 = w.owners p ∙ some in
          let mark = mark_at (has_id d.id) l in
          let rest : by_party (without (has_id d.id) l) ≡ without (is_party p) (by_party l) = rekeyed-without party_of (has_id d.id) p l (slot_of d.id (Some p)) mine refl alone in
          let seen : by_party m ≡ left (is_party p) (by_party l) =
          ap by_party d.entries ∙ (rekeyed-passed_on party_of (mark_at (has_id d.id) l) (without (has_id d.id) l)
          ∙ (ap (passed_on (mark_at (has_id d.id) l)) rest
          ∙ ap (λ x. passed_on x (without (is_party p) (by_party l))) (sym (mark_at-rekeyed party_of (has_id d.id) p l (slot_of d.id (Some p)) mine refl alone)))) in
          let fewer : length (without (has_id d.id) l) + 1 ≡ length l = length-without (has_id d.id) l (is_listed-key_at (has_id d.id) l (slot_of d.id (Some p)) mine) in
          let size : length m ≡ length (without (has_id d.id) l) = ap length d.entries ∙ length-passed_on (mark_at (has_id d.id) l) (without (has_id d.id) l) in
          let all : (k : ℕ) → entries_of k (by_party m) ≡ entries_of k (without (is_party p) (by_party l)) =
          λ k. ap (entries_of k) seen ∙ entries_of-passed_on k (mark_at (is_party p) (by_party l)) (without (is_party p) (by_party l)) in
          let own : entries_of p (without (is_party p) (by_party l)) + 1 ≡ entries_of p (by_party l) = entries_of-without_own p (by_party l) (omega arith) in (
            gone o m more d.id d.had_it d.gone r (λ test apart. ap (key_at test) d.entries ∙ (key_at-passed_on test (mark_at (has_id d.id) l) (without (has_id d.id) l) ∙ key_at-without test (has_id d.id) apart l)) (omega arith) (all p ∙ omega arith)
                (λ k apart. all k ∙ entries_of-without_other k p (by_party l) apart),
            seen,
          )

      -- the party asks
      pub asks : (b : Bool) → (IsTrue b → Departs (seat_of l (seat_at seats p)) (seat_of m o) without) → (b ≡ false → seat_of m o ≡ seat_of l (seat_at seats p))
          → IsWaiting (set seats p o) m more
          × (IsTrue b → queue (length (set seats p o)) (by_party m) ≡ queue (length seats) (without (is_party p) (by_party l)))
          × (b ≡ false → queue (length (set seats p o)) (by_party m) ≡ queue (length seats) (by_party l))
      asks true told waits =
          let done = takes (told refl) in
          (done.0, (λ t. rw (length-set seats p o, done.1) refl), (λ f. absurd (cc f)))
      asks false told waits =
          let done = as_before p o m more known (waits refl) r in
          (done.0, (λ t. absurd (cc t)), (λ f. done.1))
