-- Polls in a row, each carried out alone while the lock is free, as those see them who build on a mutex.
use Rattle.world_mutex.proofs.Prelude.{◌≡◌, ℕ, zero, suc, ◌<◌, ◌⊎◌, inl, inr, Bool, true, List, [], ◌∷◌, length, refl, sym, ap, arith, subst, ◌∙◌, sum_by, sum_by-cons, Entry, Starved, End, Pending, Refused, Next, Acts, Lock, place_at, Course, out, holding, waiting, reveal, Mutex, course_at, course_of, AreKept, seen, further}
use Rattle.world_base.proofs.of_table.Resting.{one_at_rest}
use Rattle.world_mutex.specs.machine.Acts as acts
use Rattle.world_mutex.specs.machine.Solo as by
use Rattle.world_mutex.specs.machine.Course.{counted, listed, is_resting, is_waiting}
use Rattle.world_mutex.specs.machine.Mutex.{holders, starved, IsStarved, IsAtRest, IsMutex}
use Rattle.world_mutex.specs.machine.Alone.{GoesOnAlone, last, PollsAlone, at_once, begun, IsCalled, unstarved, Took, StandsBack, GaveWay, PollsInTurn, SoloPolls}
use Rattle.world_mutex.proofs.of_machine.legal.Clauses.{was_mutex, all_rest, counted_here}
use Rattle.world_mutex.proofs.of_machine.legal.Sights.{ended, went_on, waiting_same, at_seen, holders_seen, starved_seen}
use Rattle.world_mutex.proofs.of_machine.solo_polls.SoloPolls as places

-- the machine behind a mutex
abbrev behind : Mutex → Lock
behind m = reveal m.behind

abbrev IsSeen : Mutex → Type 0
IsSeen m = m ≡ seen (behind m)

-- ---- what was done behind

module _ (memory : Bool) (p : ℕ) (e : End) (new : Mutex) where
  goes : (old : Mutex) → GoesOnAlone memory p e new old → by.GoesOnAlone memory p e (behind new) (behind old) × IsSeen new
  goes old (last old_then d) =
      let A : Next → Type 0 = λ n. Acts memory p (place_at (behind old).places p) n (behind old) (behind new) in
      (by.last (behind old) (subst A (ended d.next e d.step) d.does), d.after)
  goes old (further old_then mid d g) =
      let A : Next → Type 0 = λ n. Acts memory p (place_at (behind old).places p) n (behind old) (behind mid) in
      let w = went_on d.next d.step in
      let r = goes mid g in
      (by.step (behind old) (behind mid) w.0 w.1 (subst A w.2 d.does) r.0, r.1)

  record Polled (old : Mutex) : Type 0 where
    pub before : IsSeen old
    pub kept : AreKept (behind old).places
    pub after : IsSeen new
    pub polls : by.PollsAlone memory p e (behind new) (behind old)

  polled : (old : Mutex) → PollsAlone memory p e new old → Polled old
  polled old (at_once old_then d) =
      let B : Next → Type 0 = λ n. by.BeginsPoll memory p n (behind old) (behind new) in
      record { before = d.before; kept = d.kept; after = d.after; polls = by.at_once (behind old) (subst B (ended d.next e d.step) d.does) }
  polled old (begun old_then mid d g) =
      let B : Next → Type 0 = λ n. by.BeginsPoll memory p n (behind old) (behind mid) in
      let w = went_on d.next d.step in
      let r = goes mid g in
      record { before = d.before; kept = d.kept; after = r.1; polls = by.begun (behind old) (behind mid) w.0 w.1 (subst B w.2 d.does) r.0 }

called_there : (m : Mutex) (p : ℕ) → IsSeen m → IsCalled m p → by.IsCalled (behind m) p
called_there m p s c =
    let C : Mutex → Type 0 = λ x. IsCalled x p in
    let d : IsCalled (seen (behind m)) p = subst C s c in
    (sym (waiting_same (place_at (behind m).places p)) ∙ (sym (ap is_waiting (at_seen (behind m).places p)) ∙ d.0), d.1)

in_turn : (n : ℕ) (old new : Mutex) → IsSeen old → PollsInTurn n old new → by.PollsInTurn n (behind old) (behind new)
in_turn zero old new s t = ap behind t
in_turn (suc n) old new s t =
    let d = polled true t.0 t.1 t.2 old t.5 in
    (t.0, t.1, behind t.2, called_there old t.0 s t.3, t.4, d.polls, in_turn n t.2 new d.after t.6)

-- ---- what comes of it, as it is seen

module _ (p : ℕ) (l k : Lock) where
  took : (e : End) → by.Took p e k → Took p e (seen k)
  took e t = (t.0, at_seen k.places p ∙ ap course_of t.1)

  stands_back : (e : End) → by.StandsBack p l e k → StandsBack p (seen l) e (seen k)
  stands_back Pending h = (at_seen k.places p ∙ ap course_of h.0, h.1)
  stands_back (Refused Starved) h = (at_seen k.places p ∙ ap course_of h.0, h.1, starved_seen l.places ∙ h.2)
  stands_back _ h = absurd h

unstarved_seen : (l : Lock) (es : List (Entry ℕ)) → sum_by (λ e. unstarved (seen l) e.key) es ≡ sum_by (λ e. by.unstarved l e.key) es
unstarved_seen l [] = refl
unstarved_seen l (e ∷ es) = omega (arith, sum_by-cons (λ e. unstarved (seen l) e.key) e es, sum_by-cons (λ e. by.unstarved l e.key) e es, counted_here l e.key, unstarved_seen l es)

gave_way : (p : ℕ) (l k : Lock) (e : End) → by.GaveWay p l e k → GaveWay p (seen l) e (seen k)
gave_way p l k e g = record {
  unstarved_here = at_seen l.places p ∙ ap course_of g.unstarved_here;
  starved_there = rw (starved_seen l.places) g.starved_there;
  stands_back = stands_back p l k e g.stands_back;
  others = λ q apart. at_seen k.places q ∙ (ap course_of (g.others q apart) ∙ sym (at_seen l.places q));
  free = holders_seen k.places ∙ g.free;
  notified = g.notified;
  fewer = omega (arith, g.fewer, unstarved_seen k k.entries, unstarved_seen l l.entries);
}

-- ---- the law

-- a listed party that rests is pending
pending_at : (x : Course) → is_resting x ≡ true → 0 < listed x → is_waiting x ≡ true
pending_at out h there = absurd (omega arith)
pending_at holding h there = absurd (omega arith)
pending_at (waiting starved) h there = refl
pending_at _ h there = absurd (cc)

module _ (m : Mutex) (laws : IsMutex m) (free : holders m ≡ 0) where
  module _ (s : IsSeen m) where
    law_there : by.SoloPolls (behind m)
    law_there =
        let none : holders (seen (behind m)) ≡ 0 = ap holders (sym s) ∙ free in
        places.solo_polls (behind m) (was_mutex (behind m) (subst IsMutex s laws)) (sym (holders_seen (behind m).places) ∙ none)

    counts_there : (p : ℕ) → IsStarved m p ⊎ (starved m ≡ 0) → acts.IsStarved (behind m) p ⊎ (acts.starved (behind m) ≡ 0)
    counts_there p why =
        let S : Mutex → Type 0 = λ x. IsStarved x p ⊎ (starved x ≡ 0) in
        elim (subst S s why) as (λ _. acts.IsStarved (behind m) p ⊎ (acts.starved (behind m) ≡ 0)) [ inl own ↦ inl (sym (counted_here (behind m) p) ∙ own) | inr none ↦ inr (sym (starved_seen (behind m).places) ∙ none) ]

  module _ (p : ℕ) (e : End) (new : Mutex) (called : IsCalled m p) (polls : PollsAlone true p e new m) where
    d : Polled true p e new m
    d = polled true p e new m polls

    abbrev Came : Mutex → Mutex → Type 0
    Came x y = Took p e y ⊎ GaveWay p x e y

    came : Came m new
    came =
        let it : Came (seen (behind m)) (seen (behind new)) = elim ((law_there d.before).takes_or_gives_way p e (behind new) (called_there m p d.before called) d.polls) as (λ _. Came (seen (behind m)) (seen (behind new))) [ inl t ↦ inl (took p (behind m) (behind new) e t) | inr g ↦ inr (gave_way p (behind m) (behind new) e g) ] in
        let C : Mutex → Type 0 = λ x. Came x (seen (behind new)) in
        subst (Came m) (sym d.after) (subst C (sym d.before) it)

    -- at rest
    waits_behind : IsAtRest m.courses → counted (course_at m.courses p) ≡ 0 → 0 < starved m → GaveWay p m e new
    waits_behind rest plain some =
        let R : Mutex → Type 0 = λ x. IsAtRest x.courses × (counted (course_at x.courses p) ≡ 0) × (0 < starved x) in
        let so : R (seen (behind m)) = subst R d.before (rest, plain, some) in
        let there = (law_there d.before).behind (all_rest (behind m) (behind m).places d.kept so.0) p e (behind new) (called_there m p d.before called) (sym (counted_here (behind m) p) ∙ so.1) (rw (starved_seen (behind m).places) at so.2) d.polls in
        let G : Mutex → Type 0 = λ x. GaveWay p x e (seen (behind new)) in
        subst (GaveWay p m e) (sym d.after) (subst G (sym d.before) (gave_way p (behind m) (behind new) e there))

  module _ (memory : Bool) (p : ℕ) (e : End) (new : Mutex) (called : IsCalled m p) (polls : PollsAlone memory p e new m) where
    abbrev Took_there : Mutex → Type 0
    Took_there y = Took p e y

    must_take : IsStarved m p ⊎ (starved m ≡ 0) → Took p e new
    must_take why =
        let d = polled memory p e new m polls in
        subst Took_there (sym d.after) (took p (behind m) (behind new) e ((law_there d.before).takes memory p e (behind new) (called_there m p d.before called) (counts_there d.before p why) d.polls))

  fewer_than_listed : IsAtRest m.courses → 0 < length m.entries → (n : ℕ) (new : Mutex) → PollsInTurn n m new → n < length m.entries
  fewer_than_listed rest some zero new t = some
  fewer_than_listed rest some (suc n) new t =
      let d = polled true t.0 t.1 t.2 m t.5 in
      let same : (behind m).entries ≡ m.entries = ap (λ x. x.entries) (sym d.before) in
      let R : Mutex → Type 0 = λ x. IsAtRest x.courses in
      rw same at ((law_there d.before).one_takes (all_rest (behind m) (behind m).places d.kept (subst R d.before rest)) (rw same some) (suc n) (behind new) (in_turn (suc n) m new d.before t))

-- what polls do that are carried out alone while the lock is free
pub solo_polls : (m : Mutex) → IsMutex m → holders m ≡ 0 → SoloPolls m
solo_polls m laws free = record {
  takes_or_gives_way = λ p e new called polls. came m laws free p e new called polls;
  takes = λ memory p e new called why polls. must_take m laws free memory p e new called polls why;
  some_called = λ rest some.
      let found = places.first_marked m.entries laws.in_order (laws.wakes rest free some) in
      let there : 0 < listed (course_at m.courses found.0) = omega (arith, laws.owners found.0, found.2) in
      (found.0, (pending_at (course_at m.courses found.0) (one_at_rest is_resting out refl m.courses rest found.0) there, found.1));
  one_takes = fewer_than_listed m laws free;
  behind = λ rest p e new called plain some polls. waits_behind m laws free p e new called polls rest plain some;
}
