-- What a machine promises by its places, said of the mutex as those see it who build on one.
use Rattle.world_mutex.proofs.Prelude.{◌≡◌, ℕ, suc, ◌<◌, ◌⊎◌, inl, inr, Bool, true, false, List, [], ◌∷◌, length, Option, Some, IsSome, refl, sym, ap, arith, subst, ◌∙◌, get_or-set_same, Entry, entries_of, Memory, Starved, Effect, nothing, changes, does, joins, asks, leaves, notifies, notifies_additionally, marked_count, Place, LockCall, Found, Free, Held, SomeStarved, End, Got, Pending, NotFree, GivenBack, Refused, Next, start_of, action_of, next_of, place_after, step_of, Acts, Finds, Lock, SameRoles, place_at, Change, takes, releases, starves, recovers, ListName, Course, Begins, may_begin, is_called, is_releasing, reveal, conceal, revealed, Mutex, course_at, TakesAtOnce, CountsNobody, HandsOn, BeginsToHandOn, course_of, is_kept, AreKept, seen, IsDone}
use Rattle.lock_program.specs.MutexRoles as by
use Rattle.world_mutex.specs.machine.Courses as way
use Rattle.world_mutex.specs.machine.Acts as acts
use Rattle.world_mutex.specs.machine.Legal as legal
use Rattle.world_mutex.specs.machine.Ranks as ranks
use Rattle.world_mutex.specs.machine.Course.{GoesOn, holds, counted, decision, is_waiting, is_counting, is_told, is_due, may_tell, last_steps}
use Rattle.world_mutex.specs.machine.Mutex.{holders, starved, left_after, IsAtRest, TakenFairly, IsMutex}
use Rattle.world_mutex.specs.machine.Conduct.{decided_then, IsUnrefused, IsReason, IsAllowed, IsLegal, HeedsClock}
use Rattle.world_mutex.proofs.of_machine.laws.Kept.{after}
use Rattle.world_mutex.proofs.of_machine.legal.Legal.{begins_fresh}
use Rattle.world_mutex.proofs.of_machine.legal.Promised.{HandsOn as HandsOnThere, begins_uncounted, begins_heedless, none_counted, told_on, begins_told}
use Rattle.world_mutex.proofs.of_machine.laws.Starts.{start_same}
use Rattle.world_mutex.proofs.of_machine.legal.Sights.{begins_so, goes_so, may_start, holds_same, counted_same, listed_same, waiting_same, told_same, counting_same, due_same, telling_same, releasing_same, decision_same, rests_there, rests_here, looks, at_seen, length_seen, holders_seen, starved_seen, holder_seen, roster_seen, steps_seen, some_left, last_there}
use Rattle.world_mutex.proofs.of_machine.legal.Asked.{asks_here, looks_here}

pub same_place : (x : Place) → SameRoles x x
same_place x = record { holding = refl; starving = refl; standing = refl; waiting = refl; owing = refl; counting = refl; telling = refl; releasing = refl }

decided_same : (n : Next) (x : Place) → is_kept x ≡ true → decided_then (step_of n) (course_of x) ≡ legal.decided_then n x
decided_same (Next.Do a q) x k = decision_same x k
decided_same (Next.End e) x k = refl

pub told_there : (n : Next) (x : Place) (l : List (Entry ℕ)) → HandsOnThere n x l → HandsOn (step_of n) (course_of x) l
told_there (Next.Do a q) x l h = told_same x ∙ h
told_there (Next.End (Refused r)) x l h = h
told_there (Next.End Got) x l h = tt
told_there (Next.End Pending) x l h = tt
told_there (Next.End NotFree) x l h = tt
told_there (Next.End GivenBack) x l h = tt
told_there (Next.End _) x l h = tt

pub known_there : (l : Lock) (m : Mutex) (p : ℕ) → seen l ≡ m → p < length m.courses → p < length l.places
known_there l m p e h = omega (arith, h, ap (λ x. length x.courses) e, length_seen l.places)

module _ (l : Lock) where
  here : (p : ℕ) → course_at (seen l).courses p ≡ course_of (place_at l.places p)
  here p = at_seen l.places p

  pub counted_here : (p : ℕ) → counted (course_at (seen l).courses p) ≡ by.counted (place_at l.places p)
  counted_here p = ap counted (here p) ∙ counted_same (place_at l.places p)

  pub holds_here : (p : ℕ) → holds (course_at (seen l).courses p) ≡ by.holds (place_at l.places p)
  holds_here p = ap holds (here p) ∙ holds_same (place_at l.places p)

  pub all_rest : (ps : List Place) → AreKept ps → IsAtRest (seen (record { places = ps; entries = []; limit = 0 })).courses → acts.IsAtRest ps
  all_rest [] k h = tt
  all_rest (x ∷ xs) k h = (rests_there x (k 0) h.0, all_rest xs (λ p. k (suc p)) h.1)

  rest_all : (ps : List Place) → acts.IsAtRest ps → IsAtRest (seen (record { places = ps; entries = []; limit = 0 })).courses
  rest_all [] h = tt
  rest_all (x ∷ xs) h = (rests_here x h.0, rest_all xs h.1)

  due_seen : (q : ℕ) → is_due (course_at (seen l).courses q) ≡ way.is_due (place_at l.places q)
  due_seen q = ap is_due (here q) ∙ due_same (place_at l.places q)

  waiting_seen : (q : ℕ) → is_waiting (course_at (seen l).courses q) ≡ way.is_waiting (place_at l.places q)
  waiting_seen q = ap is_waiting (here q) ∙ waiting_same (place_at l.places q)

  pub is_mutex : AreKept l.places → acts.IsMutex l → IsMutex (seen l)
  is_mutex kept m = record {
    one_holder = rw (holders_seen l.places) m.one_holder;
    few_starved = rw (starved_seen l.places) m.few_starved;
    owners = λ p. m.owners p ∙ (sym (listed_same (place_at l.places p)) ∙ ap (λ c. Rattle.world_mutex.specs.machine.Course.listed c) (sym (here p)));
    in_order = m.in_order;
    one_told = m.one_told;
    told_or_due = λ free p waiting. elim (m.told_or_due (sym (holders_seen l.places) ∙ free) p (sym (waiting_seen p) ∙ waiting)) as (λ _. (0 < marked_count l.entries) ⊎ ((q : ℕ) × (is_due (course_at (seen l).courses q) ≡ true))) [ inl some ↦ inl some | inr one ↦ inr (one.0, due_seen one.0 ∙ one.1) ];
    wakes = λ rest free some. m.wakes (all_rest l.places kept rest) (sym (holders_seen l.places) ∙ free) some;
    starved_listed = λ rest p own. m.starved_listed (all_rest l.places kept rest) p (sym (counted_here p) ∙ own);
    some_left = λ p. rw (steps_seen l p) (some_left (place_at l.places p) (ranks.is_own_marked l p) (ranks.is_open l));
    last_left = λ p e decided. (
        let there = last_there (place_at l.places p) (ranks.is_own_marked l p) (ranks.is_open l) e (kept p) (sym (ap decision (here p)) ∙ decided) in
        (steps_seen l p ∙ there.0 ∙ ap last_steps (sym (here p)), omega (arith, steps_seen l p, there.1)));
  }

  -- and back
  pub was_mutex : IsMutex (seen l) → acts.IsMutex l
  was_mutex m = record {
    one_holder = rw (← holders_seen l.places) m.one_holder;
    few_starved = rw (← starved_seen l.places) m.few_starved;
    owners = λ p. m.owners p ∙ (ap (λ c. Rattle.world_mutex.specs.machine.Course.listed c) (here p) ∙ listed_same (place_at l.places p));
    in_order = m.in_order;
    one_told = m.one_told;
    told_or_due = λ free p waiting. elim (m.told_or_due (holders_seen l.places ∙ free) p (waiting_seen p ∙ waiting)) as (λ _. (0 < marked_count l.entries) ⊎ ((q : ℕ) × (way.is_due (place_at l.places q) ≡ true))) [ inl some ↦ inl some | inr one ↦ inr (one.0, sym (due_seen one.0) ∙ one.1) ];
    wakes = λ rest free some. m.wakes (rest_all l.places rest) (holders_seen l.places ∙ free) some;
    starved_listed = λ rest p own. m.starved_listed (rest_all l.places rest) p (counted_here p ∙ own);
  }

  allowed : (p : ℕ) (d : Effect Change ListName) → legal.IsAllowed p d l → IsAllowed p d (seen l)
  allowed p (changes takes) h = (holders_seen l.places ∙ h.0, elim h.1 as (λ _. (starved (seen l) ≡ 0) ⊎ (counted (course_at (seen l).courses p) ≡ 1)) [ inl none ↦ inl (starved_seen l.places ∙ none) | inr own ↦ inr (counted_here p ∙ own) ])
  allowed p (changes releases) h = holds_here p ∙ h
  allowed p (changes starves) h = (counted_here p ∙ h.0, rw (starved_seen l.places) h.1)
  allowed p (changes recovers) h = counted_here p ∙ h
  allowed p nothing h = tt
  allowed p (does list (notifies n)) h = (h.0, ap may_tell (here p) ∙ telling_same (place_at l.places p) h.1)
  allowed p (does list (notifies_additionally n)) h = h
  allowed p (does list joins) h = tt
  allowed p (does list asks) h = tt
  allowed p (does list leaves) h = tt

module _ (l k : Lock) where
  reason : (memory : Bool) (p : ℕ) (e : End) → legal.IsReason memory p l k e → IsReason memory p (seen l) (seen k) e
  reason memory p Got h = holder_seen 0 k.places ∙ h
  reason memory p Pending h = h
  reason memory p NotFree h = elim h as (λ _. (holders (seen l) ≡ 1) ⊎ (0 < starved (seen l))) [ inl held ↦ inl (holders_seen l.places ∙ held) | inr some ↦ inr (rw (starved_seen l.places) some) ]
  reason memory p GivenBack h = tt
  reason memory p (Refused Memory) h = (h.0, h.1, h.2, holder_seen 0 k.places ∙ (h.3 ∙ sym (holder_seen 0 l.places)), roster_seen k.places ∙ (h.4 ∙ sym (roster_seen l.places)))
  reason memory p (Refused Starved) h = (starved_seen l.places ∙ h.0, counted_here l p ∙ h.1, h.2, holder_seen 0 k.places ∙ (h.3 ∙ sym (holder_seen 0 l.places)), roster_seen k.places ∙ (h.4 ∙ sym (roster_seen l.places)), ap is_counting (at_seen l.places p) ∙ (counting_same (place_at l.places p) ∙ h.5))
  reason memory p _ h = absurd h

  module _ (n : Next) (p : ℕ) (kept : AreKept k.places) where
    then : decided_then (step_of n) (course_at (seen k).courses p) ≡ legal.decided_then n (place_at k.places p)
    then = ap (decided_then (step_of n)) (at_seen k.places p) ∙ decided_same n (place_at k.places p) (kept p)

    pub is_legal : (memory : Bool) (decided : Option End) → legal.IsLegal memory p decided n l k → IsLegal memory p decided (step_of n) (seen l) (seen k)
    is_legal memory decided g = record {
      effect = g.effect;
      allowed = allowed l p g.effect g.allowed;
      holder = holder_seen 0 k.places ∙ (g.holder ∙ ap (Rattle.world_mutex.specs.machine.Effects.holder_after p g.effect) (sym (holder_seen 0 l.places)));
      starved = roster_seen k.places ∙ (g.starved ∙ ap (Rattle.world_mutex.specs.machine.Effects.starved_after p g.effect) (sym (roster_seen l.places)));
      entries = g.entries;
      found_memory = g.found_memory;
      limit = g.limit;
      parties = length_seen k.places ∙ (g.parties ∙ sym (length_seen l.places));
      others = λ q apart. at_seen k.places q ∙ (ap course_of (g.others q apart) ∙ sym (at_seen l.places q));
      kept = λ e d. let b = g.kept e d in (then ∙ b.0, b.1);
      holds_on = g.holds_on;
      keeps_lock = g.keeps_lock;
      refused_idly = λ r d t. g.refused_idly r d (sym then ∙ t);
      releases = λ is. g.releases (sym (releasing_same (place_at l.places p)) ∙ (sym (ap is_releasing (at_seen l.places p)) ∙ is));
      refuses = λ r d none plain. (let b = g.refuses r d (sym (ap Rattle.world_mutex.specs.machine.Course.listed (here l p) ∙ listed_same (place_at l.places p)) ∙ none) (sym (counted_here l p) ∙ plain) in (b.0, ap step_of b.1));
      reason = λ e d t. reason memory p e (g.reason e d (sym then ∙ t));
    }

    pub is_unrefused : legal.IsUnrefused n (place_at k.places p) → IsUnrefused (step_of n) (course_at (seen k).courses p)
    is_unrefused u r h = u r (sym then ∙ h)

  pub fairly : acts.TakenFairly l k → TakenFairly (seen l) (seen k)
  fairly f q out has =
      let b = f q (sym (holds_here l q) ∙ out) (sym (holds_here k q) ∙ has) in
      (holders_seen l.places ∙ b.0, elim b.1 as (λ _. (starved (seen l) ≡ 0) ⊎ (counted (course_at (seen l).courses q) ≡ 1)) [ inl none ↦ inl (starved_seen l.places ∙ none) | inr own ↦ inr (counted_here l q ∙ own) ])

  pub left_seen : (n : Next) (p : ℕ) → left_after (step_of n) (seen k) p ≡ ranks.left_after n k p
  left_seen (Next.Do a q) p = steps_seen k p
  left_seen (Next.End e) p = refl

  -- what was done behind the one led to what is behind the other
  pub is_done : (Does : Next → Lock → Lock → Type 0) (n : Next) → AreKept l.places → Does n l k → IsDone Does (step_of n) (seen l) (seen k)
  is_done Does n kept d =
      let D : Lock → Type 0 = λ x. Does n x (reveal (conceal k)) in
      record {
        next = n;
        step = refl;
        before = ap seen (sym (revealed l));
        kept = subst (λ x. AreKept x.places) (sym (revealed l)) kept;
        after = ap seen (sym (revealed k));
        does = subst D (sym (revealed l)) (subst (Does n l) (sym (revealed k)) d);
      }

  -- ---- of one action

  module _ (memory : Bool) (p : ℕ) (from : Place) (n : Next) (known : p < length l.places) (did : Acts memory p from n l k) where
    lands : course_at (seen k).courses p ≡ course_of (after from did.found)
    lands = at_seen k.places p ∙ ap course_of (ap (λ ps. place_at ps p) did.places ∙ (get_or-set_same l.places p (place_after from n) Place.Out known ∙ ap (place_after from) did.next_is))

    heeds : (starving : Bool) (x : Place) (f : Found) → Finds memory (action_of x) f l → x ≡ Place.Retry → way.HeedsClock starving x (next_of x f) → acts.holders l ≡ 1 → acts.starved l ≡ 0 → way.is_counting (after x f) ≡ starving
    heeds starving Place.Retry Free e at c one none = absurd (omega (arith, e.0, one))
    heeds starving Place.Retry (Held true) e at c one none = sym c
    heeds starving Place.Retry (Held false) e at c one none = sym c
    heeds starving Place.Retry SomeStarved e at c one none = absurd (omega (arith, e, none))
    heeds starving Place.Retry _ e at c one none = absurd e
    heeds starving _ f e at c one none = absurd (cc)

    pub clock : (starving : Bool) → from ≡ place_at l.places p → way.HeedsClock starving from n → HeedsClock starving (course_at (seen l).courses p) (seen l) (course_at (seen k).courses p)
    clock starving is c called one none =
        let at : from ≡ Place.Retry = is ∙ looks (place_at l.places p) (sym (ap is_called (at_seen l.places p)) ∙ called) in
        let C : Next → Type 0 = λ m. way.HeedsClock starving from m in
        ap is_counting lands ∙ (counting_same (after from did.found) ∙ heeds starving from did.found did.finds at (subst C did.next_is c) (sym (holders_seen l.places) ∙ one) (sym (starved_seen l.places) ∙ none))

    pub patient : (starving : Bool) → SameRoles from (place_at l.places p) → way.HeedsClock starving from n → (way.is_counting (place_at l.places p) ≡ false → way.is_counting from ≡ false) → CountsNobody starving p (seen l) (seen k)
    patient starving same c quiet still none not_next =
        let C : Bool → Type 0 = λ b. way.HeedsClock b from n in
        let b = none_counted memory p from n l k did (subst C still c) known same (sym (starved_seen l.places) ∙ none) (quiet (sym (counting_same (place_at l.places p)) ∙ (sym (ap is_counting (at_seen l.places p)) ∙ not_next))) in
        (starved_seen k.places ∙ b.0, ap is_counting (at_seen k.places p) ∙ (counting_same (place_at k.places p) ∙ b.1))

    pub hands_on : way.is_told from ≡ true → HandsOn (step_of n) (course_at (seen k).courses p) k.entries
    hands_on told =
        let H : Course → Type 0 = λ x. HandsOn (step_of n) x k.entries in
        subst H (sym (at_seen k.places p)) (told_there n (place_at k.places p) k.entries (told_on memory p from n l k did known told))

    -- an entrance that finds the lock free leads to it
    got : (x : Place) (f : Found) → Finds memory (action_of x) f l → (x ≡ Place.Enter) ⊎ (x ≡ Place.Try) → acts.holders l ≡ 0 → acts.starved l ≡ 0 → next_of x f ≡ Next.End Got
    got Place.Enter Free e h free none = refl
    got Place.Enter (Held b) e h free none = absurd (omega (arith, e.0, free))
    got Place.Enter SomeStarved e h free none = absurd (omega (arith, e, none))
    got Place.Enter _ e h free none = absurd e
    got Place.Try Free e h free none = refl
    got Place.Try (Held b) e h free none = absurd (omega (arith, e.0, free))
    got Place.Try SomeStarved e h free none = absurd (omega (arith, e, none))
    got Place.Try _ e h free none = absurd e
    got _ f e h free none = absurd (elim h as (λ _. ⊥) [ inl e ↦ cc | inr e ↦ cc ])

    pub at_once : (c : LockCall) → start_of c (place_at l.places p) ≡ Some from → entries_of p l.entries ≡ by.listed (place_at l.places p) → legal.TakesAtOnce c p l k → TakesAtOnce c p (step_of n) (seen l) (seen k)
    at_once c starts own t = record {
      takes = λ fresh. let b = t fresh in (
        (λ has. let r = b.0 (sym (holder_seen 0 k.places) ∙ has) in (holders_seen l.places ∙ r.0, starved_seen l.places ∙ r.1)),
        (λ free. holder_seen 0 k.places ∙ b.1 (sym (holders_seen l.places) ∙ free.0, sym (starved_seen l.places) ∙ free.1)),
      );
      ends = λ fresh free none. ap step_of (did.next_is ∙ got from did.found did.finds (begins_fresh c (place_at l.places p) from (entries_of p l.entries) own starts fresh) (sym (holders_seen l.places) ∙ free) (sym (starved_seen l.places) ∙ none));
      looks = λ fresh. looks_here l k memory p from n did (start_same c (place_at l.places p) from starts).starving (begins_fresh c (place_at l.places p) from (entries_of p l.entries) own starts fresh);
      listed = λ polls some. asks_here l k memory p from n did c starts polls (omega (arith, own, some));
    }

    polled : start_of LockCall.Poll (place_at l.places p) ≡ Some from → is_waiting (course_at (seen l).courses p) ≡ true → HandsOn (step_of n) (course_at (seen k).courses p) k.entries
    polled starts waits = hands_on (begins_told (place_at l.places p) from (sym (waiting_same (place_at l.places p)) ∙ (sym (ap is_waiting (at_seen l.places p)) ∙ waits)) starts)

    pub begins_told_on : (c : LockCall) → start_of c (place_at l.places p) ≡ Some from → BeginsToHandOn c (course_at (seen l).courses p) (step_of n) (course_at (seen k).courses p) k.entries
    begins_told_on LockCall.Poll starts = polled starts
    begins_told_on LockCall.Lock starts = tt
    begins_told_on LockCall.Try starts = tt
    begins_told_on LockCall.Release starts = tt
    begins_told_on LockCall.Cancel starts = tt

    -- the first action of a call counts nobody
    pub begins_patient : (c : LockCall) (starving : Bool) → start_of c (place_at l.places p) ≡ Some from → CountsNobody starving p (seen l) (seen k)
    begins_patient c starving starts = patient starving (start_same c (place_at l.places p) from starts) (begins_heedless c (place_at l.places p) from n starving starts) (λ quiet. begins_uncounted c (place_at l.places p) from starts)

-- ---- where a party's call is, and where it goes

pub goes_here : (l k : Lock) (p : ℕ) (n : Next) → way.GoesOn (place_at l.places p) n (place_at k.places p) → GoesOn (course_at (seen l).courses p) (step_of n) (course_at (seen k).courses p)
goes_here l k p n g = rw (at_seen l.places p, at_seen k.places p) (goes_so (place_at l.places p) n (place_at k.places p) g)

pub begins_here : (k : Lock) (p : ℕ) (c : LockCall) (n : Next) → way.Begins c n (place_at k.places p) → Begins c (step_of n) (course_at (seen k).courses p)
begins_here k p c n b = rw (at_seen k.places p) (begins_so c n (place_at k.places p) b)

pub can_there : (l : Lock) (m : Mutex) (p : ℕ) (c : LockCall) → seen l ≡ m → AreKept l.places → may_begin c (course_at m.courses p) ≡ true → IsSome (start_of c (place_at l.places p))
can_there l m p c e kept can = may_start c (place_at l.places p) (kept p) (ap (may_begin c) (sym (at_seen l.places p)) ∙ (ap (λ x. may_begin c (course_at x.courses p)) e ∙ can))

pub decided_here : (l : Lock) (p : ℕ) → is_kept (place_at l.places p) ≡ true → decision (course_at (seen l).courses p) ≡ legal.decision (place_at l.places p)
decided_here l p kept = ap decision (at_seen l.places p) ∙ decision_same (place_at l.places p) kept

pub told_here : (l : Lock) (p : ℕ) → is_told (course_at (seen l).courses p) ≡ true → way.is_told (place_at l.places p) ≡ true
told_here l p told = sym (told_same (place_at l.places p)) ∙ (sym (ap is_told (at_seen l.places p)) ∙ told)
