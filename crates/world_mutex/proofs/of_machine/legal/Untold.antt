-- A poll that took no notification, and a try: beside starved parties it waits as one of them, is refused or in vain; where there are none it isn't counted.
use Rattle.world_mutex.proofs.Prelude.{◌≡◌, ℕ, ◌+◌, ◌<◌, ◌⊎◌, inl, inr, Bool, true, false, List, length, refl, arith, ap, sym, ◌∙◌, subst, get_or-set_same, nat_tests, false≢true, true≢false, sum_by-set, set, sum_by, Entry, is_marked_at, is_party, entries_of, is_refusal, joined_unmarked, Refusal, refused, End, Step, Found, Done, Free, Held, SomeStarved, AtLimit, NoMemory, Yes, No, Next, Place, Enter, Join, Look, Ask, Count, AskStarved, Leave, RefuseLeave, action_of, next_of, place_after, step_of, counted, listed, Acts, Finds, Lock, SameRoles, place_at, OnParties, course_at, course_of, AreKept, is_kept, seen}
use Rattle.std.specs.Prelude.{nat_lt}
use Rattle.world_base.proofs.Lists.{unlisted_unmarked}
use Rattle.world_mutex.specs.machine.Acts as by
use Rattle.world_mutex.specs.machine.Conduct.{is_some_starved, IsUntold, StaysUntold}
use Rattle.world_mutex.specs.machine.Course.{is_untold}
use Rattle.world_mutex.specs.machine.Mutex.{starved}
use Rattle.world_mutex.proofs.of_machine.legal.Sights.{at_seen, starved_seen}

-- whether some party is starved
abbrev pub AreSome : Bool → ℕ → Type 0
AreSome true n = 0 < n
AreSome false n = n ≡ 0

-- where such a poll comes by, and what it knows of its entry
abbrev pub NewAt : Bool → Place → ℕ → List (Entry ℕ) → Type 0
NewAt b Enter p l = Unit {0}
NewAt b (Join false) p l = is_marked_at (is_party p) l ≡ false
NewAt b (Look false) p l = is_marked_at (is_party p) l ≡ false
NewAt true (Count true false) p l = is_marked_at (is_party p) l ≡ false
NewAt true AskStarved p l = is_marked_at (is_party p) l ≡ false
NewAt true (RefuseLeave false) p l = is_marked_at (is_party p) l ≡ false
NewAt false Ask p l = is_marked_at (is_party p) l ≡ false
NewAt false Leave p l = is_marked_at (is_party p) l ≡ false
NewAt b x p l = ⊥

-- how it may end
abbrev pub NewEnd : Bool → Place → End → Type 0
NewEnd true at e = ((e ≡ End.Pending) × (at ≡ AskStarved)) ⊎ ((r : Refusal) × (e ≡ End.Refused r) × (is_refusal (refused r) ≡ true))
NewEnd false at e = ((e ≡ End.Pending) × (at ≡ Ask)) ⊎ ((e ≡ End.Got) ⊎ (e ≡ End.Refused Refusal.Memory))

abbrev pub NewThen : Bool → Place → Next → ℕ → Lock → Type 0
NewThen b from (Next.Do a x) p k = AreSome b (by.starved k) × NewAt b x p k.entries
NewThen b from (Next.End e) p k = NewEnd b (place_after from (Next.End e)) e

abbrev pub Sums : Place → Found → Lock → Lock → Type 0
Sums x f l k = by.starved k + counted x ≡ by.starved l + counted (place_after x (next_of x f))

beside : (memory : Bool) (p : ℕ) (l k : Lock) (x : Place) (f : Found) → Finds memory (action_of x) f l → OnParties p (action_of x) f l.entries k.entries → Sums x f l k → 0 < by.starved l → entries_of p l.entries ≡ listed x → NewAt true x p l.entries → NewThen true x (next_of x f) p k
beside memory p l k Enter Free e o s some own h = absurd (omega (arith, e.1, some))
beside memory p l k Enter (Held b) e o s some own h = absurd (omega (arith, e.1, some))
beside memory p l k Enter SomeStarved e o s some own h = (omega (arith, s, some), ap (is_marked_at (is_party p)) o ∙ unlisted_unmarked p l.entries own)
beside memory p l k Enter _ e o s some own h = absurd e
beside memory p l k (Join false) Done e o s some own h = (omega (arith, s, some), ap (is_marked_at (is_party p)) o ∙ joined_unmarked p l.entries own)
beside memory p l k (Join false) NoMemory e o s some own h = inr (Refusal.Memory, refl, refl)
beside memory p l k (Join false) _ e o s some own h = absurd e
beside memory p l k (Look false) Free e o s some own h = absurd (omega (arith, e.1, some))
beside memory p l k (Look false) (Held b) e o s some own h = absurd (omega (arith, e.1, some))
beside memory p l k (Look false) SomeStarved e o s some own h = (omega (arith, s, some), ap (is_marked_at (is_party p)) o ∙ h)
beside memory p l k (Look false) _ e o s some own h = absurd e
beside memory p l k (Count true false) Done e o s some own h = (omega (arith, s, some), ap (is_marked_at (is_party p)) o ∙ h)
beside memory p l k (Count true false) AtLimit e o s some own h = (omega (arith, s, some), ap (is_marked_at (is_party p)) o ∙ h)
beside memory p l k (Count true false) _ e o s some own h = absurd e
beside memory p l k AskStarved Yes e o s some own h = absurd (true≢false (sym o.0 ∙ h))
beside memory p l k AskStarved No e o s some own h = inl (refl, refl)
beside memory p l k AskStarved _ e o s some own h = absurd e
beside memory p l k (RefuseLeave false) f e o s some own h = inr (Refusal.Starved, refl, refl)
beside memory p l k _ f e o s some own h = absurd h

apart : (memory : Bool) (p : ℕ) (l k : Lock) (x : Place) (f : Found) → Finds memory (action_of x) f l → OnParties p (action_of x) f l.entries k.entries → Sums x f l k → by.starved l ≡ 0 → entries_of p l.entries ≡ listed x → NewAt false x p l.entries → NewThen false x (next_of x f) p k
apart memory p l k Enter Free e o s none own h = inr (inl refl)
apart memory p l k Enter (Held b) e o s none own h = (omega (arith, s, none), ap (is_marked_at (is_party p)) o ∙ unlisted_unmarked p l.entries own)
apart memory p l k Enter SomeStarved e o s none own h = absurd (omega (arith, e, none))
apart memory p l k Enter _ e o s none own h = absurd e
apart memory p l k (Join false) Done e o s none own h = (omega (arith, s, none), ap (is_marked_at (is_party p)) o ∙ joined_unmarked p l.entries own)
apart memory p l k (Join false) NoMemory e o s none own h = inr (inr refl)
apart memory p l k (Join false) _ e o s none own h = absurd e
apart memory p l k (Look false) Free e o s none own h = (omega (arith, s, none), ap (is_marked_at (is_party p)) o ∙ h)
apart memory p l k (Look false) (Held b) e o s none own h = (omega (arith, s, none), ap (is_marked_at (is_party p)) o ∙ h)
apart memory p l k (Look false) SomeStarved e o s none own h = absurd (omega (arith, e, none))
apart memory p l k (Look false) _ e o s none own h = absurd e
apart memory p l k Ask Yes e o s none own h = absurd (true≢false (sym o.0 ∙ h))
apart memory p l k Ask No e o s none own h = inl (refl, refl)
apart memory p l k Ask _ e o s none own h = absurd e
apart memory p l k Leave f e o s none own h = inr (inl refl)
apart memory p l k _ f e o s none own h = absurd h

pub goes : (b : Bool) (memory : Bool) (p : ℕ) (l k : Lock) (x : Place) (f : Found) → Finds memory (action_of x) f l → OnParties p (action_of x) f l.entries k.entries → Sums x f l k → AreSome b (by.starved l) → entries_of p l.entries ≡ listed x → NewAt b x p l.entries → NewThen b x (next_of x f) p k
goes true memory p l k x f e o s some own h = beside memory p l k x f e o s some own h
goes false memory p l k x f e o s none own h = apart memory p l k x f e o s none own h

-- ---- as those see it who build on a mutex

new_at : (b : Bool) (x : Place) (p : ℕ) (l : List (Entry ℕ)) → is_untold b (course_of x) ≡ true → is_marked_at (is_party p) l ≡ false → NewAt b x p l
new_at b (Join false) p l u m = m
new_at b (Look false) p l u m = m
new_at true (Count true false) p l u m = m
new_at true AskStarved p l u m = m
new_at true (RefuseLeave false) p l u m = m
new_at false Ask p l u m = m
new_at false Leave p l u m = m
new_at true (Join true) p l u m = absurd (false≢true u)
new_at true (Look true) p l u m = absurd (false≢true u)
new_at true (Count true true) p l u m = absurd (false≢true u)
new_at true (Count false true) p l u m = absurd (false≢true u)
new_at true (Count false false) p l u m = absurd (false≢true u)
new_at true (RefuseLeave true) p l u m = absurd (false≢true u)
new_at true (Place.Uncount listed) p l u m = absurd (false≢true u)
new_at true _ p l u m = absurd (false≢true u)
new_at false (Join true) p l u m = absurd (false≢true u)
new_at false (Look true) p l u m = absurd (false≢true u)
new_at false (Count listed told) p l u m = absurd (false≢true u)
new_at false (RefuseLeave told) p l u m = absurd (false≢true u)
new_at false (Place.Uncount listed) p l u m = absurd (false≢true u)
new_at false _ p l u m = absurd (false≢true u)

-- where such a poll is left its party took no notification, and isn't marked
left_at : (b : Bool) (x : Place) (p : ℕ) (l : List (Entry ℕ)) → is_kept x ≡ true → NewAt b x p l → (is_untold b (course_of x) ≡ true) × (is_marked_at (is_party p) l ≡ false)
left_at b Enter p l k n = absurd (false≢true k)
left_at true (Join false) p l k n = (refl, n)
left_at false (Join false) p l k n = (refl, n)
left_at true (Look false) p l k n = (refl, n)
left_at false (Look false) p l k n = (refl, n)
left_at true (Count true false) p l k n = (refl, n)
left_at true AskStarved p l k n = (refl, n)
left_at true (RefuseLeave false) p l k n = (refl, n)
left_at false Ask p l k n = (refl, n)
left_at false Leave p l k n = (refl, n)
left_at true _ p l k n = absurd n
left_at false _ p l k n = absurd n

-- whether some party is starved, as it is seen
are_some : (b : Bool) (n : ℕ) → nat_lt 0 n ≡ b → AreSome b n
are_some true n e = grind (arith, nat_tests)
are_some false n e = grind (arith, nat_tests)

some_are : (b : Bool) (n : ℕ) → AreSome b n → nat_lt 0 n ≡ b
some_are true n e = grind (arith, nat_tests)
some_are false n e = grind (arith, nat_tests)

module _ (l k : Lock) (memory : Bool) (p : ℕ) (from : Place) (n : Next) (known : p < length l.places) (kept : AreKept k.places) (did : Acts memory p from n l k) (same : SameRoles from (place_at l.places p)) (own : entries_of p l.entries ≡ listed (place_at l.places p)) where
  abbrev b : Bool
  b = is_some_starved (seen l)

  there : AreSome b (by.starved l)
  there = subst (AreSome b) (starved_seen l.places) (are_some b (starved (seen l)) refl)

  lands : place_at k.places p ≡ place_after from n
  lands = ap (λ ps. place_at ps p) did.places ∙ get_or-set_same l.places p (place_after from n) Place.Out known

  seen_then : course_at (seen k).courses p ≡ course_of (place_after from n)
  seen_then = at_seen k.places p ∙ ap course_of lands

  ends : (c : Bool) (e : End) (at : Place) → course_at (seen k).courses p ≡ course_of at → NewEnd c at e → StaysUntold p c (Step.End e) (seen k)
  ends true e at is (inl q) =
      let S : End → Type 0 = λ z. StaysUntold p true (Step.End z) (seen k) in
      subst S (sym q.0) (is ∙ ap course_of q.1)
  ends true e at is (inr r) =
      let S : End → Type 0 = λ z. StaysUntold p true (Step.End z) (seen k) in
      subst S (sym r.1) (by_refusal r.0) where
        by_refusal : (r : Refusal) → StaysUntold p true (Step.End (End.Refused r)) (seen k)
        by_refusal Refusal.Starved = refl
        by_refusal _ = tt
  ends false e at is (inl q) =
      let S : End → Type 0 = λ z. StaysUntold p false (Step.End z) (seen k) in
      subst S (sym q.0) (is ∙ ap course_of q.1)
  ends false e at is (inr (inl q)) =
      let S : End → Type 0 = λ z. StaysUntold p false (Step.End z) (seen k) in
      subst S (sym q) refl
  ends false e at is (inr (inr q)) =
      let S : End → Type 0 = λ z. StaysUntold p false (Step.End z) (seen k) in
      subst S (sym q) tt

  by_next : (m : Next) → n ≡ m → NewThen b from m p k → StaysUntold p b (step_of m) (seen k)
  by_next (Next.Do a x) is h =
      let at : place_at k.places p ≡ x = lands ∙ ap (place_after from) is in
      let N : Place → Type 0 = λ y. NewAt b y p k.entries in
      let so = left_at b (place_at k.places p) p k.entries (kept p) (subst N (sym at) h.1) in
      ((ap (is_untold b) (at_seen k.places p) ∙ so.0, so.1), some_are b (starved (seen k)) (subst (AreSome b) (sym (starved_seen k.places)) h.0))
  by_next (Next.End e) is h = ends b e (place_after from (Next.End e)) (seen_then ∙ ap (λ m. course_of (place_after from m)) is) h

  goes_untold : NewAt b from p l.entries → StaysUntold p b (step_of n) (seen k)
  goes_untold new =
      let to : Place = place_after from (next_of from did.found) in
      let places : k.places ≡ set l.places p to = did.places ∙ ap (λ m. set l.places p (place_after from m)) did.next_is in
      let sum : sum_by counted (set l.places p to) + counted (place_at l.places p) ≡ sum_by counted l.places + counted to = sum_by-set counted l.places p to Place.Out known in
      let sums : by.starved k + counted from ≡ by.starved l + counted to = omega (arith, sum, ap (sum_by counted) places, same.starving) in
      let N : Next → Type 0 = λ m. NewThen b from m p k in
      by_next n refl (subst N (sym did.next_is) (goes b memory p l k from did.found did.finds did.list sums there (own ∙ sym same.standing) new))

  -- a try gets the lock where nobody is starved, or is in vain
  tries : (c : Bool) (x : Place) (f : Found) → Finds memory (action_of x) f l → AreSome c (by.starved l) → x ≡ Place.Try → StaysUntold p c (step_of (next_of x f)) (seen k)
  tries true Place.Try Free e some h = absurd (omega (arith, e.1, some))
  tries false Place.Try Free e some h = refl
  tries c Place.Try (Held d) e some h = tt
  tries c Place.Try SomeStarved e some h = tt
  tries c Place.Try _ e some h = absurd e
  tries c _ f e some h = absurd (cc h)

  pub begins_untold : (from ≡ Enter) ⊎ (from ≡ Place.Try) → StaysUntold p b (step_of n) (seen k)
  begins_untold (inl enters) = let N : Place → Type 0 = λ y. NewAt b y p l.entries in goes_untold (subst N (sym enters) tt)
  begins_untold (inr is) =
      let S : Next → Type 0 = λ m. StaysUntold p b (step_of m) (seen k) in
      subst S (sym did.next_is) (tries b from did.found did.finds there is)

  pub stays_untold : place_at l.places p ≡ from → IsUntold p b (seen l) → StaysUntold p b (step_of n) (seen k)
  stays_untold here untold = goes_untold (new_at b from p l.entries (ap (λ x. is_untold b (course_of x)) (sym here) ∙ (sym (ap (is_untold b) (at_seen l.places p)) ∙ untold.0)) untold.1)
