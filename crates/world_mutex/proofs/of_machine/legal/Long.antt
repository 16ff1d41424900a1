-- A notified party that has waited for too long, or beside whom somebody is starved, is counted as starved while another holds the lock; and a drop that gives back nothing but its place is over at once.
use Rattle.world_mutex.proofs.Prelude.{Some, some_eq, ◌≡◌, ℕ, ◌+◌, ◌<◌, ◌⊎◌, inl, inr, ◌||◌, Bool, true, false, List, length, refl, arith, ap, sym, ◌∙◌, subst, get_or-set_same, nat_tests, false≢true, true≢false, sum_by-set, set, sum_by, Entry, is_marked_at, is_party, End, Step, LockCall, Found, Done, Free, Held, SomeStarved, AtLimit, NoMemory, Yes, No, Next, Place, Retry, PassOn, Count, JoinStarved, LookAlone, PassOnListed, AskStarved, Seize, Ask, CancelLeave, action_of, next_of, place_after, step_of, start_of, counted, holds, Acts, Finds, Lock, SameRoles, place_at, OnParties, course_at, course_of, seen, listed, waits}
use Rattle.std.specs.Prelude.{nat_lt}
use Rattle.world_base.specs.Steps.{leaves, list_after}
use Rattle.world_mutex.specs.machine.Acts as by
use Rattle.world_mutex.specs.machine.Conduct.{is_some_starved, IsLong, StaysLong, BeginsLong}
use Rattle.world_mutex.specs.machine.Course as course
use Rattle.world_mutex.specs.machine.Courses as way
use Rattle.world_mutex.specs.machine.Mutex as mutex
use Rattle.world_mutex.proofs.of_machine.legal.Sights.{at_seen, starved_seen, holders_seen, holds_same, counted_same}

-- where such a poll comes by
abbrev pub LongAt : Bool → Place → Type 0
LongAt long Retry = long ≡ true
LongAt long PassOn = Unit {0}
LongAt long (Count listed told) = Unit {0}
LongAt long JoinStarved = Unit {0}
LongAt long LookAlone = Unit {0}
LongAt long PassOnListed = Unit {0}
LongAt long AskStarved = Unit {0}
LongAt long Seize = Unit {0}
LongAt long x = ⊥

abbrev Then : Place → Next → Type 0
Then x (Next.Do a y) = LongAt false y × (counted y ≡ 0 → counted x ≡ 0)
Then x (Next.End End.Pending) = place_after x (Next.End End.Pending) ≡ AskStarved
Then x (Next.End e) = ⊥

goes : (starving long : Bool) (x : Place) (f : Found) (l : Lock) → Finds true (action_of x) f l → way.HeedsClock starving x (next_of x f) → by.holders l ≡ 1 → (counted x ≡ 0 → by.starved l < l.limit) → (long ≡ true → (starving ≡ true) ⊎ (0 < by.starved l)) → LongAt long x → Then x (next_of x f)
goes starving long Retry Free l e c one below why h = absurd (omega (arith, one, e.0))
goes starving long Retry (Held true) l e c one below why h = (tt, λ z. refl)
goes starving long Retry (Held false) l e c one below why h = absurd (elim (why h) as (λ _. ⊥) [ inl is ↦ true≢false (sym is ∙ c) | inr some ↦ omega (arith, some, e.1) ])
goes starving long Retry SomeStarved l e c one below why h = (tt, λ z. refl)
goes starving long Retry _ l e c one below why h = absurd e
goes starving long PassOn f l e c one below why h = (tt, λ z. refl)
goes starving long (Count true told) Done l e c one below why h = (tt, λ z. absurd (omega (arith, z)))
goes starving long (Count false true) Done l e c one below why h = (tt, λ z. absurd (omega (arith, z)))
goes starving long (Count false false) Done l e c one below why h = (tt, λ z. absurd (omega (arith, z)))
goes starving long (Count listed told) AtLimit l e c one below why h = absurd (let few = below refl in omega (arith, few, e))
goes starving long (Count listed told) _ l e c one below why h = absurd e
goes starving long JoinStarved Done l e c one below why h = (tt, λ z. absurd (omega (arith, z)))
goes starving long JoinStarved NoMemory l e c one below why h = absurd (true≢false e)
goes starving long JoinStarved _ l e c one below why h = absurd e
goes starving long LookAlone Free l e c one below why h = absurd (omega (arith, one, e.0))
goes starving long LookAlone (Held b) l e c one below why h = (tt, λ z. absurd (omega (arith, z)))
goes starving long LookAlone SomeStarved l e c one below why h = absurd (omega (arith, one, e.0))
goes starving long LookAlone _ l e c one below why h = absurd e
goes starving long PassOnListed f l e c one below why h = (tt, λ z. absurd (omega (arith, z)))
goes starving long AskStarved Yes l e c one below why h = (tt, λ z. absurd (omega (arith, z)))
goes starving long AskStarved No l e c one below why h = refl
goes starving long AskStarved _ l e c one below why h = absurd e
goes starving long Seize Free l e c one below why h = absurd (omega (arith, one, e))
goes starving long Seize (Held b) l e c one below why h = (tt, λ z. absurd (omega (arith, z)))
goes starving long Seize _ l e c one below why h = absurd e
goes starving long _ f l e c one below why h = absurd h

-- ---- as those see it who build on a mutex

long_at : (long : Bool) (x : Place) → course.is_long long (course_of x) ≡ true → LongAt long x
long_at long Retry h = h
long_at long PassOn h = tt
long_at long (Count listed told) h = tt
long_at long JoinStarved h = tt
long_at long LookAlone h = tt
long_at long PassOnListed h = tt
long_at long AskStarved h = tt
long_at long Seize h = tt
long_at long (Place.Uncount listed) h = absurd (false≢true h)
long_at long _ h = absurd (false≢true h)

long_course : (long : Bool) (x : Place) → LongAt long x → (course.is_long long (course_of x) ≡ true) × (holds x ≡ 0)
long_course long Retry h = (h, refl)
long_course long PassOn h = (refl, refl)
long_course long (Count listed told) h = (refl, refl)
long_course long JoinStarved h = (refl, refl)
long_course long LookAlone h = (refl, refl)
long_course long PassOnListed h = (refl, refl)
long_course long AskStarved h = (refl, refl)
long_course long Seize h = (refl, refl)
long_course long _ h = absurd h

later : (long : Bool) (x : Place) → LongAt false x → LongAt long x
later true x h = by_true x h where
  by_true : (x : Place) → LongAt false x → LongAt true x
  by_true Retry h = refl
  by_true PassOn h = tt
  by_true (Count listed told) h = tt
  by_true JoinStarved h = tt
  by_true LookAlone h = tt
  by_true PassOnListed h = tt
  by_true AskStarved h = tt
  by_true Seize h = tt
  by_true _ h = absurd h
later false x h = h

some_here : (starving : Bool) (n : ℕ) → starving || nat_lt 0 n ≡ true → (starving ≡ true) ⊎ (0 < n)
some_here true n h = inl refl
some_here false n h = inr (grind (arith, nat_tests))

module _ (l k : Lock) (p : ℕ) (from : Place) (n : Next) (known : p < length l.places) (did : Acts true p from n l k) (same : SameRoles from (place_at l.places p)) (starving : Bool) (held : by.holders l ≡ 1) (without : holds from ≡ 0) where
  lands : place_at k.places p ≡ place_after from n
  lands = ap (λ ps. place_at ps p) did.places ∙ get_or-set_same l.places p (place_after from n) Place.Out known

  -- where it goes on to such a place
  is_there : (y : Place) → place_at k.places p ≡ y → LongAt (starving || is_some_starved (seen k)) y → (counted from ≡ 0 → by.starved l < l.limit) → (counted y ≡ 0 → counted from ≡ 0) → IsLong starving p (seen k)
  is_there y at long few kept =
      let places : k.places ≡ set l.places p y = did.places ∙ ap (set l.places p) (sym lands ∙ at) in
      let is = long_course (starving || is_some_starved (seen k)) y long in
      let hold : sum_by holds (set l.places p y) + holds (place_at l.places p) ≡ sum_by holds l.places + holds y = sum_by-set holds l.places p y Place.Out known in
      let count : sum_by counted (set l.places p y) + counted (place_at l.places p) ≡ sum_by counted l.places + counted y = sum_by-set counted l.places p y Place.Out known in
      let there : course_at (seen k).courses p ≡ course_of y = at_seen k.places p ∙ ap course_of at in
      record {
        held = holders_seen k.places ∙ omega (arith, hold, ap (sum_by holds) places, same.holding, without, is.1, held);
        without_lock = ap course.holds there ∙ (holds_same y ∙ is.1);
        long = ap (course.is_long (starving || is_some_starved (seen k))) there ∙ is.0;
        below = λ none. (let none' : counted y ≡ 0 = sym (counted_same y) ∙ (sym (ap course.counted there) ∙ none) in
            let zero = kept none' in let under = few zero in omega (arith, under, count, ap (sum_by counted) places, same.starving, none', zero, starved_seen k.places, did.limit));
      }

  by_next : (m : Next) → n ≡ m → (counted from ≡ 0 → by.starved l < l.limit) → Then from m → StaysLong starving p (step_of m) (seen k)
  by_next (Next.Do a y) is few h = is_there y (lands ∙ ap (place_after from) is) (later (starving || is_some_starved (seen k)) y h.0) few h.1
  by_next (Next.End End.Pending) is few h = at_seen k.places p ∙ ap course_of (lands ∙ (ap (place_after from) is ∙ h))
  by_next (Next.End _) is few h = absurd h

  goes_long : (long : Bool) → way.HeedsClock starving from n → (counted from ≡ 0 → by.starved l < l.limit) → (long ≡ true → (starving ≡ true) ⊎ (0 < by.starved l)) → LongAt long from → StaysLong starving p (step_of n) (seen k)
  goes_long long clock few why at =
      let C : Next → Type 0 = λ m. way.HeedsClock starving from m in
      let N : Next → Type 0 = λ m. Then from m in
      by_next n refl few (subst N (sym did.next_is) (goes starving long from did.found l did.finds (subst C did.next_is clock) held few why at))

  pub stays_long : place_at l.places p ≡ from → way.HeedsClock starving from n → IsLong starving p (seen l) → StaysLong starving p (step_of n) (seen k)
  stays_long here clock is =
      let long : Bool = starving || is_some_starved (seen l) in
      let there : course_at (seen l).courses p ≡ course_of from = at_seen l.places p ∙ ap course_of here in
      goes_long long clock
      (λ none. (let few = is.below (ap course.counted there ∙ (counted_same from ∙ none)) in omega (arith, few, starved_seen l.places)))
      (λ so. elim (some_here starving (mutex.starved (seen l)) so) as (λ _. (starving ≡ true) ⊎ (0 < by.starved l)) [ inl t ↦ inl t | inr some ↦ inr (omega (arith, some, starved_seen l.places)) ])
      (long_at long from (sym (ap (course.is_long long) there) ∙ is.long))

pub long_held : (l : Lock) (p : ℕ) (starving : Bool) → IsLong starving p (seen l) → by.holders l ≡ 1
long_held l p starving is = sym (holders_seen l.places) ∙ is.held

pub long_free : (l : Lock) (p : ℕ) (starving : Bool) → IsLong starving p (seen l) → holds (place_at l.places p) ≡ 0
long_free l p starving is = sym (holds_same (place_at l.places p)) ∙ (sym (ap course.holds (at_seen l.places p)) ∙ is.without_lock)

-- ---- the first step of a poll that was notified

abbrev First : Bool → Place → Next → Type 0
First long x (Next.Do a y) = LongAt long y × (counted y ≡ counted x)
First long x (Next.End e) = ⊥

asks : (long : Bool) (p : ℕ) (x : Place) (f : Found) (l : Lock) (es : List (Entry ℕ)) → Finds true (action_of x) f l → OnParties p (action_of x) f l.entries es → is_marked_at (is_party p) l.entries ≡ true → long ≡ true → (x ≡ Ask) ⊎ (x ≡ AskStarved) → First long x (next_of x f)
asks long p Ask Yes l es e o marked so which = (so, refl)
asks long p Ask No l es e o marked so which = absurd (true≢false (sym marked ∙ o.0))
asks long p Ask _ l es e o marked so which = absurd e
asks long p AskStarved Yes l es e o marked so which = (tt, refl)
asks long p AskStarved No l es e o marked so which = absurd (true≢false (sym marked ∙ o.0))
asks long p AskStarved _ l es e o marked so which = absurd e
asks long p x f l es e o marked so (inl is) = absurd (cc is)
asks long p x f l es e o marked so (inr is) = absurd (cc is)

polls_from : (x from : Place) → start_of LockCall.Poll x ≡ Some from → course.is_waiting (course_of x) ≡ true → (x ≡ from) × ((from ≡ Ask) ⊎ (from ≡ AskStarved))
polls_from Ask from e w = let is : Ask ≡ from = some_eq e in (is, inl (sym is))
polls_from AskStarved from e w = let is : AskStarved ≡ from = some_eq e in (is, inr (sym is))
polls_from _ from e w = absurd (false≢true w)

same_there : (x from : Place) → x ≡ from → SameRoles from x
same_there x from e = let P : Place → Type 0 = λ y. SameRoles from y in subst P (sym e) (record { holding = refl; starving = refl; standing = refl; waiting = refl; owing = refl; counting = refl; telling = refl; releasing = refl })

no_holder : (x : Place) → (x ≡ Ask) ⊎ (x ≡ AskStarved) → holds x ≡ 0
no_holder x (inl is) = ap holds is
no_holder x (inr is) = ap holds is

pub begins_long : (l k : Lock) (memory : Bool) (p : ℕ) (from : Place) (n : Next) → p < length l.places → Acts memory p from n l k → (c : LockCall) → start_of c (place_at l.places p) ≡ Some from → (starving : Bool) → memory ≡ true → c ≡ LockCall.Poll → BeginsLong starving p (seen l) → StaysLong starving p (step_of n) (seen k)
begins_long l k memory p from n known acts c starts starving found polls b =
    let A : Bool → Type 0 = λ m. Acts m p from n l k in
    let did : Acts true p from n l k = subst A found acts in
    let C : LockCall → Type 0 = λ z. start_of z (place_at l.places p) ≡ Some from in
    let waits : course.is_waiting (course_of (place_at l.places p)) ≡ true = sym (ap course.is_waiting (at_seen l.places p)) ∙ b.called in
    let at = polls_from (place_at l.places p) from (subst C polls starts) waits in
    let long : Bool = starving || is_some_starved (seen l) in
    let F : Next → Type 0 = λ m. First long from m in
    let one : by.holders l ≡ 1 = sym (holders_seen l.places) ∙ b.held in
    by_first n refl at.0 one (no_holder from at.1) did b (subst F (sym did.next_is) (asks long p from did.found l k.entries did.finds did.list b.marked b.long at.1)) where
      by_first : (m : Next) → n ≡ m → place_at l.places p ≡ from → by.holders l ≡ 1 → holds from ≡ 0 → Acts true p from n l k → BeginsLong starving p (seen l) → First (starving || is_some_starved (seen l)) from m → StaysLong starving p (step_of m) (seen k)
      by_first (Next.Do a y) is here one free did b h =
          let same : SameRoles from (place_at l.places p) = same_there (place_at l.places p) from here in
          let at : place_at k.places p ≡ y = lands l k p from n known did same starving one free ∙ ap (place_after from) is in
          let places : k.places ≡ set l.places p y = did.places ∙ ap (λ m. set l.places p (place_after from m)) is in
          let count : sum_by counted (set l.places p y) + counted (place_at l.places p) ≡ sum_by counted l.places + counted y = sum_by-set counted l.places p y Place.Out known in
          let starved_same : mutex.starved (seen k) ≡ mutex.starved (seen l) = omega (arith, starved_seen k.places, starved_seen l.places, count, ap (sum_by counted) places, same.starving, h.1) in
          let L : ℕ → Type 0 = λ z. LongAt (starving || nat_lt 0 z) y in
          let under = b.below in
          is_there l k p from n known did same starving one free y at (subst L (sym starved_same) h.0) (λ none. omega (arith, under, starved_seen l.places)) (λ none. sym h.1 ∙ none)
      by_first (Next.End e) is here one free did b h = absurd h

-- ---- the drop of a party that waits and isn't starved

pub abandons : (l k : Lock) (memory : Bool) (p : ℕ) (from : Place) (n : Next) → Acts memory p from n l k → (c : LockCall) → start_of c (place_at l.places p) ≡ Some from → c ≡ LockCall.Cancel → course_at (seen l).courses p ≡ course.waiting false → (step_of n ≡ Step.End End.GivenBack) × (k.entries ≡ list_after p leaves l.entries)
abandons l k memory p from n did c starts cancels waits =
    let C : LockCall → Type 0 = λ z. start_of z (place_at l.places p) ≡ Some from in
    let is : from ≡ CancelLeave = leaves_at (place_at l.places p) from (sym (at_seen l.places p) ∙ waits) (subst C cancels starts) in
    let Q : Place → Type 0 = λ y. (step_of (next_of y did.found) ≡ Step.End End.GivenBack) × (OnParties p (action_of y) did.found l.entries k.entries → Finds memory (action_of y) did.found l → k.entries ≡ list_after p leaves l.entries) in
    let so = subst Q (sym is) (refl, left did.found) in
    (ap step_of did.next_is ∙ so.0, so.1 did.list did.finds) where
      leaves_at : (x from : Place) → course_of x ≡ course.waiting false → start_of LockCall.Cancel x ≡ Some from → from ≡ CancelLeave
      leaves_at Ask from e s = sym (some_eq s)
      leaves_at AskStarved from e s = absurd (cc e)
      leaves_at _ from e s = absurd (cc e)

      left : (f : Found) → OnParties p (action_of CancelLeave) f l.entries k.entries → Finds memory (action_of CancelLeave) f l → k.entries ≡ list_after p leaves l.entries
      left Done o e = o
      left _ o e = absurd e
