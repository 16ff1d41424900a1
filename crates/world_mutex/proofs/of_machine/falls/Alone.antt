-- Each step of a party that moves alone leaves fewer steps.
use Rattle.world_mutex.proofs.Prelude.{◌≡◌, ℕ, ◌+◌, ◌==◌, ◌<◌, ◌≤◌, Bool, true, false, Some, List, length, refl, sym, ap, arith, ◌∙◌, get_or-set_same, none_some, set, sum_by, sum_by-set, nat_tests, Entry, is_marked_at, is_party, entries_of, some_eq, joined_unmarked, Place, Out, Holding, Enter, Try, Clear, CancelUncount, CancelLeave, Join, Look, Ask, Retry, PassOn, Count, JoinStarved, LookAlone, PassOnListed, AskStarved, Seize, Uncount, Leave, RefuseUncount, RefuseLeave, RefuseNotifyMemory, RefuseNotifyStarved, ReleaseNotify, LockCall, Action, Next, Found, Done, Free, Held, SomeStarved, AtLimit, Yes, action_of, next_of, place_after, start_of, holds, listed, OnParties, Lock, place_at, SameRoles, Acts, Finds, holders, left, left_after, is_own_marked, is_open, most_steps}
use Rattle.world_mutex.proofs.of_machine.laws.Kept.{after}

-- what an action says of its party's own mark, before and after
abbrev Marks : Action → Found → Bool → Bool → Type 0
Marks Action.Join Done m n = n ≡ false
Marks Action.Ask Yes m n = m ≡ true
Marks Action.Take f m n = n ≡ m
Marks Action.TakeAlone f m n = n ≡ m
Marks _ f m n = Unit {0}

-- how many steps are left after this, by numbers alone
abbrev then_left : Next → Bool → Bool → ℕ
then_left (Next.Do a q) n u = left q n u
then_left (Next.End e) n u = 0

module _ (memory : Bool) (l : Lock) (m n : Bool) (h : ℕ) where
  falls : (from : Place) (f : Found) → Finds memory (action_of from) f l → h + holds from ≡ holders l + holds (after from f) → Marks (action_of from) f m n → then_left (next_of from f) n (h == 0) < left from m (holders l == 0)
  falls Out _ e k s = grind (arith, nat_tests)
  falls Holding _ e k s = grind (arith, nat_tests)
  falls Enter Free e k s = grind (arith, nat_tests)
  falls Enter _ e k s = grind (arith, nat_tests)
  falls Try Free e k s = grind (arith, nat_tests)
  falls Try _ e k s = grind (arith, nat_tests)
  falls Clear _ e k s = grind (arith, nat_tests)
  falls CancelUncount _ e k s = grind (arith, nat_tests)
  falls CancelLeave _ e k s = grind (arith, nat_tests)
  falls (Join told) Done e k s = grind (arith, nat_tests)
  falls (Join true) _ e k s = grind (arith, nat_tests)
  falls (Join false) _ e k s = grind (arith, nat_tests)
  falls (Look told) Free e k s = grind (arith, nat_tests)
  falls (Look told) (Held b) e k s = grind (arith, nat_tests)
  falls (Look told) _ e k s = grind (arith, nat_tests)
  falls Ask Yes e k s = grind (arith, nat_tests)
  falls Ask _ e k s = grind (arith, nat_tests)
  falls Retry Free e k s = grind (arith, nat_tests)
  falls Retry (Held true) e k s = grind (arith, nat_tests)
  falls Retry (Held false) e k s = grind (arith, nat_tests)
  falls Retry _ e k s = grind (arith, nat_tests)
  falls PassOn _ e k s = grind (arith, nat_tests)
  falls (Count true told) AtLimit e k s = grind (arith, nat_tests)
  falls (Count true told) _ e k s = grind (arith, nat_tests)
  falls (Count false true) AtLimit e k s = grind (arith, nat_tests)
  falls (Count false false) AtLimit e k s = grind (arith, nat_tests)
  falls (Count false told) _ e k s = grind (arith, nat_tests)
  falls JoinStarved Done e k s = grind (arith, nat_tests)
  falls JoinStarved _ e k s = grind (arith, nat_tests)
  falls LookAlone Free e k s = grind (arith, nat_tests)
  falls LookAlone (Held b) e k s = grind (arith, nat_tests)
  falls LookAlone SomeStarved e k s = grind (arith, nat_tests)
  falls LookAlone _ e k s = absurd e
  falls PassOnListed _ e k s = grind (arith, nat_tests)
  falls AskStarved Yes e k s = grind (arith, nat_tests)
  falls AskStarved _ e k s = grind (arith, nat_tests)
  falls Seize Free e k s = grind (arith, nat_tests)
  falls Seize (Held b) e k s = grind (arith, nat_tests)
  falls Seize _ e k s = absurd e
  falls (Uncount true) _ e k s = grind (arith, nat_tests)
  falls (Uncount false) _ e k s = grind (arith, nat_tests)
  falls Leave _ e k s = grind (arith, nat_tests)
  falls RefuseUncount _ e k s = grind (arith, nat_tests)
  falls (RefuseLeave true) _ e k s = grind (arith, nat_tests)
  falls (RefuseLeave false) _ e k s = grind (arith, nat_tests)
  falls RefuseNotifyMemory _ e k s = grind (arith, nat_tests)
  falls RefuseNotifyStarved _ e k s = grind (arith, nat_tests)
  falls ReleaseNotify _ e k s = grind (arith, nat_tests)

module _ (p : ℕ) (l m : List (Entry ℕ)) where
  marks : (a : Action) (f : Found) → OnParties p a f l m → (a ≡ Action.Join → entries_of p l ≡ 0) → Marks a f (is_marked_at (is_party p) l) (is_marked_at (is_party p) m)
  marks Action.Join Done o out = rw o (joined_unmarked p l (out refl))
  marks Action.Join _ o out = tt
  marks Action.Ask Yes o out = o.0
  marks Action.Ask _ o out = tt
  marks Action.Take f o out = ap (is_marked_at (is_party p)) o
  marks Action.TakeAlone f o out = ap (is_marked_at (is_party p)) o
  marks _ f o out = tt

-- only a party that isn't listed joins
joins_unlisted : (p : Place) → action_of p ≡ Action.Join → listed p ≡ 0
joins_unlisted (Join told) e = refl
joins_unlisted JoinStarved e = refl
joins_unlisted _ e = absurd (cc)

seen_then : (next : Next) (l : Lock) (p : ℕ) (q : Place) → place_at l.places p ≡ place_after q next → left_after next l p ≡ then_left next (is_own_marked l p) (is_open l)
seen_then (Next.Do a q) l p from e = ap (λ x. left x (is_own_marked l p) (is_open l)) e
seen_then (Next.End x) l p from e = refl

module _ (memory : Bool) (p : ℕ) (from : Place) (next : Next) (old new : Lock) where
  -- a party that moves alone has fewer steps left after each
  pub fewer : p < length old.places → SameRoles from (place_at old.places p) → entries_of p old.entries ≡ listed (place_at old.places p) → Acts memory p from next old new
      → left_after next new p < left from (is_own_marked old p) (is_open old)
  fewer known same own a =
      let lands : place_at new.places p ≡ place_after from next = ap (λ ps. place_at ps p) a.places ∙ get_or-set_same old.places p (place_after from next) Out known in
      let does : next ≡ next_of from a.found = a.next_is in
      let moved : sum_by holds new.places ≡ sum_by holds (set old.places p (after from a.found)) = ap (sum_by holds) a.places ∙ ap (λ n. sum_by holds (set old.places p (place_after from n))) does in
      let counts : sum_by holds (set old.places p (after from a.found)) + holds (place_at old.places p) ≡ sum_by holds old.places + holds (after from a.found) = sum_by-set holds old.places p (after from a.found) Out known in
      let kept : holders new + holds from ≡ holders old + holds (after from a.found) = omega (arith, same.holding) in
      let own_marks = marks p old.entries new.entries (action_of from) a.found a.list (λ joins. own ∙ (sym same.standing ∙ joins_unlisted from joins)) in
      rw (seen_then next new p from lands, does)
      (falls memory old (is_own_marked old p) (is_own_marked new p) (holders new) from a.found a.finds kept own_marks)

-- and from nowhere more than eleven
pub at_most : (x : Place) (m u : Bool) → left x m u ≤ 11
at_most (Look told) m u = grind arith
at_most Ask m u = grind arith
at_most JoinStarved m u = grind arith
at_most LookAlone m u = grind arith
at_most PassOnListed m u = grind arith
at_most AskStarved m u = grind arith
at_most Seize m u = grind arith
at_most (Count true told) m u = omega arith
at_most (Count false told) m u = omega arith
at_most (Uncount true) m u = omega arith
at_most (Uncount false) m u = omega arith
at_most _ m u = omega arith

-- no call begins where it has more steps left than it may take
pub within : (c : LockCall) (at from : Place) (m u : Bool) → start_of c at ≡ Some from → left from m u ≤ most_steps c
within LockCall.Lock Out from m u e = rw (← some_eq e) (omega arith)
within LockCall.Lock _ from m u e = absurd (none_some e)
within LockCall.Try Out from m u e = rw (← some_eq e) (omega arith)
within LockCall.Try _ from m u e = absurd (none_some e)
within LockCall.Poll Out from m u e = rw (← some_eq e) (omega arith)
within LockCall.Poll Ask from m u e = rw (← some_eq e) (grind arith)
within LockCall.Poll AskStarved from m u e = rw (← some_eq e) (grind arith)
within LockCall.Poll _ from m u e = absurd (none_some e)
within LockCall.Release Holding from m u e = rw (← some_eq e) (omega arith)
within LockCall.Release _ from m u e = absurd (none_some e)
within LockCall.Cancel Out from m u e = rw (← some_eq e) (omega arith)
within LockCall.Cancel Ask from m u e = rw (← some_eq e) (omega arith)
within LockCall.Cancel AskStarved from m u e = rw (← some_eq e) (omega arith)
within LockCall.Cancel _ from m u e = absurd (none_some e)

-- a call that has begun has fewer steps left than it may take
pub begun_within : (c : LockCall) (at from : Place) (l : Lock) (p k : ℕ) → start_of c at ≡ Some from → k < left from (is_own_marked l p) (is_open l) → k < most_steps c
begun_within c at from l p k e less = omega (arith, within c at from (is_own_marked l p) (is_open l) e)
