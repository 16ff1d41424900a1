-- Whoever takes the lock beside a starved party that stands in the list has heard its notification, and stood before that party.
use Rattle.world_mutex.proofs.Prelude.{Some, some_eq, ◌≡◌, ◌≢◌, ℕ, ◌+◌, ◌-◌, ◌<◌, ◌≤◌, Bool, true, false, List, length, refl, arith, ap, sym, ◌∙◌, subst, get_or-set_same, get_or-set_other, length-set, zero, suc, [], ◌∷◌, sum_by-set, get_or-le-sum_by, set, sum_by, Entry, marked_count, IsMarkedFirst, is_party, entries_of, LockCall, Found, Done, Free, Held, SomeStarved, AtLimit, NoMemory, Yes, No, Action, Next, Place, Out, Holding, Enter, Try, Clear, Join, Look, Ask, Retry, PassOn, Count, JoinStarved, LookAlone, PassOnListed, AskStarved, Seize, Uncount, Leave, RefuseUncount, RefuseLeave, RefuseNotifyMemory, RefuseNotifyStarved, ReleaseNotify, CancelUncount, CancelLeave, start_of, action_of, next_of, place_after, counted, holds, Acts, Finds, Lock, IsMutex, place_at, OnParties, course_at, course_of, seen}
use Rattle.world_base.specs.Overtaking.{before}
use Rattle.world_base.specs.Steps.{joins, leaves, notifies}
use Rattle.world_base.proofs.Overtaking.{list_before, told_before}
use Rattle.world_mutex.specs.machine.Acts.{starved}
use Rattle.world_mutex.specs.machine.Conduct.{ServesInTurn}
use Rattle.world_mutex.specs.machine.Course as course
use Rattle.world_mutex.specs.machine.Mutex.{IsStarved}
use Rattle.world_mutex.proofs.of_machine.legal.Sights.{at_seen, holds_same, counted_same}

abbrev pub heard : Place → ℕ
heard x = course.heard (course_of x)

-- what was taken out of the list there
abbrev told : Action → Found → ℕ
told Action.Ask Yes = 1
told _ _ = 0

abbrev Turn : Place → Place → ℕ → Type 0
Turn x y n = heard y + (holds y - holds x) ≤ heard x + n

goes : (memory : Bool) (l : Lock) (x : Place) (f : Found) → Finds memory (action_of x) f l → 0 < starved l → (counted x ≡ 1 → 1 < starved l) → Turn x (place_after x (next_of x f)) (told (action_of x) f)
goes memory l Enter Free e some others = absurd (omega (arith, e.1, some))
goes memory l Enter (Held z) e some others = absurd (omega (arith, e.1, some))
goes memory l Enter SomeStarved e some others = omega arith
goes memory l Enter _ e some others = absurd e
goes memory l Try Free e some others = absurd (omega (arith, e.1, some))
goes memory l Try (Held z) e some others = absurd (omega (arith, e.1, some))
goes memory l Try SomeStarved e some others = omega arith
goes memory l Try _ e some others = absurd e
goes memory l Retry Free e some others = absurd (omega (arith, e.1, some))
goes memory l Retry (Held z) e some others = absurd (omega (arith, e.1, some))
goes memory l Retry SomeStarved e some others = omega arith
goes memory l Retry _ e some others = absurd e
goes memory l (Look told) Free e some others = absurd (omega (arith, e.1, some))
goes memory l (Look told) (Held z) e some others = absurd (omega (arith, e.1, some))
goes memory l (Look told) SomeStarved e some others = omega arith
goes memory l (Look told) _ e some others = absurd e
goes memory l (Join true) Done e some others = omega arith
goes memory l (Join true) NoMemory e some others = omega arith
goes memory l (Join true) _ e some others = absurd e
goes memory l (Join false) Done e some others = omega arith
goes memory l (Join false) NoMemory e some others = omega arith
goes memory l (Join false) _ e some others = absurd e
goes memory l JoinStarved Done e some others = omega arith
goes memory l JoinStarved NoMemory e some others = omega arith
goes memory l JoinStarved _ e some others = absurd e
goes memory l Ask Yes e some others = omega arith
goes memory l Ask No e some others = omega arith
goes memory l Ask _ e some others = absurd e
goes memory l AskStarved Yes e some others = omega arith
goes memory l AskStarved No e some others = omega arith
goes memory l AskStarved _ e some others = absurd e
goes memory l (Count true told) Done e some others = omega arith
goes memory l (Count true told) AtLimit e some others = omega arith
goes memory l (Count true told) _ e some others = absurd e
goes memory l (Count false true) Done e some others = omega arith
goes memory l (Count false true) AtLimit e some others = omega arith
goes memory l (Count false true) _ e some others = absurd e
goes memory l (Count false false) Done e some others = omega arith
goes memory l (Count false false) AtLimit e some others = omega arith
goes memory l (Count false false) _ e some others = absurd e
goes memory l LookAlone Free e some others = absurd (let two = others refl in omega (arith, e.1, two))
goes memory l LookAlone (Held z) e some others = omega arith
goes memory l LookAlone SomeStarved e some others = omega arith
goes memory l LookAlone _ e some others = absurd e
goes memory l Seize Free e some others = omega arith
goes memory l Seize (Held z) e some others = omega arith
goes memory l Seize _ e some others = absurd e
goes memory l Out f e some others = omega arith
goes memory l Holding f e some others = omega arith
goes memory l Clear f e some others = omega arith
goes memory l CancelUncount f e some others = omega arith
goes memory l CancelLeave f e some others = omega arith
goes memory l PassOn f e some others = omega arith
goes memory l PassOnListed f e some others = omega arith
goes memory l (Uncount true) f e some others = omega arith
goes memory l (Uncount false) f e some others = omega arith
goes memory l Leave f e some others = omega arith
goes memory l RefuseUncount f e some others = omega arith
goes memory l (RefuseLeave true) f e some others = omega arith
goes memory l (RefuseLeave false) f e some others = omega arith
goes memory l RefuseNotifyMemory f e some others = omega arith
goes memory l RefuseNotifyStarved f e some others = omega arith
goes memory l ReleaseNotify f e some others = omega arith

-- ---- the list

module _ (p q : ℕ) (apart : p ≢ q) (es fs : List (Entry ℕ)) (there : 0 < entries_of q es) (one : marked_count es ≤ 1) (first : IsMarkedFirst es) where
  as_before : fs ≡ es → before q fs + 0 ≤ before q es
  as_before e = omega (arith, ap (before q) e)

  moves : (a : Action) (f : Found) → OnParties p a f es fs → before q fs + told a f ≤ before q es
  moves Action.Join Done o = omega (arith, ap (before q) o, list_before q p joins es apart there)
  moves Action.Join _ o = as_before o
  moves Action.Ask Yes o = omega (arith, ap (before q) o.1, told_before q p es apart o.0 there one first)
  moves Action.Ask _ o = as_before o.1
  moves Action.Leave f o = omega (arith, ap (before q) o, list_before q p leaves es apart there)
  moves Action.Notify f o = omega (arith, ap (before q) o, list_before q p (notifies 1) es apart there)
  moves Action.Take f o = as_before o
  moves Action.TakeAlone f o = as_before o
  moves Action.Set f o = as_before o
  moves Action.Count f o = as_before o
  moves Action.Uncount f o = as_before o
  moves Action.Clear f o = as_before o
  moves Action.Nothing f o = as_before o

-- ---- an action

module _ (l k : Lock) (memory : Bool) (p : ℕ) (from : Place) (n : Next) (known : p < length l.places) (acts : Acts memory p from n l k) (laws : IsMutex l) (same : counted from ≡ counted (place_at l.places p)) where
  lands : place_at k.places p ≡ place_after from n
  lands = ap (λ ps. place_at ps p) acts.places ∙ get_or-set_same l.places p (place_after from n) Out known

  -- another that is starved is one of them
  beside : (q : ℕ) → p ≢ q → q < length l.places → counted (place_at l.places q) ≡ 1 → counted from ≡ 1 → 1 < starved l
  beside q apart inside other own =
      let rest = set l.places p Out in
      let kept : counted (place_at rest q) ≡ counted (place_at l.places q) = ap counted (get_or-set_other l.places p q Out Out (λ e. apart (sym e))) in
      let most : counted (place_at rest q) ≤ sum_by counted rest = get_or-le-sum_by counted rest q Out (omega (arith, inside, length-set_here)) in
      let sum : sum_by counted rest + counted (place_at l.places p) ≡ sum_by counted l.places + counted Out = sum_by-set counted l.places p Out Out known in
      omega (arith, most, sum, kept, other, own, same) where
        length-set_here : length (set l.places p Out) ≡ length l.places
        length-set_here = length-set l.places p Out

  -- a party whose place counts is one of the lock's
  inside_there : (ps : List Place) (q : ℕ) → counted (place_at ps q) ≡ 1 → q < length ps
  inside_there [] q h = absurd (omega (arith, h))
  inside_there (x ∷ xs) zero h = omega arith
  inside_there (x ∷ xs) (suc q) h = omega (arith, inside_there xs q h)

  pub in_turn : (q : ℕ) → p ≢ q → counted (place_at l.places q) ≡ 1 → 0 < entries_of q l.entries → heard (place_at k.places p) + before q k.entries + (holds (place_at k.places p) - holds from) ≤ heard from + before q l.entries
  in_turn q apart starving there =
      let inside = inside_there l.places q starving in
      let some : 0 < starved l = omega (arith, get_or-le-sum_by counted l.places q Out inside, starving) in
      let to : Place = place_after from (next_of from acts.found) in
      let turn : Turn from to (told (action_of from) acts.found) = goes memory l from acts.found acts.finds some (beside q apart inside starving) in
      let list = moves p q apart l.entries k.entries there laws.one_told laws.in_order (action_of from) acts.found acts.list in
      let at : place_at k.places p ≡ to = lands ∙ ap (place_after from) acts.next_is in
      omega (arith, turn, list, ap heard at, ap holds at)

-- ---- as those see it who build on a mutex

module _ (l k : Lock) (memory : Bool) (p : ℕ) (from : Place) (n : Next) (known : p < length l.places) (acts : Acts memory p from n l k) (laws : IsMutex l) where
  pub serves_in_turn : counted from ≡ counted (place_at l.places p) → heard from ≡ heard (place_at l.places p) → holds from ≡ holds (place_at l.places p) → ServesInTurn p (seen l) (seen k)
  serves_in_turn same heard_same held_same q apart starving there =
      let was : course_at (seen l).courses p ≡ course_of (place_at l.places p) = at_seen l.places p in
      let is : course_at (seen k).courses p ≡ course_of (place_at k.places p) = at_seen k.places p in
      let so : counted (place_at l.places q) ≡ 1 = sym (counted_same (place_at l.places q)) ∙ (sym (ap course.counted (at_seen l.places q)) ∙ starving) in
      let turn = in_turn l k memory p from n known acts laws same q apart so there in
      omega (arith, turn, ap course.heard was, ap course.heard is, ap course.holds was, ap course.holds is, holds_same (place_at l.places p), holds_same (place_at k.places p), heard_same, held_same)

-- where a call begins
pub heard_at_start : (c : LockCall) (x from : Place) → start_of c x ≡ Some from → heard from ≡ heard x
heard_at_start LockCall.Lock Out from e = ap heard (sym (some_eq e))
heard_at_start LockCall.Lock _ from e = absurd (cc e)
heard_at_start LockCall.Try Out from e = ap heard (sym (some_eq e))
heard_at_start LockCall.Try _ from e = absurd (cc e)
heard_at_start LockCall.Poll Out from e = ap heard (sym (some_eq e))
heard_at_start LockCall.Poll Ask from e = ap heard (sym (some_eq e))
heard_at_start LockCall.Poll AskStarved from e = ap heard (sym (some_eq e))
heard_at_start LockCall.Poll _ from e = absurd (cc e)
heard_at_start LockCall.Release Holding from e = ap heard (sym (some_eq e))
heard_at_start LockCall.Release _ from e = absurd (cc e)
heard_at_start LockCall.Cancel Out from e = ap heard (sym (some_eq e))
heard_at_start LockCall.Cancel Ask from e = ap heard (sym (some_eq e))
heard_at_start LockCall.Cancel AskStarved from e = ap heard (sym (some_eq e))
heard_at_start LockCall.Cancel _ from e = absurd (cc e)
