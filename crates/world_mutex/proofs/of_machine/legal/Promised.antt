-- What the actions of a poll lead to: who isn't starving isn't counted while nobody is, and who was told and is refused notifies.
use Rattle.world_mutex.proofs.Prelude.{◌≡◌, ℕ, ◌+◌, ◌<◌, ◌≤◌, Bool, true, false, List, length, refl, arith, ap, sym, ◌∙◌, subst, get_or-set_same, false≢true, some_eq, none_some, set, sum_by-set, get_or-le-sum_by, sum_by, Entry, marked_count, Refusal, Place, Out, Holding, Enter, Try, Clear, CancelUncount, CancelLeave, Join, Look, Ask, Retry, PassOn, Count, JoinStarved, LookAlone, PassOnListed, AskStarved, Seize, Uncount, Leave, RefuseUncount, RefuseLeave, RefuseNotifyMemory, RefuseNotifyStarved, ReleaseNotify, LockCall, Action, Found, Done, Free, Held, SomeStarved, AtLimit, NoMemory, Yes, No, Next, End, Got, Pending, NotFree, GivenBack, Refused, start_of, action_of, next_of, place_after, counted, OnParties, is_waiting, is_counting, is_told, HeedsClock, Lock, SameRoles, place_at, Acts, Finds, starved, decided_then, IsUnrefused, notified_marked}
use Rattle.std.specs.Prelude.{Option, Some}
use Rattle.world_mutex.proofs.of_machine.laws.Kept.{after}

-- ---- nobody is counted while nobody is starved

-- after an action the party isn't counted, and isn't about to be
record Uncounted (x : Place) : Type 0 where
  pub plain : counted x ≡ 0
  pub not_next : is_counting x ≡ false

so : (x : Place) → counted x ≡ 0 → is_counting x ≡ false → Uncounted x
so x p n = record { plain = p; not_next = n }

one_none : ◌≡◌ {A = ℕ} 1 0 → ⊥
one_none e = omega (arith, e)

none_left : (n : ℕ) → 0 < n → n ≡ 0 → ⊥
none_left n some none = omega (arith, some, none)

uncounted : (memory : Bool) (l : Lock) (from : Place) (f : Found) → Finds memory (action_of from) f l → HeedsClock false from (next_of from f) → starved l ≡ 0 → counted from ≡ 0 → is_counting from ≡ false → Uncounted (after from f)
uncounted memory l Out Done e c z k n = so Out refl refl
uncounted memory l Holding Done e c z k n = so Holding refl refl
uncounted memory l Enter Free e c z k n = so Holding refl refl
uncounted memory l Enter (Held b) e c z k n = so (Join false) refl refl
uncounted memory l Enter SomeStarved e c z k n = absurd (none_left (starved l) e z)
uncounted memory l Try Free e c z k n = so Holding refl refl
uncounted memory l Try (Held b) e c z k n = so Out refl refl
uncounted memory l Try SomeStarved e c z k n = so Out refl refl
uncounted memory l Clear Done e c z k n = so ReleaseNotify refl refl
uncounted memory l CancelLeave Done e c z k n = so Out refl refl
uncounted memory l (Join told) Done e c z k n = so (Look told) refl refl
uncounted memory l (Join true) NoMemory e c z k n = so RefuseNotifyMemory refl refl
uncounted memory l (Join false) NoMemory e c z k n = so Out refl refl
uncounted memory l (Look told) Free e c z k n = so Leave refl refl
uncounted memory l (Look told) (Held b) e c z k n = so Ask refl refl
uncounted memory l (Look told) SomeStarved e c z k n = absurd (none_left (starved l) e z)
uncounted memory l Ask Yes e c z k n = so Retry refl refl
uncounted memory l Ask No e c z k n = so Ask refl refl
uncounted memory l Retry Free e c z k n = so Holding refl refl
uncounted memory l Retry (Held true) e c z k n = absurd (false≢true c)
uncounted memory l Retry (Held false) e c z k n = so (Join true) refl refl
uncounted memory l Retry SomeStarved e c z k n = absurd (none_left (starved l) e z)
uncounted memory l PassOn f e c z k n = absurd (false≢true (sym n))
uncounted memory l (Count listed told) f e c z k n = absurd (false≢true (sym n))
uncounted memory l Leave Done e c z k n = so Holding refl refl
uncounted memory l (RefuseLeave true) Done e c z k n = so RefuseNotifyStarved refl refl
uncounted memory l (RefuseLeave false) Done e c z k n = so Out refl refl
uncounted memory l RefuseNotifyMemory Done e c z k n = so Out refl refl
uncounted memory l RefuseNotifyStarved Done e c z k n = so Out refl refl
uncounted memory l ReleaseNotify Done e c z k n = so Out refl refl
uncounted memory l JoinStarved f e c z k n = absurd (one_none k)
uncounted memory l LookAlone f e c z k n = absurd (one_none k)
uncounted memory l PassOnListed f e c z k n = absurd (one_none k)
uncounted memory l AskStarved f e c z k n = absurd (one_none k)
uncounted memory l Seize f e c z k n = absurd (one_none k)
uncounted memory l (Uncount listed) f e c z k n = absurd (one_none k)
uncounted memory l RefuseUncount f e c z k n = absurd (one_none k)
uncounted memory l CancelUncount f e c z k n = absurd (one_none k)
uncounted memory l _ _ e c z k n = absurd e

some_place : (x y : Place) → Some x ≡ Some y → x ≡ y
some_place x y e = some_eq e

-- no call begins where its party is about to be counted
pub begins_uncounted : (c : _) (x from : Place) → start_of c x ≡ Some from → is_counting from ≡ false
begins_uncounted LockCall.Lock Out from e = ap is_counting (sym (some_place Enter from e))
begins_uncounted LockCall.Try Out from e = ap is_counting (sym (some_place Try from e))
begins_uncounted LockCall.Poll Out from e = ap is_counting (sym (some_place Enter from e))
begins_uncounted LockCall.Poll Ask from e = ap is_counting (sym (some_place Ask from e))
begins_uncounted LockCall.Poll AskStarved from e = ap is_counting (sym (some_place AskStarved from e))
begins_uncounted LockCall.Release Holding from e = ap is_counting (sym (some_place Clear from e))
begins_uncounted LockCall.Cancel Out from e = ap is_counting (sym (some_place Out from e))
begins_uncounted LockCall.Cancel Ask from e = ap is_counting (sym (some_place CancelLeave from e))
begins_uncounted LockCall.Cancel AskStarved from e = ap is_counting (sym (some_place CancelUncount from e))
begins_uncounted _ _ from e = absurd (none_some e)

-- no call begins where the clock matters
pub begins_heedless : (c : _) (x from : Place) (n : Next) (b : Bool) → start_of c x ≡ Some from → HeedsClock b from n
begins_heedless LockCall.Lock Out from n b e = let H : Place → Type 0 = λ y. HeedsClock b y n in subst H (some_place Enter from e) tt
begins_heedless LockCall.Try Out from n b e = let H : Place → Type 0 = λ y. HeedsClock b y n in subst H (some_place Try from e) tt
begins_heedless LockCall.Poll Out from n b e = let H : Place → Type 0 = λ y. HeedsClock b y n in subst H (some_place Enter from e) tt
begins_heedless LockCall.Poll Ask from n b e = let H : Place → Type 0 = λ y. HeedsClock b y n in subst H (some_place Ask from e) tt
begins_heedless LockCall.Poll AskStarved from n b e = let H : Place → Type 0 = λ y. HeedsClock b y n in subst H (some_place AskStarved from e) tt
begins_heedless LockCall.Release Holding from n b e = let H : Place → Type 0 = λ y. HeedsClock b y n in subst H (some_place Clear from e) tt
begins_heedless LockCall.Cancel Out from n b e = let H : Place → Type 0 = λ y. HeedsClock b y n in subst H (some_place Out from e) tt
begins_heedless LockCall.Cancel Ask from n b e = let H : Place → Type 0 = λ y. HeedsClock b y n in subst H (some_place CancelLeave from e) tt
begins_heedless LockCall.Cancel AskStarved from n b e = let H : Place → Type 0 = λ y. HeedsClock b y n in subst H (some_place CancelUncount from e) tt
begins_heedless _ _ from n b e = absurd (none_some e)

pub none_counted : (memory : Bool) (p : ℕ) (from : Place) (n : Next) (old new : Lock) → Acts memory p from n old new → HeedsClock false from n → p < length old.places → SameRoles from (place_at old.places p) → starved old ≡ 0 → is_counting from ≡ false
    → (starved new ≡ 0) × (is_counting (place_at new.places p) ≡ false)
none_counted memory p from n old new acts clock there same none not_next =
    let here : Place = place_at old.places p in
    let to : Place = after from acts.found in
    let low : counted here ≤ sum_by counted old.places = get_or-le-sum_by counted old.places p Out there in
    let plain : counted from ≡ 0 = omega (arith, same.starving, low, none) in
    let C : Next → Type 0 = λ x. HeedsClock false from x in
    let it = uncounted memory old from acts.found acts.finds (subst C acts.next_is clock) none plain not_next in
    let places : new.places ≡ set old.places p to = acts.places ∙ ap (λ x. set old.places p (place_after from x)) acts.next_is in
    let lands : place_at new.places p ≡ to = ap (λ ps. place_at ps p) places ∙ get_or-set_same old.places p to Out there in
    let sum : sum_by counted (set old.places p to) + counted here ≡ sum_by counted old.places + counted to = sum_by-set counted old.places p to Out there in
    let total : starved new ≡ sum_by counted (set old.places p to) = ap (sum_by counted) places in
    let zero_to : counted to ≡ 0 = it.plain in
    (omega arith, ap is_counting lands ∙ it.not_next)

-- ---- a refused party that was told notifies

-- what an action of a told party leads to: it is told still, or its call ends, and if by a refusal then after a notification
abbrev StaysTold : Action → Next → Type 0
StaysTold a (Next.Do b to) = is_told to ≡ true
StaysTold a (Next.End (Refused r)) = a ≡ Action.Notify
StaysTold a (Next.End e) = Unit {0}

stays : (memory : Bool) (l : Lock) (from : Place) (f : Found) → Finds memory (action_of from) f l → is_told from ≡ true → StaysTold (action_of from) (next_of from f)
stays memory l Retry Free e t = tt
stays memory l Retry (Held true) e t = refl
stays memory l Retry (Held false) e t = refl
stays memory l Retry SomeStarved e t = refl
stays memory l PassOn Done e t = refl
stays memory l (Count true true) Done e t = refl
stays memory l (Count true true) AtLimit e t = refl
stays memory l (Count false true) Done e t = refl
stays memory l (Count false true) AtLimit e t = refl
stays memory l (Count true false) f e t = absurd (false≢true t)
stays memory l (Count false false) f e t = absurd (false≢true t)
stays memory l (Join true) Done e t = refl
stays memory l (Join true) NoMemory e t = refl
stays memory l (Join false) f e t = absurd (false≢true t)
stays memory l (Look true) Free e t = refl
stays memory l (Look true) (Held b) e t = refl
stays memory l (Look true) SomeStarved e t = refl
stays memory l (Look false) f e t = absurd (false≢true t)
stays memory l Ask Yes e t = refl
stays memory l Ask No e t = tt
stays memory l JoinStarved Done e t = refl
stays memory l JoinStarved NoMemory e t = refl
stays memory l LookAlone Free e t = refl
stays memory l LookAlone (Held b) e t = refl
stays memory l LookAlone SomeStarved e t = refl
stays memory l PassOnListed Done e t = refl
stays memory l AskStarved Yes e t = refl
stays memory l AskStarved No e t = tt
stays memory l Seize Free e t = refl
stays memory l Seize (Held b) e t = refl
stays memory l (Uncount true) Done e t = refl
stays memory l (Uncount false) Done e t = tt
stays memory l Leave Done e t = tt
stays memory l RefuseUncount Done e t = refl
stays memory l (RefuseLeave true) Done e t = refl
stays memory l (RefuseLeave false) f e t = absurd (false≢true t)
stays memory l RefuseNotifyMemory Done e t = refl
stays memory l RefuseNotifyStarved Done e t = refl
stays memory l Out f e t = absurd (false≢true t)
stays memory l Holding f e t = absurd (false≢true t)
stays memory l Enter f e t = absurd (false≢true t)
stays memory l Try f e t = absurd (false≢true t)
stays memory l Clear f e t = absurd (false≢true t)
stays memory l CancelUncount f e t = absurd (false≢true t)
stays memory l CancelLeave f e t = absurd (false≢true t)
stays memory l ReleaseNotify f e t = absurd (false≢true t)
stays memory l _ _ e t = absurd e

-- what becomes of a told party's call: it goes on as told, or ends; and where it is refused some entry is marked, if there is any
abbrev pub HandsOn : Next → Place → List (Entry ℕ) → Type 0
HandsOn (Next.Do b to) at l = is_told at ≡ true
HandsOn (Next.End (Refused r)) at l = 0 < length l → 0 < marked_count l
HandsOn (Next.End e) at l = Unit {0}

pub notified_now : (p : ℕ) (a : Action) (f : Found) (l m : List (Entry ℕ)) → a ≡ Action.Notify → OnParties p a f l m → 0 < length m → 0 < marked_count m
notified_now p a f l m e o some =
    let P : Action → Type 0 = λ b. OnParties p b f l m in
    notified_marked l m (subst P e o) some

handed : (p : ℕ) (a : Action) (f : Found) (n : Next) (at : Place) (l m : List (Entry ℕ)) → StaysTold a n → ((b : Action) (to : Place) → n ≡ Next.Do b to → at ≡ to) → OnParties p a f l m → HandsOn n at m
handed p a f (Next.Do b to) at l m s leads o = ap is_told (leads b to refl) ∙ s
handed p a f (Next.End (Refused r)) at l m s leads o = notified_now p a f l m s o
handed p a f (Next.End Got) at l m s leads o = tt
handed p a f (Next.End Pending) at l m s leads o = tt
handed p a f (Next.End NotFree) at l m s leads o = tt
handed p a f (Next.End GivenBack) at l m s leads o = tt
handed p a f (Next.End _) at l m s leads o = tt

at_next : (from : Place) (n : Next) (b : Action) (to : Place) → n ≡ Next.Do b to → place_after from n ≡ to
at_next from n b to e = rw e refl

-- an action of a told party hands on
pub told_on : (memory : Bool) (p : ℕ) (from : Place) (n : Next) (old new : Lock) → Acts memory p from n old new → p < length old.places → is_told from ≡ true → HandsOn n (place_at new.places p) new.entries
told_on memory p from n old new acts there told =
    let S : Next → Type 0 = λ x. StaysTold (action_of from) x in
    let lands : place_at new.places p ≡ place_after from n = ap (λ ps. place_at ps p) acts.places ∙ get_or-set_same old.places p (place_after from n) Out there in
    handed p (action_of from) acts.found n (place_at new.places p) old.entries new.entries (subst S (sym acts.next_is) (stays memory old from acts.found acts.finds told)) (λ b to e. lands ∙ at_next from n b to e) acts.list

-- a poll of a party that waits begins as one that may be told
pub begins_told : (x from : Place) → is_waiting x ≡ true → start_of LockCall.Poll x ≡ Some from → is_told from ≡ true
begins_told Ask from w e = ap is_told (sym (some_place Ask from e))
begins_told AskStarved from w e = ap is_told (sym (some_place AskStarved from e))
begins_told _ from w e = absurd (false≢true w)

-- ---- no call is refused at its first action

abbrev is_start : Place → Bool
is_start Out = true
is_start Enter = true
is_start Try = true
is_start Ask = true
is_start AskStarved = true
is_start Clear = true
is_start CancelLeave = true
is_start CancelUncount = true
is_start _ = false

abbrev is_refusal : Option End → Bool
is_refusal (Some (Refused r)) = true
is_refusal _ = false

begins_at : (memory : Bool) (l : Lock) (from : Place) (f : Found) (r : Refusal) → Finds memory (action_of from) f l → is_start from ≡ true → decided_then (next_of from f) (after from f) ≡ Some (Refused r) → ⊥
begins_at memory l Out f r e s h = false≢true (ap is_refusal h)
begins_at memory l Enter Free r e s h = false≢true (ap is_refusal h)
begins_at memory l Enter (Held b) r e s h = false≢true (ap is_refusal h)
begins_at memory l Enter SomeStarved r e s h = false≢true (ap is_refusal h)
begins_at memory l Try Free r e s h = false≢true (ap is_refusal h)
begins_at memory l Try (Held b) r e s h = false≢true (ap is_refusal h)
begins_at memory l Try SomeStarved r e s h = false≢true (ap is_refusal h)
begins_at memory l Ask Yes r e s h = false≢true (ap is_refusal h)
begins_at memory l Ask No r e s h = false≢true (ap is_refusal h)
begins_at memory l AskStarved Yes r e s h = false≢true (ap is_refusal h)
begins_at memory l AskStarved No r e s h = false≢true (ap is_refusal h)
begins_at memory l Clear f r e s h = false≢true (ap is_refusal h)
begins_at memory l CancelLeave f r e s h = false≢true (ap is_refusal h)
begins_at memory l CancelUncount f r e s h = false≢true (ap is_refusal h)
begins_at memory l Holding f r e s h = false≢true s
begins_at memory l (Join told) f r e s h = false≢true s
begins_at memory l (Look told) f r e s h = false≢true s
begins_at memory l Retry f r e s h = false≢true s
begins_at memory l PassOn f r e s h = false≢true s
begins_at memory l (Count listed told) f r e s h = false≢true s
begins_at memory l JoinStarved f r e s h = false≢true s
begins_at memory l LookAlone f r e s h = false≢true s
begins_at memory l PassOnListed f r e s h = false≢true s
begins_at memory l Seize f r e s h = false≢true s
begins_at memory l (Uncount listed) f r e s h = false≢true s
begins_at memory l Leave f r e s h = false≢true s
begins_at memory l RefuseUncount f r e s h = false≢true s
begins_at memory l (RefuseLeave told) f r e s h = false≢true s
begins_at memory l RefuseNotifyMemory f r e s h = false≢true s
begins_at memory l RefuseNotifyStarved f r e s h = false≢true s
begins_at memory l ReleaseNotify f r e s h = false≢true s
begins_at memory l _ _ r e s h = absurd e

starts_at : (c : _) (x from : Place) → start_of c x ≡ Some from → is_start from ≡ true
starts_at LockCall.Lock Out from e = ap is_start (sym (some_place Enter from e))
starts_at LockCall.Try Out from e = ap is_start (sym (some_place Try from e))
starts_at LockCall.Poll Out from e = ap is_start (sym (some_place Enter from e))
starts_at LockCall.Poll Ask from e = ap is_start (sym (some_place Ask from e))
starts_at LockCall.Poll AskStarved from e = ap is_start (sym (some_place AskStarved from e))
starts_at LockCall.Release Holding from e = ap is_start (sym (some_place Clear from e))
starts_at LockCall.Cancel Out from e = ap is_start (sym (some_place Out from e))
starts_at LockCall.Cancel Ask from e = ap is_start (sym (some_place CancelLeave from e))
starts_at LockCall.Cancel AskStarved from e = ap is_start (sym (some_place CancelUncount from e))
starts_at _ _ from e = absurd (none_some e)

pub begins_unrefused : (memory : Bool) (p : ℕ) (c : _) (x from : Place) (n : Next) (old new : Lock) → start_of c x ≡ Some from → Acts memory p from n old new → p < length old.places → IsUnrefused n (place_at new.places p)
begins_unrefused memory p c x from n old new e acts there r h =
    let lands : place_at new.places p ≡ after from acts.found = ap (λ ps. place_at ps p) acts.places ∙ (get_or-set_same old.places p (place_after from n) Out there ∙ ap (place_after from) acts.next_is) in
    begins_at memory old from acts.found r acts.finds (starts_at c x from e) (sym (ap (λ y. decided_then y (after from acts.found)) acts.next_is) ∙ (sym (ap (decided_then n) lands) ∙ h))
