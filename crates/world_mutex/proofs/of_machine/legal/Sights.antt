-- What the courses of the parties' calls tell of the places behind them.
use Rattle.world_mutex.proofs.Prelude.{◌≡◌, ℕ, ◌+◌, ◌<◌, ◌≤◌, Bool, true, false, zero, suc, List, [], ◌∷◌, length, map, replicate, get_or, Option, Some, None, IsSome, IsSomeAnd, refl, sym, ap, arith, ◌∙◌, false≢true, set, sum_by, sum_by-cons, Memory, Starved, Place, LockCall, Action, Found, Done, Free, Held, AtLimit, Yes, End, Got, Pending, NotFree, GivenBack, Refused, Next, Step, start_of, place_after, step_of, Lock, place_at, new_lock, conceal, Acts, left, is_own_marked, is_open, Course, out, is_taking, is_releasing, is_cancelling, is_called, may_begin, Begins, Mutex, new_mutex, course_at, course_of, is_kept, AreKept, steps_from, seen}
use Rattle.std.specs.Prelude.{◌==◌, if◌then◌else◌}
use Rattle.lock_program.specs.MutexRoles as by
use Rattle.world_mutex.specs.machine.Courses as way
use Rattle.world_mutex.specs.machine.Legal as legal
use Rattle.world_mutex.specs.machine.State as state
use Rattle.world_mutex.specs.machine.Course.{holds, counted, listed, decision, is_waiting, is_resting, is_told, is_counting, is_due, may_tell, last_steps, Takes, Tries, Releases, Cancels, GoesOn}
use Rattle.world_mutex.specs.machine.Mutex.{is_holder, is_counted, holder_from}
use Rattle.world_mutex.proofs.of_machine.laws.Kept.{after}

-- what a party has, and how far its call is
record Has : Type 0 where
  pub holds : ℕ
  pub counted : ℕ
  pub listed : ℕ
  pub waiting : Bool
  pub taking : Bool
  pub releasing : Bool
  pub cancelling : Bool
  pub told : Bool
  pub counting : Bool
  pub due : Bool

abbrev by_place : Place → Has
by_place x = record { holds = by.holds x; counted = by.counted x; listed = by.listed x; waiting = way.is_waiting x; taking = way.is_taking x; releasing = way.is_releasing x; cancelling = way.is_cancelling x; told = way.is_told x; counting = way.is_counting x; due = way.is_due x }

abbrev by_course : Course → Has
by_course x = record { holds = holds x; counted = counted x; listed = listed x; waiting = is_waiting x; taking = is_taking x; releasing = is_releasing x; cancelling = is_cancelling x; told = is_told x; counting = is_counting x; due = is_due x }

-- both say the same
same : (x : Place) → by_course (course_of x) ≡ by_place x
same Place.Out = refl
same Place.Holding = refl
same Place.Enter = refl
same Place.Try = refl
same Place.Clear = refl
same Place.CancelUncount = refl
same Place.CancelLeave = refl
same Place.Ask = refl
same Place.Retry = refl
same Place.PassOn = refl
same Place.JoinStarved = refl
same Place.LookAlone = refl
same Place.PassOnListed = refl
same Place.AskStarved = refl
same Place.Seize = refl
same Place.Leave = refl
same Place.RefuseUncount = refl
same Place.RefuseNotifyMemory = refl
same Place.RefuseNotifyStarved = refl
same Place.ReleaseNotify = refl
same (Place.Join true) = refl
same (Place.Join false) = refl
same (Place.Look true) = refl
same (Place.Look false) = refl
same (Place.RefuseLeave true) = refl
same (Place.RefuseLeave false) = refl
same (Place.Count true true) = refl
same (Place.Count true false) = refl
same (Place.Count false true) = refl
same (Place.Count false false) = refl
same (Place.Uncount true) = refl
same (Place.Uncount false) = refl

pub holds_same : (x : Place) → holds (course_of x) ≡ by.holds x
holds_same x = ap (λ h. h.holds) (same x)

pub counted_same : (x : Place) → counted (course_of x) ≡ by.counted x
counted_same x = ap (λ h. h.counted) (same x)

pub listed_same : (x : Place) → listed (course_of x) ≡ by.listed x
listed_same x = ap (λ h. h.listed) (same x)

pub waiting_same : (x : Place) → is_waiting (course_of x) ≡ way.is_waiting x
waiting_same x = ap (λ h. h.waiting) (same x)

pub taking_same : (x : Place) → is_taking (course_of x) ≡ way.is_taking x
taking_same x = ap (λ h. h.taking) (same x)

pub releasing_same : (x : Place) → is_releasing (course_of x) ≡ way.is_releasing x
releasing_same x = ap (λ h. h.releasing) (same x)

pub cancelling_same : (x : Place) → is_cancelling (course_of x) ≡ way.is_cancelling x
cancelling_same x = ap (λ h. h.cancelling) (same x)

pub told_same : (x : Place) → is_told (course_of x) ≡ way.is_told x
told_same x = ap (λ h. h.told) (same x)

pub counting_same : (x : Place) → is_counting (course_of x) ≡ way.is_counting x
counting_same x = ap (λ h. h.counting) (same x)

-- where a party may be left, so does what its call is decided on,
pub due_same : (x : Place) → is_due (course_of x) ≡ way.is_due x
due_same x = ap (λ h. h.due) (same x)

pub telling_same : (x : Place) → way.may_tell x ≡ true → may_tell (course_of x) ≡ true
telling_same Place.PassOn h = refl
telling_same Place.PassOnListed h = refl
telling_same Place.RefuseNotifyMemory h = refl
telling_same Place.RefuseNotifyStarved h = refl
telling_same Place.ReleaseNotify h = refl
telling_same _ h = absurd (cc h)

pub decision_same : (x : Place) → is_kept x ≡ true → decision (course_of x) ≡ legal.decision x
decision_same Place.Out k = refl
decision_same Place.Holding k = refl
decision_same Place.Enter k = absurd (false≢true k)
decision_same Place.Try k = absurd (false≢true k)
decision_same Place.Clear k = absurd (false≢true k)
decision_same Place.CancelUncount k = refl
decision_same Place.CancelLeave k = refl
decision_same Place.Ask k = refl
decision_same Place.Retry k = refl
decision_same Place.PassOn k = refl
decision_same Place.JoinStarved k = refl
decision_same Place.LookAlone k = refl
decision_same Place.PassOnListed k = refl
decision_same Place.AskStarved k = refl
decision_same Place.Seize k = refl
decision_same Place.Leave k = refl
decision_same Place.RefuseUncount k = refl
decision_same Place.RefuseNotifyMemory k = refl
decision_same Place.RefuseNotifyStarved k = refl
decision_same Place.ReleaseNotify k = refl
decision_same (Place.Join told) k = refl
decision_same (Place.Look told) k = refl
decision_same (Place.RefuseLeave told) k = refl
decision_same (Place.Count listed told) k = refl
decision_same (Place.Uncount listed) k = refl

-- whether it rests,
pub rests_there : (x : Place) → is_kept x ≡ true → is_resting (course_of x) ≡ true → by.is_resting x ≡ true
rests_there Place.Out k h = refl
rests_there Place.Holding k h = refl
rests_there Place.Ask k h = refl
rests_there Place.AskStarved k h = refl
rests_there _ k h = absurd (cc)

pub rests_here : (x : Place) → by.is_resting x ≡ true → is_resting (course_of x) ≡ true
rests_here Place.Out h = refl
rests_here Place.Holding h = refl
rests_here Place.Ask h = refl
rests_here Place.AskStarved h = refl
rests_here _ h = absurd (false≢true h)

-- and which calls may begin there
pub may_start : (c : LockCall) (x : Place) → is_kept x ≡ true → may_begin c (course_of x) ≡ true → IsSome (start_of c x)
may_start LockCall.Lock Place.Out k h = refl
may_start LockCall.Try Place.Out k h = refl
may_start LockCall.Poll Place.Out k h = refl
may_start LockCall.Poll Place.Ask k h = refl
may_start LockCall.Poll Place.AskStarved k h = refl
may_start LockCall.Release Place.Holding k h = refl
may_start LockCall.Cancel Place.Out k h = refl
may_start LockCall.Cancel Place.Ask k h = refl
may_start LockCall.Cancel Place.AskStarved k h = refl
may_start _ Place.Enter k h = absurd (false≢true k)
may_start _ Place.Try k h = absurd (false≢true k)
may_start _ Place.Clear k h = absurd (false≢true k)
may_start _ _ k h = absurd (false≢true h)

-- a party that looks at the lock after a notification
pub looks : (x : Place) → is_called (course_of x) ≡ true → x ≡ Place.Retry
looks Place.Retry h = refl
looks _ h = absurd (false≢true h)

-- ---- where a step leaves its party

-- a step leaves its party where one may be left
kept_after : (x : Place) (f : Found) → is_kept (after x f) ≡ true
kept_after Place.Out f = refl
kept_after Place.Holding f = refl
kept_after Place.Enter Free = refl
kept_after Place.Enter _ = refl
kept_after Place.Try Free = refl
kept_after Place.Try _ = refl
kept_after Place.Clear f = refl
kept_after Place.CancelUncount f = refl
kept_after Place.CancelLeave f = refl
kept_after (Place.Join true) Done = refl
kept_after (Place.Join true) _ = refl
kept_after (Place.Join false) Done = refl
kept_after (Place.Join false) _ = refl
kept_after (Place.Look told) Free = refl
kept_after (Place.Look told) (Held b) = refl
kept_after (Place.Look told) _ = refl
kept_after Place.Ask Yes = refl
kept_after Place.Ask _ = refl
kept_after Place.Retry Free = refl
kept_after Place.Retry (Held true) = refl
kept_after Place.Retry (Held false) = refl
kept_after Place.Retry _ = refl
kept_after Place.PassOn f = refl
kept_after (Place.Count true told) AtLimit = refl
kept_after (Place.Count true told) _ = refl
kept_after (Place.Count false true) AtLimit = refl
kept_after (Place.Count false false) AtLimit = refl
kept_after (Place.Count false told) _ = refl
kept_after Place.JoinStarved Done = refl
kept_after Place.JoinStarved _ = refl
kept_after Place.LookAlone Free = refl
kept_after Place.LookAlone (Held b) = refl
kept_after Place.LookAlone _ = refl
kept_after Place.PassOnListed f = refl
kept_after Place.AskStarved Yes = refl
kept_after Place.AskStarved _ = refl
kept_after Place.Seize Free = refl
kept_after Place.Seize _ = refl
kept_after (Place.Uncount true) f = refl
kept_after (Place.Uncount false) f = refl
kept_after Place.Leave f = refl
kept_after Place.RefuseUncount f = refl
kept_after (Place.RefuseLeave true) f = refl
kept_after (Place.RefuseLeave false) f = refl
kept_after Place.RefuseNotifyMemory f = refl
kept_after Place.RefuseNotifyStarved f = refl
kept_after Place.ReleaseNotify f = refl

past_end : (ps : List Place) (p : ℕ) (y : Place) (q : ℕ) → AreKept ps → is_kept y ≡ true → is_kept (place_at (set ps p y) q) ≡ true
past_end [] p y q k h = refl
past_end (x ∷ xs) zero y zero k h = h
past_end (x ∷ xs) zero y (suc q) k h = k (suc q)
past_end (x ∷ xs) (suc p) y zero k h = k zero
past_end (x ∷ xs) (suc p) y (suc q) k h = past_end xs p y q (λ j. k (suc j)) h

pub acts_kept : (memory : Bool) (p : ℕ) (from : Place) (n : Next) (l k : Lock) → AreKept l.places → Acts memory p from n l k → AreKept k.places
acts_kept memory p from n l k kept a q =
    let y : Place = after from a.found in
    let there : k.places ≡ set l.places p y = a.places ∙ ap (λ m. set l.places p (place_after from m)) a.next_is in
    ap (λ ps. is_kept (place_at ps q)) there ∙ past_end l.places p y q kept (kept_after from a.found)

-- a step told by its end came to this end
pub ended : (n : Next) (e : End) → Step.End e ≡ step_of n → n ≡ Next.End e
ended (Next.Do a q) e h = absurd (cc)
ended (Next.End x) e h = let same : x ≡ e = cc in ap (λ y. Next.End y) same

pub went_on : (n : Next) → Step.More ≡ step_of n → (a : Action) × (q : Place) × (n ≡ Next.Do a q)
went_on (Next.Do a q) h = (a, q, refl)
went_on (Next.End x) h = absurd (cc)

-- ---- courses of calls

takes_so : (n : Next) (to : Place) → way.Takes n to → Takes (step_of n) (course_of to)
takes_so (Next.Do a q) to h = taking_same to ∙ h
takes_so (Next.End Got) to h = ap course_of h
takes_so (Next.End Pending) to h = waiting_same to ∙ h
takes_so (Next.End (Refused Memory)) to h = ap course_of h
takes_so (Next.End (Refused Starved)) to h = ap course_of h
takes_so (Next.End _) to h = absurd h

tries_so : (n : Next) (to : Place) → way.Tries n to → Tries (step_of n) (course_of to)
tries_so (Next.End Got) to h = ap course_of h
tries_so (Next.End NotFree) to h = ap course_of h
tries_so _ to h = absurd h

releases_so : (n : Next) (to : Place) → way.Releases n to → Releases (step_of n) (course_of to)
releases_so (Next.Do a q) to h = releasing_same to ∙ h
releases_so (Next.End GivenBack) to h = ap course_of h
releases_so _ to h = absurd h

cancels_so : (n : Next) (to : Place) → way.Cancels n to → Cancels (step_of n) (course_of to)
cancels_so (Next.Do a q) to h = cancelling_same to ∙ h
cancels_so (Next.End GivenBack) to h = ap course_of h
cancels_so _ to h = absurd h

pub begins_so : (c : LockCall) (n : Next) (to : Place) → way.Begins c n to → Begins c (step_of n) (course_of to)
begins_so LockCall.Lock n to h = takes_so n to h
begins_so LockCall.Poll n to h = takes_so n to h
begins_so LockCall.Try n to h = tries_so n to h
begins_so LockCall.Release n to h = releases_so n to h
begins_so LockCall.Cancel n to h = cancels_so n to h

pub goes_so : (at : Place) (n : Next) (to : Place) → way.GoesOn at n to → GoesOn (course_of at) (step_of n) (course_of to)
goes_so at n to g = record {
  takes = λ h. takes_so n to (g.takes (sym (taking_same at) ∙ h));
  releases = λ h. let b = g.releases (sym (releasing_same at) ∙ h) in (ap step_of b.0, ap course_of b.1);
  cancels = λ h. cancels_so n to (g.cancels (sym (cancelling_same at) ∙ h));
}

-- ---- all parties

pub at_seen : (ps : List Place) (p : ℕ) → course_at (map course_of ps) p ≡ course_of (place_at ps p)
at_seen [] p = refl
at_seen (x ∷ xs) zero = refl
at_seen (x ∷ xs) (suc p) = at_seen xs p

pub length_seen : (ps : List Place) → length (map course_of ps) ≡ length ps
length_seen [] = refl
length_seen (x ∷ xs) = ap (λ n. suc n) (length_seen xs)

sum_seen : (f : Course → ℕ) (g : Place → ℕ) → ((x : Place) → f (course_of x) ≡ g x) → (ps : List Place) → sum_by f (map course_of ps) ≡ sum_by g ps
sum_seen f g same [] = refl
sum_seen f g same (x ∷ xs) = omega (arith, sum_by-cons f (course_of x) (map course_of xs), sum_by-cons g x xs, same x, sum_seen f g same xs)

pub holders_seen : (ps : List Place) → sum_by holds (map course_of ps) ≡ sum_by by.holds ps
holders_seen ps = sum_seen holds by.holds holds_same ps

pub starved_seen : (ps : List Place) → sum_by counted (map course_of ps) ≡ sum_by by.counted ps
starved_seen ps = sum_seen counted by.counted counted_same ps

holder_same : (x : Place) → is_holder (course_of x) ≡ state.is_holder x
holder_same x = ap (λ n. n == 1) (holds_same x)

pub holder_seen : (n : ℕ) (ps : List Place) → holder_from n (map course_of ps) ≡ state.holder_from n ps
holder_seen n [] = refl
holder_seen n (x ∷ xs) = ap (λ b. if b then Some n else holder_from (n + 1) (map course_of xs)) (holder_same x) ∙ ap (λ o. if state.is_holder x then Some n else o) (holder_seen (n + 1) xs)

pub roster_seen : (ps : List Place) → map is_counted (map course_of ps) ≡ map state.is_counted ps
roster_seen [] = refl
roster_seen (x ∷ xs) = ap (λ n. (n == 1) ∷ map is_counted (map course_of xs)) (counted_same x) ∙ ap (λ r. state.is_counted x ∷ r) (roster_seen xs)

steps_at : (l : Lock) (n : ℕ) (ps : List Place) (p : ℕ) → get_or (steps_from l n ps) p 1 ≡ left (place_at ps p) (is_own_marked l (n + p)) (is_open l)
steps_at l n [] p = refl
steps_at l n (x ∷ xs) zero = ap (λ q. left x (is_own_marked l q) (is_open l)) (omega arith)
steps_at l n (x ∷ xs) (suc p) = steps_at l (n + 1) xs p ∙ ap (λ q. left (place_at xs p) (is_own_marked l q) (is_open l)) (omega arith)

pub steps_seen : (l : Lock) (p : ℕ) → get_or (steps_from l 0 l.places) p 1 ≡ left (place_at l.places p) (is_own_marked l p) (is_open l)
steps_seen l p = steps_at l 0 l.places p ∙ ap (λ q. left (place_at l.places p) (is_own_marked l q) (is_open l)) (omega arith)

-- no place has no steps left
pub some_left : (x : Place) (marked free : Bool) → 0 < left x marked free
some_left (Place.Look told) m o = grind arith
some_left Place.Ask m o = grind arith
some_left Place.JoinStarved m o = grind arith
some_left Place.LookAlone m o = grind arith
some_left Place.PassOnListed m o = grind arith
some_left Place.AskStarved m o = grind arith
some_left Place.Seize m o = grind arith
some_left (Place.Count true told) m o = omega arith
some_left (Place.Count false told) m o = omega arith
some_left (Place.Uncount true) m o = omega arith
some_left (Place.Uncount false) m o = omega arith
some_left _ m o = omega arith

-- where a call is decided, as many as its course says
pub last_there : (x : Place) (m o : Bool) (e : End) → is_kept x ≡ true → decision (course_of x) ≡ Some e → (left x m o ≡ last_steps (course_of x)) × (left x m o ≤ 2)
last_there Place.Out m o e k d = (refl, omega arith)
last_there (Place.Uncount true) m o e k d = (refl, omega arith)
last_there (Place.Uncount false) m o e k d = (refl, omega arith)
last_there Place.Leave m o e k d = (refl, omega arith)
last_there Place.RefuseUncount m o e k d = (refl, omega arith)
last_there (Place.RefuseLeave told) m o e k d = (refl, omega arith)
last_there Place.RefuseNotifyMemory m o e k d = (refl, omega arith)
last_there Place.RefuseNotifyStarved m o e k d = (refl, omega arith)
last_there Place.ReleaseNotify m o e k d = (refl, omega arith)
last_there Place.CancelUncount m o e k d = (refl, omega arith)
last_there Place.CancelLeave m o e k d = (refl, omega arith)
last_there Place.Enter m o e k d = absurd (cc k)
last_there Place.Try m o e k d = absurd (cc k)
last_there Place.Clear m o e k d = absurd (cc k)
last_there _ m o e k d = absurd (cc d)

-- ---- a new mutex

pub courses_new : (n : ℕ) → map course_of (replicate n Place.Out) ≡ replicate n out
courses_new zero = refl
courses_new (suc n) = ap (λ l. out ∷ l) (courses_new n)

pub steps_new : (l : Lock) (k n : ℕ) → steps_from l k (replicate n Place.Out) ≡ replicate n 1
steps_new l k zero = refl
steps_new l k (suc n) = ap (λ s. 1 ∷ s) (steps_new l (k + 1) n)

pub kept_new : (n p : ℕ) → is_kept (place_at (replicate n Place.Out) p) ≡ true
kept_new zero p = refl
kept_new (suc n) zero = refl
kept_new (suc n) (suc p) = kept_new n p

pub seen_new : (parties limit : ℕ) → seen (new_lock parties limit) ≡ new_mutex parties limit
seen_new parties limit = record_of (courses_new parties) (steps_new (new_lock parties limit) 0 parties) where
  record_of : {cs ds : List Course} {ss ts : List ℕ} → cs ≡ ds → ss ≡ ts → Path Mutex (record { courses = cs; entries = []; limit = limit; steps = ss; behind = conceal (new_lock parties limit) }) (record { courses = ds; entries = []; limit = limit; steps = ts; behind = conceal (new_lock parties limit) })
  record_of e f = rw (e, f) refl

pub begins_kept : (memory : Bool) (p : ℕ) (c : LockCall) (n : Next) (l k : Lock) → AreKept l.places → IsSomeAnd (start_of c (place_at l.places p)) (λ from. Acts memory p from n l k) → AreKept k.places
begins_kept memory p c n l k kept h = by_start (start_of c (place_at l.places p)) h where
  by_start : (o : Option Place) → IsSomeAnd o (λ from. Acts memory p from n l k) → AreKept k.places
  by_start None h = absurd h
  by_start (Some from) h = acts_kept memory p from n l k kept h
