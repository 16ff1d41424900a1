-- A call that waits for the inner lock at its end, and hasn't waited for too long, has notified nobody there, where nobody is starved for it.
use Rattle.world_barrier.proofs.Prelude.{◌≡◌, ◌≢◌, ℕ, ◌<◌, ◌⊎◌, inl, inr, Bool, true, false, List, Option, Some, None, is_some, refl, arith, ap, sym, ◌∙◌, subst, false≢true, true≢false, Entry, is_marked_at, is_party, entries_of, Account, accounts_after, Answer, Call, Inputs, Move, What, Begin, Go, Rest, Within, how_many, Standing, outside, inputs_of, StandsAfter, going_on, moves_of, answers_of, none_some, some_eq, joined_unmarked, beginning, along, Onward, Table, Acted, onward, End as LockEnd, LockStep, decided_then, Course, Takes, decision, is_counting, is_taking, Mutex, course_at, starved, out_uncounted, waiting_uncounted, Action, OnLock, Aim, Ending, Found, Place, EnterLock, WaitLock, TakeLock, Look, Join, Arrive, Complete, NotifyAll, Check, JoinAgain, ReleaseLock, ReleasingLock, Ask, CancelLock, CancellingLock, CancelLeave, Abandon, Position, Out, Made, Locking, Waiting, At, entries_after, start_of, place_for, action_of, next_of, position_after, released, fits_lock, in_lock, listed, Barrier, IsBarrier, Moves, position_at, is_own_marked, call_of, Runs, HoldsWell, World, standing_of, IsBarrierTable, Stands, Steps}
use Rattle.world_base.specs.Marks.{MarksNobody}
use Rattle.world_base.proofs.Marks.{marks_more}
use Rattle.world_mutex.proofs.of_machine.callers.Silent.{out_silent, waiting_silent, undecided_silent, never_pending, step_marks}
use Rattle.world_barrier.proofs.whole.Alone.{known_calls, acts_so}
use Rattle.world_barrier.proofs.whole.Polls.{nobody_starved, from_waiting, stands_at, at_rest_there}
use Rattle.world_barrier.proofs.whole.Served.{Step}

-- ---- nobody is made starved that hasn't waited for too long, while nobody is

-- an action counts nobody
pub counts_none : (i : Inputs) (p : ℕ) (action : Action) (f : Found) (m n : Mutex) → i.starving ≡ false → OnLock i p action f m n → starved m ≡ 0 → is_counting (course_at m.courses p) ≡ false → (starved n ≡ 0) × (is_counting (course_at n.courses p) ≡ false)
counts_none i p (Action.Begin c) (Found.Lock s) m n patient o none not_next = o.patient patient none not_next
counts_none i p (Action.Begin c) _ m n patient o none not_next = absurd o
counts_none i p Action.Go (Found.Lock s) m n patient o none not_next = o.patient patient none not_next
counts_none i p Action.Go _ m n patient o none not_next = absurd o
counts_none i p _ f m n patient o none not_next = let P : Mutex → Type 0 = λ l. (starved l ≡ 0) × (is_counting (course_at l.courses p) ≡ false) in subst P (sym o) (none, not_next)

-- whoever begins a call isn't about to be counted
pub begins_uncounted : (c : Call) (x : Position) (from : Place) (k : Course) → start_of c x ≡ Some from → fits_lock (in_lock x) k ≡ true → is_counting k ≡ false
begins_uncounted c Out from k e fits = out_uncounted k fits
begins_uncounted c (Made a) from k e fits = out_uncounted k fits
begins_uncounted c (Locking a) from k e fits = waiting_uncounted k fits
begins_uncounted c Waiting from k e fits = out_uncounted k fits
begins_uncounted Call.Wait (At x) from k e fits = absurd (none_some e)
begins_uncounted Call.Poll (At x) from k e fits = absurd (none_some e)
begins_uncounted Call.Drop (At x) from k e fits = absurd (none_some e)
begins_uncounted _ (At x) from k e fits = absurd (none_some e)

-- ---- where the inner lock was had, or the call is decided

-- whoever asks in its generation's list after that isn't marked there
abbrev ThenUnmarked : Ending → ℕ → Barrier → Type 0
ThenUnmarked Ending.Wait p x = is_own_marked x p ≡ false
ThenUnmarked e p x = Unit {0}

abbrev pub PastIn : Place → ℕ → Barrier → Type 0
PastIn (EnterLock a) p x = ⊥
PastIn (WaitLock a) p x = ⊥
PastIn (TakeLock a) p x = is_some (decision (course_at x.lock.courses p)) ≡ true
PastIn Arrive p x = is_own_marked x p ≡ false
PastIn (ReleaseLock e) p x = ThenUnmarked e p x
PastIn (ReleasingLock e) p x = ThenUnmarked e p x
PastIn Ask p x = is_own_marked x p ≡ false
PastIn place p x = Unit {0}

abbrev pub PastAt : Position → ℕ → Barrier → Type 0
PastAt (At place) p x = PastIn place p x
PastAt (Locking a) p x = ⊥
PastAt position p x = Unit {0}

none_of : (o : Option LockEnd) → is_some o ≡ false → o ≡ None
none_of None h = refl
none_of (Some e) h = absurd (true≢false h)

some_of : (o : Option LockEnd) → is_some o ≡ true → (e : LockEnd) × (o ≡ Some e)
some_of (Some e) h = (e, refl)
some_of None h = absurd (false≢true h)

-- a poll that is decided on another end than pending has the lock next, or is refused
decided_past : (p : ℕ) (y : Barrier) (a : Aim) (s : LockStep) (e : LockEnd) → Takes s (course_at y.lock.courses p) → decided_then s (course_at y.lock.courses p) ≡ Some e → (e ≡ LockEnd.Pending → ⊥) → PastAt (position_after (next_of (TakeLock a) (Found.Lock s))) p y
decided_past p y a LockStep.More e t d f = ap is_some d
decided_past p y Aim.Arrive (LockStep.End LockEnd.Got) e t d f = tt
decided_past p y Aim.Check (LockStep.End LockEnd.Got) e t d f = tt
decided_past p y a (LockStep.End LockEnd.Pending) e t d f = absurd (f (sym (some_eq d)))
decided_past p y a (LockStep.End (LockEnd.Refused r)) e t d f = tt
decided_past p y a (LockStep.End _) e t d f = absurd t

module _ (i : Inputs) (p : ℕ) (x y : Barrier) (laws : IsBarrier x) where
  abbrev Then : Place → Found → Type 0
  Then from f = PastAt (position_after (next_of from f)) p y

  joined : (from : Place) → position_at x.positions p ≡ At from → listed (At from) ≡ 0 → y.entries ≡ entries_after p Action.Join Found.Done x.entries → is_own_marked y p ≡ false
  joined from here none entries = ap (is_marked_at (is_party p)) entries ∙ joined_unmarked p x.entries (laws.owners p ∙ (ap listed here ∙ none))

  same_mark : y.entries ≡ x.entries → is_own_marked x p ≡ false → is_own_marked y p ≡ false
  same_mark e h = ap (is_marked_at (is_party p)) e ∙ h

  then_kept : (e : Ending) → y.entries ≡ x.entries → ThenUnmarked e p x → ThenUnmarked e p y
  then_kept Ending.Wait e h = same_mark e h
  then_kept Ending.Follow e h = tt
  then_kept Ending.Lead e h = tt
  then_kept Ending.RefuseGenerations e h = tt
  then_kept (Ending.RefuseMemory a) e h = tt

  after : (e : Ending) → y.entries ≡ x.entries → ThenUnmarked e p x → PastAt (position_after (released e)) p y
  after Ending.Wait e h = same_mark e h
  after Ending.Follow e h = tt
  after Ending.Lead e h = tt
  after Ending.RefuseGenerations e h = tt
  after (Ending.RefuseMemory a) e h = tt

  takes_past : (a : Aim) (f : Found) → is_taking (course_at x.lock.courses p) ≡ true → is_some (decision (course_at x.lock.courses p)) ≡ true → Step i p (TakeLock a) f x y → Then (TakeLock a) f
  takes_past a (Found.Lock s) taking past k =
      let c = course_at x.lock.courses p in
      let d = some_of (decision c) past in
      decided_past p y a s d.0 (k.lock.leads.takes taking) (k.lock.legal.kept d.0 d.1).0 (λ e. never_pending c (d.1 ∙ ap Some e))
  takes_past a _ taking past k = absurd k.lock

  link_at : (from : Place) → position_at x.positions p ≡ At from → fits_lock (in_lock (At from)) (course_at x.lock.courses p) ≡ true
  link_at from here = let P : Position → Type 0 = λ z. fits_lock (in_lock z) (course_at x.lock.courses p) ≡ true in subst P here (laws.links p)

  pub stays_past : (from : Place) (f : Found) → position_at x.positions p ≡ At from → PastIn from p x → Step i p from f x y → Then from f
  stays_past (EnterLock a) f here h k = absurd h
  stays_past (WaitLock a) f here h k = absurd h
  stays_past (TakeLock a) f here h k = takes_past a f (link_at (TakeLock a) here) h k
  stays_past Look Found.MustWait here h k = tt
  stays_past Look Found.Leads here h k = tt
  stays_past Look _ here h k = tt
  stays_past Join Found.Done here h k = joined Join here refl k.entries
  stays_past Join _ here h k = tt
  stays_past Arrive f here h k = same_mark k.entries h
  stays_past Complete f here h k = tt
  stays_past NotifyAll f here h k = tt
  stays_past Check Found.Finished here h k = tt
  stays_past Check _ here h k = tt
  stays_past JoinAgain Found.Done here h k = joined JoinAgain here refl k.entries
  stays_past JoinAgain _ here h k = tt
  stays_past (ReleaseLock e) (Found.Lock LockStep.More) here h k = then_kept e k.entries h
  stays_past (ReleaseLock e) (Found.Lock (LockStep.End z)) here h k = after e k.entries h
  stays_past (ReleaseLock e) _ here h k = absurd k.lock
  stays_past (ReleasingLock e) (Found.Lock LockStep.More) here h k = then_kept e k.entries h
  stays_past (ReleasingLock e) (Found.Lock (LockStep.End z)) here h k = after e k.entries h
  stays_past (ReleasingLock e) _ here h k = absurd k.lock
  stays_past Ask Found.Yes here h k = absurd (true≢false (sym k.finds ∙ h))
  stays_past Ask _ here h k = tt
  stays_past CancelLock f here h k = cancelled f k
    where
      cancelled : (f : Found) → Step i p CancelLock f x y → Then CancelLock f
      cancelled (Found.Lock LockStep.More) k = tt
      cancelled (Found.Lock (LockStep.End z)) k = tt
      cancelled _ k = absurd k.lock
  stays_past CancellingLock f here h k = cancelled f k
    where
      cancelled : (f : Found) → Step i p CancellingLock f x y → Then CancellingLock f
      cancelled (Found.Lock LockStep.More) k = tt
      cancelled (Found.Lock (LockStep.End z)) k = tt
      cancelled _ k = absurd k.lock
  stays_past CancelLeave f here h k = tt
  stays_past Abandon f here h k = tt

-- ---- where it isn't had yet

-- a call begins or goes on here that hasn't had it
abbrev is_before : Place → Bool
is_before (EnterLock a) = true
is_before (WaitLock a) = true
is_before (TakeLock a) = true
is_before Ask = true
is_before CancelLock = true
is_before CancelLeave = true
is_before Abandon = true
is_before place = false

abbrev pub is_quiet : Position → Bool
is_quiet (At (EnterLock a)) = true
is_quiet (At (TakeLock a)) = true
is_quiet (Locking a) = true
is_quiet position = false

starts_before : (c : Call) (x : Position) (from : Place) (k : Course) → start_of c x ≡ Some from → fits_lock (in_lock x) k ≡ true → (is_before from ≡ true) × (fits_lock (in_lock (At from)) k ≡ true)
starts_before Call.Wait Out from k e fits = let B : Place → Type 0 = λ z. (is_before z ≡ true) × (fits_lock (in_lock (At z)) k ≡ true) in subst B (some_eq e) (refl, fits)
starts_before Call.Poll (Made a) from k e fits = let B : Place → Type 0 = λ z. (is_before z ≡ true) × (fits_lock (in_lock (At z)) k ≡ true) in subst B (some_eq e) (refl, fits)
starts_before Call.Poll (Locking a) from k e fits = let B : Place → Type 0 = λ z. (is_before z ≡ true) × (fits_lock (in_lock (At z)) k ≡ true) in subst B (some_eq e) (refl, fits)
starts_before Call.Poll Waiting from k e fits = let B : Place → Type 0 = λ z. (is_before z ≡ true) × (fits_lock (in_lock (At z)) k ≡ true) in subst B (some_eq e) (refl, fits)
starts_before Call.Drop (Locking a) from k e fits = let B : Place → Type 0 = λ z. (is_before z ≡ true) × (fits_lock (in_lock (At z)) k ≡ true) in subst B (some_eq e) (refl, fits)
starts_before Call.Drop Waiting from k e fits = let B : Place → Type 0 = λ z. (is_before z ≡ true) × (fits_lock (in_lock (At z)) k ≡ true) in subst B (some_eq e) (refl, fits)
starts_before Call.Drop Out from k e fits = let B : Place → Type 0 = λ z. (is_before z ≡ true) × (fits_lock (in_lock (At z)) k ≡ true) in subst B (some_eq e) (refl, fits)
starts_before Call.Drop (Made a) from k e fits = let B : Place → Type 0 = λ z. (is_before z ≡ true) × (fits_lock (in_lock (At z)) k ≡ true) in subst B (some_eq e) (refl, fits)
starts_before _ _ from k e fits = absurd (none_some e)

module _ (i : Inputs) (p : ℕ) (x y : Barrier) (still : i.starving ≡ false) (none : starved x.lock ≡ 0) (uncounting : is_counting (course_at x.lock.courses p) ≡ false) where
  abbrev Marks : Type 0
  Marks = MarksNobody p x.lock.entries y.lock.entries

  -- it goes on quietly, having marked nobody; or it is past
  abbrev Quiet : Place → Found → Type 0
  Quiet from f = PastAt (position_after (next_of from f)) p y ⊎ ((is_quiet (position_after (next_of from f)) ≡ true) × Marks)

  by_step : (a : Aim) (from : Place) (s : LockStep) → ((n : LockStep) → position_after (next_of from (Found.Lock n)) ≡ position_after (next_of (TakeLock a) (Found.Lock n))) → Marks → Quiet from (Found.Lock s)
  by_step a from s same marks = let Q : Position → Type 0 = λ z. PastAt z p y ⊎ ((is_quiet z ≡ true) × Marks) in subst Q (sym (same s)) (taken a s) where
    taken : (a : Aim) (s : LockStep) → PastAt (position_after (next_of (TakeLock a) (Found.Lock s))) p y ⊎ ((is_quiet (position_after (next_of (TakeLock a) (Found.Lock s))) ≡ true) × Marks)
    taken a LockStep.More = inr (refl, marks)
    taken Aim.Arrive (LockStep.End LockEnd.Got) = inl tt
    taken Aim.Check (LockStep.End LockEnd.Got) = inl tt
    taken a (LockStep.End (LockEnd.Refused r)) = inl tt
    taken a (LockStep.End _) = inr (refl, marks)

  unmoved : y.lock ≡ x.lock → Marks
  unmoved e = let M : Mutex → Type 0 = λ l. MarksNobody p x.lock.entries l.entries in subst M (sym e) (λ q apart h. h)

  goes_quietly : (from : Place) (f : Found) → is_before from ≡ true → fits_lock (in_lock (At from)) (course_at x.lock.courses p) ≡ true → Step i p from f x y → Quiet from f
  goes_quietly (EnterLock a) (Found.Lock s) before fits k = by_step a (EnterLock a) s (λ n. refl) (step_marks i.memory p None s x.lock y.lock k.lock.legal refl (out_silent (course_at x.lock.courses p) fits))
  goes_quietly (EnterLock a) _ before fits k = absurd k.lock
  goes_quietly (WaitLock a) (Found.Lock s) before fits k = by_step a (WaitLock a) s (λ n. refl) (step_marks i.memory p None s x.lock y.lock k.lock.legal refl (waiting_silent (course_at x.lock.courses p) fits))
  goes_quietly (WaitLock a) _ before fits k = absurd k.lock
  goes_quietly (TakeLock a) (Found.Lock s) before fits k = by_decision (is_some (decision (course_at x.lock.courses p))) refl where
    by_decision : (b : Bool) → is_some (decision (course_at x.lock.courses p)) ≡ b → Quiet (TakeLock a) (Found.Lock s)
    by_decision true some =
        let c = course_at x.lock.courses p in
        let d = some_of (decision c) some in
        inl (decided_past p y a s d.0 (k.lock.leads.takes fits) (k.lock.legal.kept d.0 d.1).0 (λ e. never_pending c (d.1 ∙ ap Some e)))
    by_decision false apart =
        let midway : decision (course_at x.lock.courses p) ≡ None = none_of (decision (course_at x.lock.courses p)) apart in
        by_step a (TakeLock a) s (λ n. refl) (step_marks i.memory p (decision (course_at x.lock.courses p)) s x.lock y.lock k.lock.legal midway (undecided_silent x.lock p none midway uncounting))
  goes_quietly (TakeLock a) _ before fits k = absurd k.lock
  goes_quietly Ask Found.Yes before fits k = inr (refl, unmoved k.lock)
  goes_quietly Ask _ before fits k = inl tt
  goes_quietly CancelLock (Found.Lock LockStep.More) before fits k = inl tt
  goes_quietly CancelLock (Found.Lock (LockStep.End z)) before fits k = inl tt
  goes_quietly CancelLock _ before fits k = absurd k.lock
  goes_quietly CancelLeave f before fits k = inl tt
  goes_quietly Abandon f before fits k = inl tt
  goes_quietly _ f before fits k = absurd (false≢true before)

-- ---- along a whole call

going_at : (i : Inputs) (z : Position) (from : Place) → place_for (Go i) z ≡ Some from → z ≡ At from
going_at i (At place) from e = ap At (some_eq e)
going_at i _ from e = absurd (none_some e)

quiet_before : (from : Place) → is_quiet (At from) ≡ true → is_before from ≡ true
quiet_before (EnterLock a) h = refl
quiet_before (TakeLock a) h = refl
quiet_before _ h = absurd (false≢true h)

pending_stands : (u : Within) (b : Answer) (t : Standing) → b ≡ Answer.Pending → StandsAfter Rest.Finished u b t → t ≡ outside Rest.Pending
pending_stands u Answer.Pending t e s = s.1
pending_stands u _ t e s = absurd (cc e)

module _ (p : ℕ) (i : Inputs) (patient : i.starving ≡ false) (l0 : List (Entry ℕ)) where
  abbrev here : Table Barrier → Position
  here t = position_at t.machine.positions p

  record Silent (t : Table Barrier) : Type 0 where
    pub unstarved : starved t.machine.lock ≡ 0
    pub uncounting : is_counting (course_at t.machine.lock.courses p) ≡ false
    pub kept : MarksNobody p l0 t.machine.lock.entries

  abbrev Calm : Table Barrier → Type 0
  Calm t = PastAt (here t) p t.machine ⊎ ((is_quiet (here t) ≡ true) × Silent t)

  abbrev Kept : Answer → Table Barrier → Type 0
  Kept b t = b ≡ Answer.Pending → (a : Aim) → here t ≡ Locking a → MarksNobody p l0 t.machine.lock.entries

  record Done (b : Answer) (y : World) : Type 0 where
    pub outside : b ≡ Answer.Pending → standing_of y p ≡ outside Rest.Pending
    pub kept : Kept b y.behind

  never_past : (z : Position) (a : Aim) (x : Barrier) → z ≡ Locking a → PastAt z p x → ⊥
  never_past z a x e h = let P : Position → Type 0 = λ y. PastAt y p x in subst P e h

  kept_so : (t : Table Barrier) → Calm t → (a : Aim) → here t ≡ Locking a → MarksNobody p l0 t.machine.lock.entries
  kept_so t (inl past) a at = absurd (never_past (here t) a t.machine at past)
  kept_so t (inr k) a at = k.1.kept

  abbrev Before : Place → Table Barrier → Type 0
  Before from t = ((here t ≡ At from) × PastIn from p t.machine) ⊎ ((is_before from ≡ true) × (fits_lock (in_lock (At from)) (course_at t.machine.lock.courses p) ≡ true) × Silent t)

  module _ (t u : Table Barrier) (what : What) (a : Answer) (w : Within) (still : (inputs_of what).starving ≡ false) (laws : IsBarrier t.machine) (tf : IsBarrierTable t) (k : Acted known_calls Rest.Finished Moves w t (record { party = p; what = what }) a u) where
    abbrev from : Place
    from = k.acts.from

    abbrev f : Found
    f = k.acts.found

    did : Step (inputs_of what) p from f t.machine u.machine
    did = acts_so (inputs_of what) p from f t.machine u.machine k.acts.acts (omega (arith, k.inside, tf.as_many)) laws.as_many

    past_then : PastAt (position_after (next_of from f)) p u.machine → Calm u
    past_then h = let P : Position → Type 0 = λ z. PastAt z p u.machine in inl (subst P (sym did.to) h)

    quietly : (s : Silent t) → Quiet (inputs_of what) p t.machine u.machine still s.unstarved s.uncounting from f → Calm u
    quietly s (inl past) = past_then past
    quietly s (inr q) =
        let it = counts_none (inputs_of what) p (action_of from) f t.machine.lock u.machine.lock still did.lock s.unstarved s.uncounting in
        inr (ap is_quiet did.to ∙ q.0, record { unstarved = it.0; uncounting = it.1; kept = marks_more p l0 t.machine.lock.entries u.machine.lock.entries s.kept q.1 })

    calm_then : Before from t → Calm u
    calm_then (inl h) = past_then (stays_past (inputs_of what) p t.machine u.machine laws from f h.0 h.1 did)
    calm_then (inr h) = quietly h.2 (goes_quietly (inputs_of what) p t.machine u.machine still h.2.unstarved h.2.uncounting from f h.0 h.1 did)

  moved : (x : World) (what : What) (a : Answer) (v : World) → (inputs_of what).starving ≡ false → ((w : Within) (k : Acted known_calls Rest.Finished Moves w x.behind (record { party = p; what = what }) a v.behind) → Before k.acts.from x.behind)
      → Steps x (record { party = p; what = what }) a v → Onward (λ y. Calm y.behind) Done a v
  moved x what a v still before s = record { going = o.going; ended = λ e. record { outside = ends_pending; kept = o.ended e } } where
    m : Move
    m = record { party = p; what = what }

    o : Onward Calm Kept a v.behind
    o = onward known_calls Rest.Finished Moves x.behind v.behind m a Calm Kept (λ y. y) (λ e. absurd (cc e)) (λ e. absurd (cc e))
        (λ w e f k. let calm = calm_then x.behind v.behind what a w still s.did.stood.laws s.did.stood.fits k (before w k) in record { going = λ g. calm; ended = λ g y. kept_so v.behind calm }) s.did.step

    ends_pending : a ≡ Answer.Pending → standing_of v p ≡ outside Rest.Pending
    ends_pending is = by_call (call_of x m) refl where
      by_call : (o : Option Within) → call_of x m ≡ o → standing_of v p ≡ outside Rest.Pending
      by_call None e = let no = s.legal.possible.exactly.1 e in absurd (cc (sym is ∙ no))
      by_call (Some u) e = pending_stands u a (standing_of v p) is (s.legal.ends_properly.stands u e)

  goes : (x : World) (a : Answer) (v : World) → Calm x.behind → Steps x (going_on p i) a v → Onward (λ y. Calm y.behind) Done a v
  goes x a v calm s = moved x (Go i) a v patient (λ w k. before w k calm) s where
    before : (w : Within) (k : Acted known_calls Rest.Finished Moves w x.behind (going_on p i) a v.behind) → Calm x.behind → Before k.acts.from x.behind
    before w k (inl past) =
        let at = going_at i (here x.behind) k.acts.from k.acts.starts in
        let P : Position → Type 0 = λ z. PastAt z p x.behind.machine in
        inl (at, subst P at past)
    before w k (inr q) =
        let at = going_at i (here x.behind) k.acts.from k.acts.starts in
        let F : Position → Type 0 = λ z. fits_lock (in_lock z) (course_at x.behind.machine.lock.courses p) ≡ true in
        inr (quiet_before k.acts.from (ap is_quiet (sym at) ∙ q.0), subst F at (s.did.stood.laws.links p), q.1)

  first : (c : Call) (x : World) → starved x.behind.machine.lock ≡ 0 → MarksNobody p l0 x.behind.machine.lock.entries → (a : Answer) (v : World) → Steps x (beginning p c i) a v → Onward (λ y. Calm y.behind) Done a v
  first c x none kept a v s = moved x (Begin c i) a v patient (λ w k. before k) s where
    before : {w : Within} (k : Acted known_calls Rest.Finished Moves w x.behind (beginning p c i) a v.behind) → Before k.acts.from x.behind
    before k =
        let course = course_at x.behind.machine.lock.courses p in
        let link = s.did.stood.laws.links p in
        let at = starts_before c (here x.behind) k.acts.from course k.acts.starts link in
        inr (at.0, at.1, record { unstarved = none; uncounting = begins_uncounted c (here x.behind) k.acts.from course k.acts.starts link; kept = kept })

pub tells_nobody_at_end : (known : ℕ → Account) (w : World) (p : ℕ) (c : Call) (i : Inputs) (n : ℕ) (a : Answer) (v : World) → Stands w → Stands v → Runs known w (moves_of p c i n) (answers_of n a) v → a ≢ Answer.Stepped → i.starving ≡ false → how_many w.lock.starved ≡ 0 → a ≡ Answer.Pending → 0 < entries_of p v.lock_list → MarksNobody p w.lock_list v.lock_list
tells_nobody_at_end known w p c i n a v stood stands runs ended patient none is there =
    let l0 = w.behind.machine.lock.entries in
    let u = v.behind in
    let zero : starved w.behind.machine.lock ≡ 0 = nobody_starved w.behind (subst (λ x. how_many x.lock.starved ≡ 0) stood.seen none) in
    let done : Done p i patient l0 a v = along Steps accounts_after HoldsWell p i (λ y. Calm p i patient l0 y.behind) (Done p i patient l0) (goes p i patient l0) known n w (beginning p c i) a v (first p i patient l0 c w zero (λ q apart h. h)) ended runs in
    let at = at_rest_there u p stands.laws stands.fits Rest.Pending (ap (λ y. standing_of y p) (sym stands.seen) ∙ done.outside is) in
    let listed_there : 0 < entries_of p u.machine.lock.entries = subst (λ y. 0 < entries_of p y.lock_list) stands.seen there in
    let waits = from_waiting u p stands.laws stands.fits i (position_at u.machine.positions p) refl at (stands_at u p stands.laws stands.fits Rest.Pending at) listed_there in
    let M : List (Entry ℕ) → Type 0 = λ l. MarksNobody p l v.lock_list in
    let N : List (Entry ℕ) → Type 0 = λ l. MarksNobody p l0 l in
    subst M (sym (ap (λ y. y.lock_list) stood.seen)) (subst N (sym (ap (λ y. y.lock_list) stands.seen)) (done.kept is waits.0.its_aim waits.1))
