-- Where a step in the inner lock leads its party: its place goes with its course there, and the stage of its call with its place.
use Rattle.world_barrier.proofs.Prelude.{◌≡◌, ◌≢◌, ℕ, Bool, true, false, length, refl, ap, Inputs, Refusal, Kind, Rest, Inside, Within, within, stage_after, Course, Takes, Releases, Cancels, is_out, LockStep, End, Mutex, course_at, Action, Aim, Ending, Found, Place, EnterLock, WaitLock, TakeLock, Look, Join, Arrive, Complete, NotifyAll, Check, JoinAgain, ReleaseLock, ReleasingLock, Ask, CancelLock, CancellingLock, CancelLeave, Abandon, At, action_of, next_of, position_after, after_lock, after_cancel, after_release, released, OnLock, fits_lock, in_lock, runs, is_polling, is_begun, goes_with, answer_by}

-- the action of this place is a step in the inner lock
abbrev pub steps_in_lock : Place → Bool
steps_in_lock (EnterLock a) = true
steps_in_lock (WaitLock a) = true
steps_in_lock (TakeLock a) = true
steps_in_lock (ReleaseLock e) = true
steps_in_lock (ReleasingLock e) = true
steps_in_lock CancelLock = true
steps_in_lock CancellingLock = true
steps_in_lock _ = false

-- a release ends with its second action
abbrev pub Ends : LockStep → Course → Type 0
Ends (LockStep.End End.GivenBack) to = is_out to ≡ true
Ends _ to = ⊥

-- what a step at this place finds in the inner lock, and where it leads there
abbrev pub Led : Place → Found → Course → Type 0
Led (EnterLock a) (Found.Lock n) to = Takes n to
Led (EnterLock a) _ to = ⊥
Led (WaitLock a) (Found.Lock n) to = Takes n to
Led (WaitLock a) _ to = ⊥
Led (TakeLock a) (Found.Lock n) to = Takes n to
Led (TakeLock a) _ to = ⊥
Led CancelLock (Found.Lock n) to = Cancels n to
Led CancelLock _ to = ⊥
Led CancellingLock (Found.Lock n) to = Cancels n to
Led CancellingLock _ to = ⊥
Led (ReleaseLock e) (Found.Lock n) to = Releases n to
Led (ReleaseLock e) _ to = ⊥
Led (ReleasingLock e) (Found.Lock n) to = Ends n to
Led (ReleasingLock e) _ to = ⊥
Led _ f to = Unit {0}

module _ (i : Inputs) (p : ℕ) (t u : Mutex) where
  -- a step moves none but its party in the inner lock
  pub lock_others : (a : Action) (f : Found) → OnLock i p a f t u → (j : ℕ) → j ≢ p → course_at u.courses j ≡ course_at t.courses j
  lock_others (Action.Begin c) (Found.Lock n) e j apart = e.legal.others j apart
  lock_others (Action.Begin c) _ e j apart = absurd e
  lock_others Action.Go (Found.Lock n) e j apart = e.legal.others j apart
  lock_others Action.Go _ e j apart = absurd e
  lock_others _ f e j apart = ap (λ t. course_at t.courses j) e

  pub lock_length : (a : Action) (f : Found) → OnLock i p a f t u → length u.courses ≡ length t.courses
  lock_length (Action.Begin c) (Found.Lock n) e = e.legal.parties
  lock_length (Action.Begin c) _ e = absurd e
  lock_length Action.Go (Found.Lock n) e = e.legal.parties
  lock_length Action.Go _ e = absurd e
  lock_length _ f e = ap (λ t. length t.courses) e

  -- a step that is not in the inner lock leaves its party there where it was
  pub lock_stays : (x : Place) (f : Found) → OnLock i p (action_of x) f t u → steps_in_lock x ≡ false → course_at u.courses p ≡ course_at t.courses p
  lock_stays (EnterLock a) f e h = absurd (cc)
  lock_stays (WaitLock a) f e h = absurd (cc)
  lock_stays (TakeLock a) f e h = absurd (cc)
  lock_stays (ReleaseLock a) f e h = absurd (cc)
  lock_stays (ReleasingLock a) f e h = absurd (cc)
  lock_stays CancelLock f e h = absurd (cc)
  lock_stays CancellingLock f e h = absurd (cc)
  lock_stays _ f e h = ap (λ t. course_at t.courses p) e

  ended : (n : LockStep) → n ≡ LockStep.End End.GivenBack → is_out (course_at u.courses p) ≡ true → Ends n (course_at u.courses p)
  ended n e o = rw e o

  pub led : (x : Place) (f : Found) → OnLock i p (action_of x) f t u → fits_lock (in_lock (At x)) (course_at t.courses p) ≡ true → Led x f (course_at u.courses p)
  led (EnterLock a) (Found.Lock n) e link = e.leads
  led (EnterLock a) _ e link = absurd e
  led (WaitLock a) (Found.Lock n) e link = e.leads
  led (WaitLock a) _ e link = absurd e
  led (TakeLock a) (Found.Lock n) e link = e.leads.takes link
  led (TakeLock a) _ e link = absurd e
  led CancelLock (Found.Lock n) e link = e.leads
  led CancelLock _ e link = absurd e
  led CancellingLock (Found.Lock n) e link = e.leads.cancels link
  led CancellingLock _ e link = absurd e
  led (ReleaseLock a) (Found.Lock n) e link = e.leads
  led (ReleaseLock a) _ e link = absurd e
  led (ReleasingLock a) (Found.Lock n) e link = (let b = e.leads.releases link in ended n b.0 (rw b.1 refl))
  led (ReleasingLock a) _ e link = absurd e
  led _ f e link = tt

-- ---- the party's place goes with its course

-- a poll takes the inner lock
takes_link : (a : Aim) (n : LockStep) (to : Course) → Takes n to → fits_lock (in_lock (position_after (after_lock a (Found.Lock n)))) to ≡ true
takes_link a LockStep.More to h = h
takes_link Aim.Arrive (LockStep.End End.Got) to h = rw h refl
takes_link Aim.Check (LockStep.End End.Got) to h = rw h refl
takes_link a (LockStep.End End.Pending) to h = h
takes_link a (LockStep.End (End.Refused Refusal.Memory)) to h = rw h refl
takes_link a (LockStep.End (End.Refused Refusal.Starved)) to h = rw h refl
takes_link a (LockStep.End _) to h = absurd h

cancels_link : (n : LockStep) (to : Course) → Cancels n to → fits_lock (in_lock (position_after (after_cancel (Found.Lock n)))) to ≡ true
cancels_link LockStep.More to h = h
cancels_link (LockStep.End End.GivenBack) to h = rw h refl
cancels_link (LockStep.End _) to h = absurd h

released_link : (e : Ending) (to : Course) → is_out to ≡ true → fits_lock (in_lock (position_after (released e))) to ≡ true
released_link Ending.Wait to h = h
released_link Ending.Follow to h = h
released_link Ending.Lead to h = h
released_link Ending.RefuseGenerations to h = h
released_link (Ending.RefuseMemory a) to h = h

releases_link : (e : Ending) (n : LockStep) (to : Course) → Releases n to → fits_lock (in_lock (position_after (after_release e (Found.Lock n)))) to ≡ true
releases_link e LockStep.More to h = h
releases_link e (LockStep.End End.GivenBack) to h = released_link e to (rw h refl)
releases_link e (LockStep.End _) to h = absurd h

ends_link : (e : Ending) (n : LockStep) (to : Course) → Ends n to → fits_lock (in_lock (position_after (after_release e (Found.Lock n)))) to ≡ true
ends_link e LockStep.More to h = absurd h
ends_link e (LockStep.End End.GivenBack) to h = released_link e to h
ends_link e (LockStep.End _) to h = absurd h

pub links : (x : Place) (f : Found) (t to : Course) → Led x f to → (steps_in_lock x ≡ false → to ≡ t) → fits_lock (in_lock (At x)) t ≡ true → fits_lock (in_lock (position_after (next_of x f))) to ≡ true
links (EnterLock a) (Found.Lock n) t to h same e = takes_link a n to h
links (EnterLock a) _ t to h same e = absurd h
links (WaitLock a) (Found.Lock n) t to h same e = takes_link a n to h
links (WaitLock a) _ t to h same e = absurd h
links (TakeLock a) (Found.Lock n) t to h same e = takes_link a n to h
links (TakeLock a) _ t to h same e = absurd h
links CancelLock (Found.Lock n) t to h same e = cancels_link n to h
links CancelLock _ t to h same e = absurd h
links CancellingLock (Found.Lock n) t to h same e = cancels_link n to h
links CancellingLock _ t to h same e = absurd h
links (ReleaseLock e) (Found.Lock n) t to h same k = releases_link e n to h
links (ReleaseLock e) _ t to h same k = absurd h
links (ReleasingLock e) (Found.Lock n) t to h same k = ends_link e n to h
links (ReleasingLock e) _ t to h same k = absurd h
links Look Found.MustWait t to h same e = rw (same refl) e
links Look Found.Leads t to h same e = rw (same refl) e
links Look _ t to h same e = rw (same refl) e
links Join Found.Done t to h same e = rw (same refl) e
links Join _ t to h same e = rw (same refl) e
links Arrive _ t to h same e = rw (same refl) e
links Complete _ t to h same e = rw (same refl) e
links NotifyAll _ t to h same e = rw (same refl) e
links Check Found.Finished t to h same e = rw (same refl) e
links Check _ t to h same e = rw (same refl) e
links JoinAgain Found.Done t to h same e = rw (same refl) e
links JoinAgain _ t to h same e = rw (same refl) e
links Ask Found.Yes t to h same e = rw (same refl) e
links Ask _ t to h same e = rw (same refl) e
links CancelLeave _ t to h same e = rw (same refl) e
links Abandon _ t to h same e = rw (same refl) e

-- ---- the stage after an action goes with where the party then stands

abbrev pub Lands : Within → Place → Found → Type 0
Lands w x f = goes_with (stage_after Rest.Finished w (answer_by (next_of x f))) (position_after (next_of x f)) ≡ true

module _ (w : Within) (inside : (x : Place) → is_begun x ≡ true → is_polling x ≡ true → goes_with (Inside w) (At x) ≡ true) where
  takes_land : (a : Aim) (n : LockStep) (to : Course) → Takes n to → goes_with (stage_after Rest.Finished w (answer_by (after_lock a (Found.Lock n)))) (position_after (after_lock a (Found.Lock n))) ≡ true
  takes_land a LockStep.More to h = inside (TakeLock a) refl refl
  takes_land Aim.Arrive (LockStep.End End.Got) to h = inside Look refl refl
  takes_land Aim.Check (LockStep.End End.Got) to h = inside Check refl refl
  takes_land a (LockStep.End End.Pending) to h = refl
  takes_land a (LockStep.End (End.Refused Refusal.Memory)) to h = refl
  takes_land a (LockStep.End (End.Refused Refusal.Starved)) to h = refl
  takes_land a (LockStep.End _) to h = absurd h

  released_land : (e : Ending) → goes_with (stage_after Rest.Finished w (answer_by (released e))) (position_after (released e)) ≡ true
  released_land Ending.Wait = inside Ask refl refl
  released_land Ending.Follow = refl
  released_land Ending.Lead = refl
  released_land Ending.RefuseGenerations = refl
  released_land (Ending.RefuseMemory a) = refl

  release_land : (e : Ending) (n : LockStep) → goes_with (stage_after Rest.Finished w (answer_by (after_release e (Found.Lock n)))) (position_after (after_release e (Found.Lock n))) ≡ true
  release_land e LockStep.More = inside (ReleasingLock e) refl refl
  release_land e (LockStep.End x) = released_land e

  polls : (x : Place) (f : Found) (to : Course) → Led x f to → is_polling x ≡ true → Lands w x f
  polls (EnterLock a) (Found.Lock n) to h k = takes_land a n to h
  polls (EnterLock a) _ to h k = absurd h
  polls (WaitLock a) (Found.Lock n) to h k = takes_land a n to h
  polls (WaitLock a) _ to h k = absurd h
  polls (TakeLock a) (Found.Lock n) to h k = takes_land a n to h
  polls (TakeLock a) _ to h k = absurd h
  polls (ReleaseLock e) (Found.Lock n) to h k = release_land e n
  polls (ReleaseLock e) _ to h k = absurd h
  polls (ReleasingLock e) (Found.Lock n) to h k = release_land e n
  polls (ReleasingLock e) _ to h k = absurd h
  polls Look Found.MustWait to h k = inside Join refl refl
  polls Look Found.Leads to h k = inside Complete refl refl
  polls Look _ to h k = inside (ReleaseLock Ending.RefuseGenerations) refl refl
  polls Join Found.Done to h k = inside Arrive refl refl
  polls Join _ to h k = inside (ReleaseLock (Ending.RefuseMemory Aim.Arrive)) refl refl
  polls Arrive _ to h k = inside (ReleaseLock Ending.Wait) refl refl
  polls Complete _ to h k = inside NotifyAll refl refl
  polls NotifyAll _ to h k = inside (ReleaseLock Ending.Lead) refl refl
  polls Check Found.Finished to h k = inside (ReleaseLock Ending.Follow) refl refl
  polls Check _ to h k = inside JoinAgain refl refl
  polls JoinAgain Found.Done to h k = inside (ReleaseLock Ending.Wait) refl refl
  polls JoinAgain _ to h k = inside (ReleaseLock (Ending.RefuseMemory Aim.Check)) refl refl
  polls Ask Found.Yes to h k = inside (EnterLock Aim.Check) refl refl
  polls Ask _ to h k = refl
  polls _ f to h k = absurd (cc)

cancel_lands : (n : LockStep) → goes_with (stage_after Rest.Finished (within Kind.Drop Rest.Pending) (answer_by (after_cancel (Found.Lock n)))) (position_after (after_cancel (Found.Lock n))) ≡ true
cancel_lands LockStep.More = refl
cancel_lands (LockStep.End e) = refl

cancels : (x : Place) (f : Found) (to : Course) → Led x f to → runs Kind.Drop Rest.Pending x ≡ true → Lands (within Kind.Drop Rest.Pending) x f
cancels CancelLock (Found.Lock n) to h k = cancel_lands n
cancels CancelLock _ to h k = absurd h
cancels CancellingLock (Found.Lock n) to h k = cancel_lands n
cancels CancellingLock _ to h k = absurd h
cancels CancelLeave f to h k = refl
cancels Abandon f to h k = refl
cancels _ f to h k = absurd (cc)

abandons : (x : Place) (f : Found) → runs Kind.Drop Rest.Finished x ≡ true → Lands (within Kind.Drop Rest.Finished) x f
abandons Abandon f k = refl
abandons _ f k = absurd (cc)

by_kind : (k : Kind) (r : Rest) (x : Place) (f : Found) (to : Course) → Led x f to → runs k r x ≡ true → Lands (within k r) x f
by_kind Kind.FirstPoll Rest.Idle x f to h k = polls (within Kind.FirstPoll Rest.Idle) (λ y b p. rw b p) x f to h k
by_kind Kind.FirstPoll Rest.Finished x f to h k = polls (within Kind.FirstPoll Rest.Finished) (λ y b p. rw b p) x f to h k
by_kind Kind.LaterPoll Rest.Pending x f to h k = polls (within Kind.LaterPoll Rest.Pending) (λ y b p. rw b p) x f to h k
by_kind Kind.Drop Rest.Pending x f to h k = cancels x f to h k
by_kind Kind.Drop Rest.Finished x f to h k = abandons x f k
by_kind _ _ x f to h k = absurd (cc)

pub lands : (w : Within) (x : Place) (f : Found) (to : Course) → Led x f to → runs w.kind w.was x ≡ true → Lands w x f
lands w x f to h k = by_kind w.kind w.was x f to h k
