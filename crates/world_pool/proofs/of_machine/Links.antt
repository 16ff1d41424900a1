-- Where a step leads its party: its place goes with its courses in the semaphore and in the list's lock, and with its lease.
use Rattle.world_pool.proofs.Prelude.{◌≡◌, ◌≢◌, ℕ, ◌==◌, Bool, true, false, length, refl, ap, subst, arith, false≢true, Inputs, Refusal, End, Step, SemaphoreCall, both, Course, Takes, Tries, Releases, Cancels, Mutex, lock_course, Permits, permit_course, Action, Aim, Ending, Found, Place, Acquire, WaitPermit, TakePermit, TryPermit, TryLock, EnterLock, WaitLock, TakeLock, ReleaseLock, ReleasingLock, ReturnPermit, ReturningPermit, CancelPermit, CancellingPermit, CancelLock, CancellingLock, Lose, At, Return, Taker, action_of, next_of, position_after, after_permit, after_lock, after_release, after_return, after_cancel, released, returned, cancelled, OnPermits, OnLock, fits_permits, fits_lock, in_permits, in_lock, wants, polls, has, returns, without}
use Rattle.std.proofs.lemmas.Bool.Decides.{nat_tests}
use Rattle.world_mutex.specs.machine.Course as lock
use Rattle.world_semaphore.specs.machine.Course as permit
use Rattle.world_semaphore.specs.machine.Conduct.{Polls, Tries as TriesPermit, Drops}

-- the action of this place is a step in the semaphore; in the list's lock
abbrev pub in_semaphore : Place → Bool
in_semaphore Acquire = true
in_semaphore WaitPermit = true
in_semaphore TakePermit = true
in_semaphore TryPermit = true
in_semaphore (ReturnPermit r) = true
in_semaphore (ReturningPermit r) = true
in_semaphore CancelPermit = true
in_semaphore CancellingPermit = true
in_semaphore Lose = true
in_semaphore _ = false

abbrev pub in_mutex : Place → Bool
in_mutex TryLock = true
in_mutex (EnterLock a) = true
in_mutex (WaitLock a) = true
in_mutex (TakeLock a) = true
in_mutex (ReleaseLock e) = true
in_mutex (ReleasingLock e) = true
in_mutex (CancelLock a) = true
in_mutex (CancellingLock a) = true
in_mutex _ = false

-- ---- courses of the semaphore

-- a number that is tested to be 1
pub is_one : (n : ℕ) → (n == 1) ≡ true → n ≡ 1
is_one n h = grind (arith, nat_tests)

pub wants_one : (c : permit.Course) → fits_permits wants c ≡ true → permit.size c ≡ 1
wants_one (permit.unlisted k) h = is_one k h
wants_one (permit.waiting k) h = is_one k h
wants_one _ h = absurd (false≢true h)

pub may_want : (c : permit.Course) → fits_permits wants c ≡ true → permit.may_begin SemaphoreCall.Poll c ≡ true
may_want (permit.unlisted k) h = refl
may_want (permit.waiting k) h = refl
may_want _ h = absurd (false≢true h)

pub may_unwant : (c : permit.Course) → fits_permits wants c ≡ true → permit.may_begin SemaphoreCall.Drop c ≡ true
may_unwant (permit.unlisted k) h = refl
may_unwant (permit.waiting k) h = refl
may_unwant _ h = absurd (false≢true h)

pub may_acquire : (c : permit.Course) → fits_permits without c ≡ true → permit.may_begin (SemaphoreCall.Acquire 1) c ≡ true
may_acquire permit.out h = refl
may_acquire _ h = absurd (false≢true h)

pub may_try_acquire : (c : permit.Course) → fits_permits without c ≡ true → permit.may_begin (SemaphoreCall.TryAcquire 1) c ≡ true
may_try_acquire permit.out h = refl
may_try_acquire _ h = absurd (false≢true h)

pub may_return : (c : permit.Course) → fits_permits has c ≡ true → permit.may_begin SemaphoreCall.Drop c ≡ true
may_return (permit.holding k) h = refl
may_return _ h = absurd (false≢true h)

pub may_forget : (c : permit.Course) → fits_permits has c ≡ true → permit.may_begin SemaphoreCall.Forget c ≡ true
may_forget (permit.holding k) h = refl
may_forget _ h = absurd (false≢true h)

is_polling_busy : (c : permit.Course) → permit.is_polling c ≡ true → permit.is_resting c ≡ false
is_polling_busy (permit.polling k l k2 d) h = refl
is_polling_busy (permit.decided e k l d) h = refl
is_polling_busy _ h = absurd (false≢true h)

pub polls_busy : (c : permit.Course) → fits_permits polls c ≡ true → permit.is_resting c ≡ false
polls_busy c h = is_polling_busy c (both (permit.is_polling c) (permit.size c == 1) h).0

pub returns_busy : (c : permit.Course) → fits_permits returns c ≡ true → permit.is_resting c ≡ false
returns_busy (permit.decided e k l d) h = refl
returns_busy _ h = absurd (false≢true h)

-- ---- what a step at this place finds, and where it leads in the semaphore

abbrev pub LedPermit : Place → Found → permit.Course → Type 0
LedPermit Acquire (Found.Permit s) to = Polls 1 s to
LedPermit Acquire _ to = ⊥
LedPermit WaitPermit (Found.Permit s) to = Polls 1 s to
LedPermit WaitPermit _ to = ⊥
LedPermit TakePermit (Found.Permit s) to = Polls 1 s to
LedPermit TakePermit _ to = ⊥
LedPermit TryPermit (Found.Permit s) to = TriesPermit 1 s to
LedPermit TryPermit _ to = ⊥
LedPermit (ReturnPermit r) (Found.Permit s) to = Drops s to
LedPermit (ReturnPermit r) _ to = ⊥
LedPermit (ReturningPermit r) (Found.Permit s) to = Drops s to
LedPermit (ReturningPermit r) _ to = ⊥
LedPermit CancelPermit (Found.Permit s) to = Drops s to
LedPermit CancelPermit _ to = ⊥
LedPermit CancellingPermit (Found.Permit s) to = Drops s to
LedPermit CancellingPermit _ to = ⊥
LedPermit Lose f to = to ≡ permit.out
LedPermit _ f to = Unit {0}

-- and in the list's lock; a release ends with its second action
abbrev pub Ends : Step → Course → Type 0
Ends (Step.End End.GivenBack) to = to ≡ lock.out
Ends _ to = ⊥

abbrev pub LedLock : Place → Found → Course → Type 0
LedLock TryLock (Found.Lock n) to = Tries n to
LedLock TryLock _ to = ⊥
LedLock (EnterLock a) (Found.Lock n) to = Takes n to
LedLock (EnterLock a) _ to = ⊥
LedLock (WaitLock a) (Found.Lock n) to = Takes n to
LedLock (WaitLock a) _ to = ⊥
LedLock (TakeLock a) (Found.Lock n) to = Takes n to
LedLock (TakeLock a) _ to = ⊥
LedLock (ReleaseLock e) (Found.Lock n) to = Releases n to
LedLock (ReleaseLock e) _ to = ⊥
LedLock (ReleasingLock e) (Found.Lock n) to = Ends n to
LedLock (ReleasingLock e) _ to = ⊥
LedLock (CancelLock a) (Found.Lock n) to = Cancels n to
LedLock (CancelLock a) _ to = ⊥
LedLock (CancellingLock a) (Found.Lock n) to = Cancels n to
LedLock (CancellingLock a) _ to = ⊥
LedLock _ f to = Unit {0}

module _ (i : Inputs) (p : ℕ) (t u : Permits) where
  pub permit_others : (a : Action) (f : Found) → OnPermits i p a f t u → (j : ℕ) → j ≢ p → permit_course u.courses j ≡ permit_course t.courses j
  permit_others (Action.Permit c) (Found.Permit s) e j apart = e.legal.others j apart
  permit_others (Action.Permit c) _ e j apart = absurd e
  permit_others Action.GoPermit (Found.Permit s) e j apart = e.legal.others j apart
  permit_others Action.GoPermit _ e j apart = absurd e
  permit_others Action.Lose f e j apart = e.legal.others j apart
  permit_others _ f e j apart = ap (λ t. permit_course t.courses j) e

  pub permit_length : (a : Action) (f : Found) → OnPermits i p a f t u → length u.courses ≡ length t.courses
  permit_length (Action.Permit c) (Found.Permit s) e = e.legal.parties
  permit_length (Action.Permit c) _ e = absurd e
  permit_length Action.GoPermit (Found.Permit s) e = e.legal.parties
  permit_length Action.GoPermit _ e = absurd e
  permit_length Action.Lose f e = e.legal.parties
  permit_length _ f e = ap (λ t. length t.courses) e

  pub permits_stay : (x : Place) (f : Found) → OnPermits i p (action_of x) f t u → in_semaphore x ≡ false → u ≡ t
  permits_stay Acquire f e h = absurd (cc)
  permits_stay WaitPermit f e h = absurd (cc)
  permits_stay TakePermit f e h = absurd (cc)
  permits_stay TryPermit f e h = absurd (cc)
  permits_stay (ReturnPermit r) f e h = absurd (cc)
  permits_stay (ReturningPermit r) f e h = absurd (cc)
  permits_stay CancelPermit f e h = absurd (cc)
  permits_stay CancellingPermit f e h = absurd (cc)
  permits_stay Lose f e h = absurd (cc)
  permits_stay _ f e h = e

  one_wanted : (c : permit.Course) (s : Step) (to : permit.Course) → permit.size c ≡ 1 → Polls (permit.size c) s to → Polls 1 s to
  one_wanted c s to e h = let P : ℕ → Type 0 = λ k. Polls k s to in subst P e h

  pub led_permit : (x : Place) (f : Found) → OnPermits i p (action_of x) f t u → fits_permits (in_permits (At x)) (permit_course t.courses p) ≡ true → LedPermit x f (permit_course u.courses p)
  led_permit Acquire (Found.Permit s) e link = e.leads
  led_permit Acquire _ e link = absurd e
  led_permit WaitPermit (Found.Permit s) e link = one_wanted (permit_course t.courses p) s (permit_course u.courses p) (wants_one (permit_course t.courses p) link) e.leads
  led_permit WaitPermit _ e link = absurd e
  led_permit TakePermit (Found.Permit s) e link = (let b = both (permit.is_polling (permit_course t.courses p)) (permit.size (permit_course t.courses p) == 1) link in one_wanted (permit_course t.courses p) s (permit_course u.courses p) (is_one (permit.size (permit_course t.courses p)) b.1) (e.leads.polls b.0))
  led_permit TakePermit _ e link = absurd e
  led_permit TryPermit (Found.Permit s) e link = e.leads
  led_permit TryPermit _ e link = absurd e
  led_permit (ReturnPermit r) (Found.Permit s) e link = e.leads
  led_permit (ReturnPermit r) _ e link = absurd e
  led_permit (ReturningPermit r) (Found.Permit s) e link = e.leads.drops link
  led_permit (ReturningPermit r) _ e link = absurd e
  led_permit CancelPermit (Found.Permit s) e link = e.leads
  led_permit CancelPermit _ e link = absurd e
  led_permit CancellingPermit (Found.Permit s) e link = e.leads.drops link
  led_permit CancellingPermit _ e link = absurd e
  led_permit Lose f e link = e.leads.1
  led_permit _ f e link = tt

module _ (i : Inputs) (p : ℕ) (t u : Mutex) where
  pub lock_others : (a : Action) (f : Found) → OnLock i p a f t u → (j : ℕ) → j ≢ p → lock_course u.courses j ≡ lock_course t.courses j
  lock_others (Action.Lock c) (Found.Lock n) e j apart = e.legal.others j apart
  lock_others (Action.Lock c) _ e j apart = absurd e
  lock_others Action.GoLock (Found.Lock n) e j apart = e.legal.others j apart
  lock_others Action.GoLock _ e j apart = absurd e
  lock_others _ f e j apart = ap (λ t. lock_course t.courses j) e

  pub lock_length : (a : Action) (f : Found) → OnLock i p a f t u → length u.courses ≡ length t.courses
  lock_length (Action.Lock c) (Found.Lock n) e = e.legal.parties
  lock_length (Action.Lock c) _ e = absurd e
  lock_length Action.GoLock (Found.Lock n) e = e.legal.parties
  lock_length Action.GoLock _ e = absurd e
  lock_length _ f e = ap (λ t. length t.courses) e

  pub lock_stays : (x : Place) (f : Found) → OnLock i p (action_of x) f t u → in_mutex x ≡ false → u ≡ t
  lock_stays TryLock f e h = absurd (cc)
  lock_stays (EnterLock a) f e h = absurd (cc)
  lock_stays (WaitLock a) f e h = absurd (cc)
  lock_stays (TakeLock a) f e h = absurd (cc)
  lock_stays (ReleaseLock a) f e h = absurd (cc)
  lock_stays (ReleasingLock a) f e h = absurd (cc)
  lock_stays (CancelLock a) f e h = absurd (cc)
  lock_stays (CancellingLock a) f e h = absurd (cc)
  lock_stays _ f e h = e

  ended : (n : Step) → n ≡ Step.End End.GivenBack → lock_course u.courses p ≡ lock.out → Ends n (lock_course u.courses p)
  ended n e o = rw e o

  pub led_lock : (x : Place) (f : Found) → OnLock i p (action_of x) f t u → fits_lock (in_lock (At x)) (lock_course t.courses p) ≡ true → LedLock x f (lock_course u.courses p)
  led_lock TryLock (Found.Lock n) e link = e.leads
  led_lock TryLock _ e link = absurd e
  led_lock (EnterLock a) (Found.Lock n) e link = e.leads
  led_lock (EnterLock a) _ e link = absurd e
  led_lock (WaitLock a) (Found.Lock n) e link = e.leads
  led_lock (WaitLock a) _ e link = absurd e
  led_lock (TakeLock a) (Found.Lock n) e link = e.leads.takes link
  led_lock (TakeLock a) _ e link = absurd e
  led_lock (CancelLock a) (Found.Lock n) e link = e.leads
  led_lock (CancelLock a) _ e link = absurd e
  led_lock (CancellingLock a) (Found.Lock n) e link = e.leads.cancels link
  led_lock (CancellingLock a) _ e link = absurd e
  led_lock (ReleaseLock a) (Found.Lock n) e link = e.leads
  led_lock (ReleaseLock a) _ e link = absurd e
  led_lock (ReleasingLock (Ending.Leased k)) (Found.Lock n) e link = (let b = e.leads.releases link in ended n b.0 b.1)
  led_lock (ReleasingLock Ending.Given) (Found.Lock n) e link = (let b = e.leads.releases link in ended n b.0 b.1)
  led_lock (ReleasingLock a) _ e link = absurd e
  led_lock _ f e link = tt

-- ---- the party's place goes with its course in the semaphore

polls_link : (s : Step) (to : permit.Course) → Polls 1 s to → fits_permits (in_permits (position_after (after_permit (Found.Permit s)))) to ≡ true
polls_link Step.More to h = rw (h.0, h.1) refl
polls_link (Step.End End.Got) to h = rw h refl
polls_link (Step.End End.Pending) to h = rw h refl
polls_link (Step.End (End.Refused Refusal.Memory)) to h = rw h refl
polls_link (Step.End (End.Refused _)) to h = absurd h
polls_link (Step.End _) to h = absurd h

tries_link : (s : Step) (to : permit.Course) → TriesPermit 1 s to → fits_permits (in_permits (position_after (next_of TryPermit (Found.Permit s)))) to ≡ true
tries_link (Step.End End.Granted) to h = rw h refl
tries_link (Step.End End.NotFree) to h = rw h refl
tries_link _ to h = absurd h

returned_link : (r : Return) (to : permit.Course) → to ≡ permit.out → fits_permits (in_permits (position_after (returned r))) to ≡ true
returned_link Return.Given to h = rw h refl
returned_link Return.Dropped to h = rw h refl
returned_link Return.InVain to h = rw h refl
returned_link Return.NoMemory to h = rw h refl
returned_link Return.Starved to h = rw h refl

returns_link : (r : Return) (s : Step) (to : permit.Course) → Drops s to → fits_permits (in_permits (position_after (after_return r (Found.Permit s)))) to ≡ true
returns_link r Step.More to h = h
returns_link r (Step.End End.GivenBack) to h = returned_link r to h
returns_link r (Step.End _) to h = absurd h

cancels_link : (s : Step) (to : permit.Course) → Drops s to → fits_permits (in_permits (position_after (next_of CancelPermit (Found.Permit s)))) to ≡ true
cancels_link Step.More to h = h
cancels_link (Step.End End.GivenBack) to h = rw h refl
cancels_link (Step.End _) to h = absurd h

pub permit_links : (x : Place) (f : Found) (to : permit.Course) → in_semaphore x ≡ true → LedPermit x f to → fits_permits (in_permits (position_after (next_of x f))) to ≡ true
permit_links Acquire (Found.Permit s) to k h = polls_link s to h
permit_links Acquire _ to k h = absurd h
permit_links WaitPermit (Found.Permit s) to k h = polls_link s to h
permit_links WaitPermit _ to k h = absurd h
permit_links TakePermit (Found.Permit s) to k h = polls_link s to h
permit_links TakePermit _ to k h = absurd h
permit_links TryPermit (Found.Permit s) to k h = tries_link s to h
permit_links TryPermit _ to k h = absurd h
permit_links (ReturnPermit r) (Found.Permit s) to k h = returns_link r s to h
permit_links (ReturnPermit r) _ to k h = absurd h
permit_links (ReturningPermit r) (Found.Permit s) to k h = returns_link r s to h
permit_links (ReturningPermit r) _ to k h = absurd h
permit_links CancelPermit (Found.Permit s) to k h = cancels_link s to h
permit_links CancelPermit _ to k h = absurd h
permit_links CancellingPermit (Found.Permit s) to k h = cancels_link s to h
permit_links CancellingPermit _ to k h = absurd h
permit_links Lose f to k h = rw h refl
permit_links _ f to k h = absurd (false≢true k)

-- ---- and in the list's lock

takes_link : (a : Aim) (n : Step) (to : Course) → Takes n to → fits_lock (in_lock (position_after (after_lock a (Found.Lock n)))) to ≡ true
takes_link a Step.More to h = h
takes_link Aim.Take (Step.End End.Got) to h = rw h refl
takes_link Aim.Give (Step.End End.Got) to h = rw h refl
takes_link a (Step.End End.Pending) to h = h
takes_link Aim.Take (Step.End (End.Refused Refusal.Memory)) to h = rw h refl
takes_link Aim.Take (Step.End (End.Refused Refusal.Starved)) to h = rw h refl
takes_link Aim.Give (Step.End (End.Refused Refusal.Memory)) to h = rw h refl
takes_link Aim.Give (Step.End (End.Refused Refusal.Starved)) to h = rw h refl
takes_link a (Step.End _) to h = absurd h

try_link : (n : Step) (to : Course) → Tries n to → fits_lock (in_lock (position_after (next_of TryLock (Found.Lock n)))) to ≡ true
try_link (Step.End End.Got) to h = rw h refl
try_link (Step.End End.NotFree) to h = rw h refl
try_link _ to h = absurd h

cancelled_link : (a : Aim) (to : Course) → to ≡ lock.out → fits_lock (in_lock (position_after (cancelled a))) to ≡ true
cancelled_link Aim.Take to h = rw h refl
cancelled_link Aim.Give to h = rw h refl

cancel_link : (a : Aim) (n : Step) (to : Course) → Cancels n to → fits_lock (in_lock (position_after (after_cancel a (Found.Lock n)))) to ≡ true
cancel_link a Step.More to h = h
cancel_link a (Step.End End.GivenBack) to h = cancelled_link a to h
cancel_link a (Step.End _) to h = absurd h

released_link : (e : Ending) (to : Course) → to ≡ lock.out → fits_lock (in_lock (position_after (released e))) to ≡ true
released_link (Ending.Leased Taker.Poll) to h = rw h refl
released_link (Ending.Leased Taker.Try) to h = rw h refl
released_link Ending.Given to h = rw h refl

releasing_link : (e : Ending) (to : Course) → lock.is_releasing to ≡ true → fits_lock (in_lock (At (ReleasingLock e))) to ≡ true
releasing_link (Ending.Leased k) to h = h
releasing_link Ending.Given to h = h

release_link : (e : Ending) (n : Step) (to : Course) → Releases n to → fits_lock (in_lock (position_after (after_release e (Found.Lock n)))) to ≡ true
release_link e Step.More to h = releasing_link e to h
release_link e (Step.End End.GivenBack) to h = released_link e to h
release_link e (Step.End _) to h = absurd h

ends_link : (e : Ending) (n : Step) (to : Course) → Ends n to → fits_lock (in_lock (position_after (after_release e (Found.Lock n)))) to ≡ true
ends_link e Step.More to h = absurd h
ends_link e (Step.End End.GivenBack) to h = released_link e to h
ends_link e (Step.End _) to h = absurd h

pub lock_links : (x : Place) (f : Found) (to : Course) → in_mutex x ≡ true → LedLock x f to → fits_lock (in_lock (position_after (next_of x f))) to ≡ true
lock_links TryLock (Found.Lock n) to k h = try_link n to h
lock_links TryLock _ to k h = absurd h
lock_links (EnterLock a) (Found.Lock n) to k h = takes_link a n to h
lock_links (EnterLock a) _ to k h = absurd h
lock_links (WaitLock a) (Found.Lock n) to k h = takes_link a n to h
lock_links (WaitLock a) _ to k h = absurd h
lock_links (TakeLock a) (Found.Lock n) to k h = takes_link a n to h
lock_links (TakeLock a) _ to k h = absurd h
lock_links (CancelLock a) (Found.Lock n) to k h = cancel_link a n to h
lock_links (CancelLock a) _ to k h = absurd h
lock_links (CancellingLock a) (Found.Lock n) to k h = cancel_link a n to h
lock_links (CancellingLock a) _ to k h = absurd h
lock_links (ReleaseLock e) (Found.Lock n) to k h = release_link e n to h
lock_links (ReleaseLock e) _ to k h = absurd h
lock_links (ReleasingLock e) (Found.Lock n) to k h = ends_link e n to h
lock_links (ReleasingLock e) _ to k h = absurd h
lock_links _ f to k h = absurd (false≢true k)
