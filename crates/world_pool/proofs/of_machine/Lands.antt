-- The stage after an action goes with where its party then stands.
use Rattle.world_pool.proofs.Prelude.{◌≡◌, ℕ, if◌then◌else◌, Bool, true, false, Option, refl, Kind, Rest, Inside, Within, within, stage_after, Refusal, End, Step, Course, Takes, Tries, Aim, Ending, Found, Place, Acquire, WaitPermit, TakePermit, TryPermit, TryLock, EnterLock, WaitLock, TakeLock, Pop, Push, ReleaseLock, ReleasingLock, ReturnPermit, ReturningPermit, CancelPermit, CancellingPermit, CancelLock, CancellingLock, Lose, Abandon, At, Return, Taker, Next, next_of, position_after, after_permit, after_lock, after_release, after_return, after_cancel, after_cancel_permit, is_take, is_try, is_give, is_drop, is_poll, is_lose, is_begun, runs, goes_with, answer_by}
use Rattle.world_semaphore.specs.machine.Course as permit
use Rattle.world_semaphore.specs.machine.Conduct.{Polls, Tries as TriesPermit}
use Rattle.world_base.specs.Standings.{rest_after_giving_back}
use Rattle.world_pool.proofs.of_machine.Links.{LedPermit, LedLock}

abbrev pub LandsBy : Within → Next → Option ℕ → Type 0
LandsBy w n lease = goes_with (stage_after Rest.Holding w (answer_by n lease)) (position_after n) ≡ true

abbrev pub Lands : Within → Place → Found → Option ℕ → Type 0
Lands w x f lease = LandsBy w (next_of x f) lease

module _ (w : Within) (l : Option ℕ) where
  module _ (inside : (x : Place) → is_begun x ≡ true → is_take x ≡ true → goes_with (Inside w) (At x) ≡ true) where
    permit_lands : (s : Step) (to : permit.Course) → Polls 1 s to → LandsBy w (after_permit (Found.Permit s)) l
    permit_lands Step.More to h = inside TakePermit refl refl
    permit_lands (Step.End End.Got) to h = inside (EnterLock Aim.Take) refl refl
    permit_lands (Step.End End.Pending) to h = refl
    permit_lands (Step.End (End.Refused Refusal.Memory)) to h = refl
    permit_lands (Step.End (End.Refused _)) to h = absurd h
    permit_lands (Step.End _) to h = absurd h

    lock_lands : (n : Step) (to : Course) → Takes n to → LandsBy w (after_lock Aim.Take (Found.Lock n)) l
    lock_lands Step.More to h = inside (TakeLock Aim.Take) refl refl
    lock_lands (Step.End End.Got) to h = inside (Pop Taker.Poll) refl refl
    lock_lands (Step.End End.Pending) to h = refl
    lock_lands (Step.End (End.Refused Refusal.Memory)) to h = inside (ReturnPermit Return.NoMemory) refl refl
    lock_lands (Step.End (End.Refused Refusal.Starved)) to h = inside (ReturnPermit Return.Starved) refl refl
    lock_lands (Step.End _) to h = absurd h

    release_lands : (n : Step) → LandsBy w (after_release (Ending.Leased Taker.Poll) (Found.Lock n)) l
    release_lands Step.More = inside (ReleasingLock (Ending.Leased Taker.Poll)) refl refl
    release_lands (Step.End e) = refl

    no_memory : (s : Step) → LandsBy w (after_return Return.NoMemory (Found.Permit s)) l
    no_memory Step.More = inside (ReturningPermit Return.NoMemory) refl refl
    no_memory (Step.End e) = refl

    too_many : (s : Step) → LandsBy w (after_return Return.Starved (Found.Permit s)) l
    too_many Step.More = inside (ReturningPermit Return.Starved) refl refl
    too_many (Step.End e) = refl

    take_lands : (x : Place) (f : Found) (at : permit.Course) (to : Course) → LedPermit x f at → LedLock x f to → is_take x ≡ true → Lands w x f l
    take_lands Acquire (Found.Permit s) at to h k t = permit_lands s at h
    take_lands Acquire _ at to h k t = absurd h
    take_lands WaitPermit (Found.Permit s) at to h k t = permit_lands s at h
    take_lands WaitPermit _ at to h k t = absurd h
    take_lands TakePermit (Found.Permit s) at to h k t = permit_lands s at h
    take_lands TakePermit _ at to h k t = absurd h
    take_lands (EnterLock Aim.Take) (Found.Lock n) at to h k t = lock_lands n to k
    take_lands (EnterLock Aim.Take) _ at to h k t = absurd k
    take_lands (WaitLock Aim.Take) (Found.Lock n) at to h k t = lock_lands n to k
    take_lands (WaitLock Aim.Take) _ at to h k t = absurd k
    take_lands (TakeLock Aim.Take) (Found.Lock n) at to h k t = lock_lands n to k
    take_lands (TakeLock Aim.Take) _ at to h k t = absurd k
    take_lands (Pop Taker.Poll) f at to h k t = inside (ReleaseLock (Ending.Leased Taker.Poll)) refl refl
    take_lands (ReleaseLock (Ending.Leased Taker.Poll)) (Found.Lock n) at to h k t = release_lands n
    take_lands (ReleaseLock (Ending.Leased Taker.Poll)) _ at to h k t = absurd k
    take_lands (ReleasingLock (Ending.Leased Taker.Poll)) (Found.Lock n) at to h k t = release_lands n
    take_lands (ReleasingLock (Ending.Leased Taker.Poll)) _ at to h k t = absurd k
    take_lands (ReturnPermit Return.NoMemory) (Found.Permit s) at to h k t = no_memory s
    take_lands (ReturnPermit Return.NoMemory) _ at to h k t = absurd h
    take_lands (ReturnPermit Return.Starved) (Found.Permit s) at to h k t = too_many s
    take_lands (ReturnPermit Return.Starved) _ at to h k t = absurd h
    take_lands (ReturningPermit Return.NoMemory) (Found.Permit s) at to h k t = no_memory s
    take_lands (ReturningPermit Return.NoMemory) _ at to h k t = absurd h
    take_lands (ReturningPermit Return.Starved) (Found.Permit s) at to h k t = too_many s
    take_lands (ReturningPermit Return.Starved) _ at to h k t = absurd h
    take_lands _ f at to h k t = absurd (cc)

  module _ (given : rest_after_giving_back w.kind ≡ Rest.Idle) (inside : (x : Place) → is_begun x ≡ true → is_give x ≡ true → goes_with (Inside w) (At x) ≡ true) where
    lock_gives : (n : Step) (to : Course) → Takes n to → LandsBy w (after_lock Aim.Give (Found.Lock n)) l
    lock_gives Step.More to h = inside (TakeLock Aim.Give) refl refl
    lock_gives (Step.End End.Got) to h = inside Push refl refl
    lock_gives (Step.End End.Pending) to h = refl
    lock_gives (Step.End (End.Refused Refusal.Memory)) to h = refl
    lock_gives (Step.End (End.Refused Refusal.Starved)) to h = refl
    lock_gives (Step.End _) to h = absurd h

    release_gives : (n : Step) → LandsBy w (after_release Ending.Given (Found.Lock n)) l
    release_gives Step.More = inside (ReleasingLock Ending.Given) refl refl
    release_gives (Step.End e) = inside (ReturnPermit Return.Given) refl refl

    returns : (s : Step) → LandsBy w (after_return Return.Given (Found.Permit s)) l
    returns Step.More = inside (ReturningPermit Return.Given) refl refl
    returns (Step.End e) = rw given refl

    give_lands : (x : Place) (f : Found) (at : permit.Course) (to : Course) → LedPermit x f at → LedLock x f to → is_give x ≡ true → Lands w x f l
    give_lands (EnterLock Aim.Give) (Found.Lock n) at to h k t = lock_gives n to k
    give_lands (EnterLock Aim.Give) _ at to h k t = absurd k
    give_lands (WaitLock Aim.Give) (Found.Lock n) at to h k t = lock_gives n to k
    give_lands (WaitLock Aim.Give) _ at to h k t = absurd k
    give_lands (TakeLock Aim.Give) (Found.Lock n) at to h k t = lock_gives n to k
    give_lands (TakeLock Aim.Give) _ at to h k t = absurd k
    give_lands Push f at to h k t = inside (ReleaseLock Ending.Given) refl refl
    give_lands (ReleaseLock Ending.Given) (Found.Lock n) at to h k t = release_gives n
    give_lands (ReleaseLock Ending.Given) _ at to h k t = absurd k
    give_lands (ReleasingLock Ending.Given) (Found.Lock n) at to h k t = release_gives n
    give_lands (ReleasingLock Ending.Given) _ at to h k t = absurd k
    give_lands (ReturnPermit Return.Given) (Found.Permit s) at to h k t = returns s
    give_lands (ReturnPermit Return.Given) _ at to h k t = absurd h
    give_lands (ReturningPermit Return.Given) (Found.Permit s) at to h k t = returns s
    give_lands (ReturningPermit Return.Given) _ at to h k t = absurd h
    give_lands _ f at to h k t = absurd (cc)

polls_on : (a b : Bool) → b ≡ true → (if a then true else b) ≡ true
polls_on true b h = refl
polls_on false b h = h

later : (y : Place) → is_begun y ≡ true → is_give y ≡ true → goes_with (Inside (within Kind.LaterPoll Rest.Pending)) (At y) ≡ true
later y b p = rw b (polls_on (is_take y) (is_give y) p)

module _ (l : Option ℕ) where
  abbrev tried : Within
  tried = within Kind.Try Rest.Idle

  try_permit : (s : Step) (at : permit.Course) → TriesPermit 1 s at → Lands tried TryPermit (Found.Permit s) l
  try_permit (Step.End End.Granted) at h = refl
  try_permit (Step.End End.NotFree) at h = refl
  try_permit _ at h = absurd h

  try_lock : (n : Step) (to : Course) → Tries n to → Lands tried TryLock (Found.Lock n) l
  try_lock (Step.End End.Got) to h = refl
  try_lock (Step.End End.NotFree) to h = refl
  try_lock _ to h = absurd h

  release_tried : (n : Step) → LandsBy tried (after_release (Ending.Leased Taker.Try) (Found.Lock n)) l
  release_tried Step.More = refl
  release_tried (Step.End e) = refl

  in_vain : (s : Step) → LandsBy tried (after_return Return.InVain (Found.Permit s)) l
  in_vain Step.More = refl
  in_vain (Step.End e) = refl

  try_lands : (x : Place) (f : Found) (at : permit.Course) (to : Course) → LedPermit x f at → LedLock x f to → is_try x ≡ true → Lands tried x f l
  try_lands TryPermit (Found.Permit s) at to h k t = try_permit s at h
  try_lands TryPermit _ at to h k t = absurd h
  try_lands TryLock (Found.Lock n) at to h k t = try_lock n to k
  try_lands TryLock _ at to h k t = absurd k
  try_lands (Pop Taker.Try) f at to h k t = refl
  try_lands (ReleaseLock (Ending.Leased Taker.Try)) (Found.Lock n) at to h k t = release_tried n
  try_lands (ReleaseLock (Ending.Leased Taker.Try)) _ at to h k t = absurd k
  try_lands (ReleasingLock (Ending.Leased Taker.Try)) (Found.Lock n) at to h k t = release_tried n
  try_lands (ReleasingLock (Ending.Leased Taker.Try)) _ at to h k t = absurd k
  try_lands (ReturnPermit Return.InVain) (Found.Permit s) at to h k t = in_vain s
  try_lands (ReturnPermit Return.InVain) _ at to h k t = absurd h
  try_lands (ReturningPermit Return.InVain) (Found.Permit s) at to h k t = in_vain s
  try_lands (ReturningPermit Return.InVain) _ at to h k t = absurd h
  try_lands _ f at to h k t = absurd (cc)

  abbrev dropped : Within
  dropped = within Kind.Drop Rest.Pending

  cancel_permit : (s : Step) → LandsBy dropped (after_cancel_permit (Found.Permit s)) l
  cancel_permit Step.More = refl
  cancel_permit (Step.End e) = refl

  cancel_lock : (a : Aim) (n : Step) → LandsBy dropped (after_cancel a (Found.Lock n)) l
  cancel_lock a Step.More = refl
  cancel_lock Aim.Take (Step.End e) = refl
  cancel_lock Aim.Give (Step.End e) = refl

  return_dropped : (s : Step) → LandsBy dropped (after_return Return.Dropped (Found.Permit s)) l
  return_dropped Step.More = refl
  return_dropped (Step.End e) = refl

  drop_lands : (x : Place) (f : Found) (at : permit.Course) (to : Course) → LedPermit x f at → LedLock x f to → is_drop x ≡ true → Lands dropped x f l
  drop_lands CancelPermit (Found.Permit s) at to h k t = cancel_permit s
  drop_lands CancelPermit _ at to h k t = absurd h
  drop_lands CancellingPermit (Found.Permit s) at to h k t = cancel_permit s
  drop_lands CancellingPermit _ at to h k t = absurd h
  drop_lands (CancelLock a) (Found.Lock n) at to h k t = cancel_lock a n
  drop_lands (CancelLock a) _ at to h k t = absurd k
  drop_lands (CancellingLock a) (Found.Lock n) at to h k t = cancel_lock a n
  drop_lands (CancellingLock a) _ at to h k t = absurd k
  drop_lands (ReturnPermit Return.Dropped) (Found.Permit s) at to h k t = return_dropped s
  drop_lands (ReturnPermit Return.Dropped) _ at to h k t = absurd h
  drop_lands (ReturningPermit Return.Dropped) (Found.Permit s) at to h k t = return_dropped s
  drop_lands (ReturningPermit Return.Dropped) _ at to h k t = absurd h
  drop_lands Lose f at to h k t = refl
  drop_lands Abandon f at to h k t = refl
  drop_lands _ f at to h k t = absurd (cc)

  lose_lands : (x : Place) (f : Found) → is_lose x ≡ true → Lands (within Kind.Drop Rest.Holding) x f l
  lose_lands Lose f t = refl
  lose_lands _ f t = absurd (cc)

  -- a later poll is of a take or of a give
  poll_by : (x : Place) (f : Found) (at : permit.Course) (to : Course) (b : Bool) → is_take x ≡ b → LedPermit x f at → LedLock x f to → is_poll x ≡ true → Lands (within Kind.LaterPoll Rest.Pending) x f l
  poll_by x f at to true e h k t = take_lands (within Kind.LaterPoll Rest.Pending) l (λ y b p. rw (b, p) refl) x f at to h k e
  poll_by x f at to false e h k t = give_lands (within Kind.LaterPoll Rest.Pending) l refl (λ y b p. later y b p) x f at to h k (rw e at t)

  by_kind : (k : Kind) (r : Rest) (x : Place) (f : Found) (at : permit.Course) (to : Course) → LedPermit x f at → LedLock x f to → runs k r x ≡ true → Lands (within k r) x f l
  by_kind Kind.FirstPoll Rest.Idle x f at to h k t = take_lands (within Kind.FirstPoll Rest.Idle) l (λ y b p. rw b p) x f at to h k t
  by_kind Kind.Try Rest.Idle x f at to h k t = try_lands x f at to h k t
  by_kind Kind.LaterPoll Rest.Pending x f at to h k t = poll_by x f at to (is_take x) refl h k t
  by_kind Kind.Give Rest.Holding x f at to h k t = give_lands (within Kind.Give Rest.Holding) l refl (λ y b p. rw b p) x f at to h k t
  by_kind Kind.Drop Rest.Pending x f at to h k t = drop_lands x f at to h k t
  by_kind Kind.Drop Rest.Holding x f at to h k t = lose_lands x f t
  by_kind _ _ x f at to h k t = absurd (cc)

  pub lands : (w : Within) (x : Place) (f : Found) (at : permit.Course) (to : Course) → LedPermit x f at → LedLock x f to → runs w.kind w.was x ≡ true → Lands w x f l
  lands w x f at to h k t = by_kind w.kind w.was x f at to h k t
