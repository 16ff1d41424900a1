-- Each action of a party leaves fewer steps of its call.
use Rattle.world_pool.proofs.Prelude.{ℕ, ◌+◌, ◌<◌, arith, Inputs, End, Step, Mutex, lock_left_after, lock_steps_left, Permits, permit_left_after, permit_steps_left, Aim, Ending, Found, Taker, Return, Place, Acquire, WaitPermit, TakePermit, TryPermit, TryLock, EnterLock, WaitLock, TakeLock, Pop, Push, ReleaseLock, ReleasingLock, ReturnPermit, ReturningPermit, CancelPermit, CancellingPermit, CancelLock, CancellingLock, Lose, Abandon, action_of, next_of, after_permit, after_lock, after_try_permit, after_try_lock, after_release, after_return, after_cancel, after_cancel_permit, released, returned, cancelled, OnPermits, OnLock}
use Rattle.world_pool.specs.machine.Ranks.{left, left_then, left_with_lock, left_with_permit, left_released, left_cancelled}

module _ (p : ℕ) (m : Mutex) (s : Permits) where
  abbrev lock : ℕ
  lock = lock_steps_left m p

  abbrev permits : ℕ
  permits = permit_steps_left s p

  permit_falls : (k : Step) (n : ℕ) → permit_left_after k s p < n → left_then (after_permit (Found.Permit k)) permits lock < n + left_with_permit
  permit_falls Step.More n h = omega arith
  permit_falls (Step.End End.Got) n h = omega arith
  permit_falls (Step.End (End.Refused r)) n h = omega arith
  permit_falls (Step.End _) n h = omega arith

  try_permit_falls : (k : Step) → left_then (after_try_permit (Found.Permit k)) permits lock < 5
  try_permit_falls (Step.End End.Granted) = omega arith
  try_permit_falls (Step.End _) = omega arith
  try_permit_falls Step.More = omega arith

  try_lock_falls : (k : Step) → left_then (after_try_lock (Found.Lock k)) permits lock < 4
  try_lock_falls (Step.End End.Got) = omega arith
  try_lock_falls (Step.End _) = omega arith
  try_lock_falls Step.More = omega arith

  lock_falls : (a : Aim) (k : Step) (n : ℕ) → lock_left_after k m p < n → left_then (after_lock a (Found.Lock k)) permits lock < n + left_with_lock a
  lock_falls a Step.More n h = omega arith
  lock_falls Aim.Take (Step.End End.Got) n h = omega arith
  lock_falls Aim.Give (Step.End End.Got) n h = omega arith
  lock_falls Aim.Take (Step.End (End.Refused r)) n h = omega arith
  lock_falls Aim.Give (Step.End (End.Refused r)) n h = omega arith
  lock_falls a (Step.End _) n h = omega arith

  released_falls : (e : Ending) (n : ℕ) → 0 < n → left_then (released e) permits lock < n + left_released e
  released_falls (Ending.Leased Taker.Poll) n h = omega arith
  released_falls (Ending.Leased Taker.Try) n h = omega arith
  released_falls Ending.Given n h = omega arith

  release_falls : (e : Ending) (k : Step) (n : ℕ) → lock_left_after k m p < n → left_then (after_release e (Found.Lock k)) permits lock < n + left_released e
  release_falls e Step.More n h = omega arith
  release_falls e (Step.End x) n h = released_falls e n h

  returned_falls : (r : Return) (n : ℕ) → 0 < n → left_then (returned r) permits lock < n
  returned_falls Return.Given n h = h
  returned_falls Return.Dropped n h = h
  returned_falls Return.InVain n h = h
  returned_falls Return.NoMemory n h = h
  returned_falls Return.Starved n h = h

  return_falls : (r : Return) (k : Step) (n : ℕ) → permit_left_after k s p < n → left_then (after_return r (Found.Permit k)) permits lock < n
  return_falls r Step.More n h = h
  return_falls r (Step.End x) n h = returned_falls r n h

  cancel_permit_falls : (k : Step) (n : ℕ) → permit_left_after k s p < n → left_then (after_cancel_permit (Found.Permit k)) permits lock < n
  cancel_permit_falls Step.More n h = h
  cancel_permit_falls (Step.End x) n h = h

  cancelled_falls : (a : Aim) (n : ℕ) → 0 < n → left_then (cancelled a) permits lock < n + left_cancelled a
  cancelled_falls Aim.Take n h = omega arith
  cancelled_falls Aim.Give n h = omega arith

  cancel_falls : (a : Aim) (k : Step) (n : ℕ) → lock_left_after k m p < n → left_then (after_cancel a (Found.Lock k)) permits lock < n + left_cancelled a
  cancel_falls a Step.More n h = omega arith
  cancel_falls a (Step.End x) n h = cancelled_falls a n h

module _ (i : Inputs) (p : ℕ) (s t : Permits) (m n : Mutex) where
  abbrev Falls : Place → Found → Type 0
  Falls x f = left_then (next_of x f) (permit_steps_left t p) (lock_steps_left n p) < left x (permit_steps_left s p) (lock_steps_left m p)

  pub falls : (x : Place) (f : Found) → OnPermits i p (action_of x) f s t → OnLock i p (action_of x) f m n → Falls x f
  falls Acquire (Found.Permit k) h e = permit_falls p n t k _ h.bounded
  falls Acquire _ h e = absurd h
  falls WaitPermit (Found.Permit k) h e = permit_falls p n t k _ h.bounded
  falls WaitPermit _ h e = absurd h
  falls TakePermit (Found.Permit k) h e = permit_falls p n t k _ h.falls
  falls TakePermit _ h e = absurd h
  falls TryPermit (Found.Permit k) h e = try_permit_falls p n t k
  falls TryPermit _ h e = absurd h
  falls TryLock (Found.Lock k) h e = try_lock_falls p n t k
  falls TryLock _ h e = absurd e
  falls (EnterLock a) (Found.Lock k) h e = lock_falls p n t a k _ e.bounded
  falls (EnterLock a) _ h e = absurd e
  falls (WaitLock a) (Found.Lock k) h e = lock_falls p n t a k _ e.bounded
  falls (WaitLock a) _ h e = absurd e
  falls (TakeLock a) (Found.Lock k) h e = lock_falls p n t a k _ e.falls
  falls (TakeLock a) _ h e = absurd e
  falls (Pop k) f h e = omega arith
  falls Push f h e = omega arith
  falls (ReleaseLock r) (Found.Lock k) h e = release_falls p n t r k _ e.bounded
  falls (ReleaseLock r) _ h e = absurd e
  falls (ReleasingLock r) (Found.Lock k) h e = release_falls p n t r k _ e.falls
  falls (ReleasingLock r) _ h e = absurd e
  falls (ReturnPermit r) (Found.Permit k) h e = return_falls p n t r k _ h.bounded
  falls (ReturnPermit r) _ h e = absurd h
  falls (ReturningPermit r) (Found.Permit k) h e = return_falls p n t r k _ h.falls
  falls (ReturningPermit r) _ h e = absurd h
  falls CancelPermit (Found.Permit k) h e = cancel_permit_falls p n t k _ h.bounded
  falls CancelPermit _ h e = absurd h
  falls CancellingPermit (Found.Permit k) h e = cancel_permit_falls p n t k _ h.falls
  falls CancellingPermit _ h e = absurd h
  falls (CancelLock a) (Found.Lock k) h e = cancel_falls p n t a k _ e.bounded
  falls (CancelLock a) _ h e = absurd e
  falls (CancellingLock a) (Found.Lock k) h e = cancel_falls p n t a k _ e.falls
  falls (CancellingLock a) _ h e = absurd e
  falls Lose f h e = omega arith
  falls Abandon f h e = omega arith
