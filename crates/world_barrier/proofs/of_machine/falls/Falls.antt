-- Each action of a party leaves fewer steps of its call.
use Rattle.world_barrier.proofs.Prelude.{◌≡◌, ℕ, ◌+◌, ◌<◌, Bool, true, false, List, arith, Entry, is_marked_at, is_party, entries_of, Inputs, joined_unmarked, LockStep, End, Mutex, lock_left_after, lock_steps_left, Aim, Ending, Found, Place, EnterLock, WaitLock, TakeLock, Look, Join, Arrive, Complete, NotifyAll, Check, JoinAgain, ReleaseLock, ReleasingLock, Ask, CancelLock, CancellingLock, CancelLeave, Abandon, At, action_of, next_of, after_lock, after_cancel, after_release, released, Progress, Words, Finds, entries_after, OnLock, listed}
use Rattle.world_barrier.specs.machine.Ranks.{left, left_then, left_with_lock, left_asking, left_released}

module _ (p : ℕ) (m : Mutex) (k : Bool) where
  abbrev lock : ℕ
  lock = lock_steps_left m p

  takes_fall : (a : Aim) (s : LockStep) (n : ℕ) → lock_left_after s m p < n → left_then (after_lock a (Found.Lock s)) k lock < n + left_with_lock a
  takes_fall a LockStep.More n h = omega arith
  takes_fall Aim.Arrive (LockStep.End End.Got) n h = omega arith
  takes_fall Aim.Check (LockStep.End End.Got) n h = omega arith
  takes_fall a (LockStep.End (End.Refused r)) n h = omega arith
  takes_fall a (LockStep.End _) n h = omega arith

  cancels_fall : (s : LockStep) (n : ℕ) → lock_left_after s m p < n → left_then (after_cancel (Found.Lock s)) k lock < n
  cancels_fall LockStep.More n h = h
  cancels_fall (LockStep.End e) n h = h

  released_fall : (e : Ending) (n : ℕ) → 0 < n → left_then (released e) k lock < n + left_released e k
  released_fall Ending.Wait n h = omega arith
  released_fall Ending.Follow n h = omega arith
  released_fall Ending.Lead n h = omega arith
  released_fall Ending.RefuseGenerations n h = omega arith
  released_fall (Ending.RefuseMemory a) n h = omega arith

  releases_fall : (e : Ending) (s : LockStep) (n : ℕ) → lock_left_after s m p < n → left_then (after_release e (Found.Lock s)) k lock < n + left_released e k
  releases_fall e LockStep.More n h = omega arith
  releases_fall e (LockStep.End x) n h = released_fall e n h

some_asking : (k : Bool) → 0 < left_asking k
some_asking true = omega arith
some_asking false = omega arith

module _ (i : Inputs) (p : ℕ) (w : Words) (a : Progress) (l : List (Entry ℕ)) (m n : Mutex) where
  abbrev was : Bool
  was = is_marked_at (is_party p) l

  abbrev then : Place → Found → Bool
  then x f = is_marked_at (is_party p) (entries_after p (action_of x) f l)

  abbrev Falls : Place → Found → Type 0
  Falls x f = left_then (next_of x f) (then x f) (lock_steps_left n p) < left x was (lock_steps_left m p)

  -- a party that has just joined isn't marked
  pub falls : (x : Place) (f : Found) → Finds i p (action_of x) f w a l → OnLock i p (action_of x) f m n → entries_of p l ≡ listed (At x) → Falls x f
  falls (EnterLock b) (Found.Lock s) finds e h = takes_fall p n was b s _ e.bounded
  falls (EnterLock b) _ finds e h = absurd e
  falls (WaitLock b) (Found.Lock s) finds e h = takes_fall p n was b s _ e.bounded
  falls (WaitLock b) _ finds e h = absurd e
  falls (TakeLock b) (Found.Lock s) finds e h = takes_fall p n was b s _ e.falls
  falls (TakeLock b) _ finds e h = absurd e
  falls CancelLock (Found.Lock s) finds e h = cancels_fall p n was s _ e.bounded
  falls CancelLock _ finds e h = absurd e
  falls CancellingLock (Found.Lock s) finds e h = cancels_fall p n was s _ e.falls
  falls CancellingLock _ finds e h = absurd e
  falls (ReleaseLock k) (Found.Lock s) finds e h = releases_fall p n was k s _ e.bounded
  falls (ReleaseLock k) _ finds e h = absurd e
  falls (ReleasingLock k) (Found.Lock s) finds e h = releases_fall p n was k s _ e.falls
  falls (ReleasingLock k) _ finds e h = absurd e
  falls Look Found.MustWait finds e h = omega arith
  falls Look Found.Leads finds e h = omega arith
  falls Look _ finds e h = omega arith
  falls Join Found.Done finds e h = rw (joined_unmarked p l h) (omega arith)
  falls Join _ finds e h = omega arith
  falls Arrive _ finds e h = omega arith
  falls Complete _ finds e h = omega arith
  falls NotifyAll _ finds e h = omega arith
  falls Check Found.Finished finds e h = omega arith
  falls Check _ finds e h = omega arith
  falls JoinAgain Found.Done finds e h = rw (joined_unmarked p l h) (omega arith)
  falls JoinAgain _ finds e h = omega arith
  falls Ask Found.Yes finds e h = rw finds (omega arith)
  falls Ask _ finds e h = some_asking was
  falls CancelLeave _ finds e h = omega arith
  falls Abandon _ finds e h = omega arith
