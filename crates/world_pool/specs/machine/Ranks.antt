-- How many steps of a party's call are left, if the others stand still.
use Rattle.std.specs.Prelude.{ℕ, ◌+◌}
use Rattle.lock_program.specs.declared.end.Next.TheVariants as next
use Rattle.lock_program.specs.declared.mutex.LockCall.TheVariants as lock_call
use Rattle.sync_program.specs.declared.permits.SemaphoreCall.TheVariants as permit_call
use Rattle.world_mutex.specs.machine.Effects.{most_steps as most_lock_steps}
use Rattle.world_semaphore.specs.machine.Calls.{most_steps as most_permit_steps}
use Rattle.world_pool.specs.declared.program.places.Aim.{Aim}
use Rattle.world_pool.specs.declared.program.places.Aim.TheVariants as aim
use Rattle.world_pool.specs.declared.program.places.Ending.{Ending}
use Rattle.world_pool.specs.declared.program.places.Ending.TheVariants as ending
use Rattle.world_pool.specs.declared.program.places.Place.{Place}
use Rattle.world_pool.specs.declared.program.places.Place.TheVariants.{Acquire, WaitPermit, TakePermit, TryPermit, TryLock, EnterLock, WaitLock, TakeLock, Pop, Push, ReleaseLock, ReleasingLock, ReturnPermit, ReturningPermit, CancelPermit, CancellingPermit, CancelLock, CancellingLock, Lose, Abandon}
use Rattle.world_pool.specs.declared.program.places.Position.{Position}
use Rattle.world_pool.specs.declared.program.places.Position.TheVariants.{At}
use Rattle.world_pool.specs.program.Program.{Next}

-- to give a permit back
abbrev pub returning : ℕ
returning = most_permit_steps permit_call.Drop

-- once the list's lock is released
abbrev pub left_released : Ending → ℕ
left_released (ending.Leased t) = 0
left_released ending.Given = returning

-- once a poll has the list's lock, or is refused there
abbrev pub left_with_lock : Aim → ℕ
left_with_lock aim.Take = 3
left_with_lock aim.Give = 6

-- once a poll has a permit
abbrev pub left_with_permit : ℕ
left_with_permit = most_lock_steps lock_call.Lock + left_with_lock aim.Take

-- once a dropped future has left the list of the list's lock
abbrev pub left_cancelled : Aim → ℕ
left_cancelled aim.Take = returning
left_cancelled aim.Give = 1

-- How many steps are left at most from a place, by how many its party's calls on the semaphore and on the list's lock have left.
abbrev pub left : Place → ℕ → ℕ → ℕ
left Acquire permits lock = most_permit_steps (permit_call.Acquire 1) + left_with_permit
left WaitPermit permits lock = most_permit_steps permit_call.Poll + left_with_permit
left TakePermit permits lock = permits + left_with_permit
left TryPermit permits lock = most_permit_steps (permit_call.TryAcquire 1) + 4
left TryLock permits lock = most_lock_steps lock_call.Try + 3
left (EnterLock a) permits lock = most_lock_steps lock_call.Lock + left_with_lock a
left (WaitLock a) permits lock = most_lock_steps lock_call.Poll + left_with_lock a
left (TakeLock a) permits lock = lock + left_with_lock a
left (Pop t) permits lock = 3
left Push permits lock = 6
left (ReleaseLock e) permits lock = most_lock_steps lock_call.Release + left_released e
left (ReleasingLock e) permits lock = lock + left_released e
left (ReturnPermit r) permits lock = returning
left (ReturningPermit r) permits lock = permits
left CancelPermit permits lock = most_permit_steps permit_call.Drop
left CancellingPermit permits lock = permits
left (CancelLock a) permits lock = most_lock_steps lock_call.Cancel + left_cancelled a
left (CancellingLock a) permits lock = lock + left_cancelled a
left Lose permits lock = 1
left Abandon permits lock = 1

-- Outside every program one step is left, that of a move which does nothing.
abbrev pub left_at : Position → ℕ → ℕ → ℕ
left_at (At x) permits lock = left x permits lock
left_at x permits lock = 1

-- How many steps are left once a step has decided this: none where the call is over.
abbrev pub left_then : Next → ℕ → ℕ → ℕ
left_then (next.Do x) permits lock = left x permits lock
left_then _ permits lock = 0
