-- How many steps of a party's call are left, if the others stand still.
use Rattle.std.specs.Prelude.{ℕ, ◌+◌, if◌then◌else◌, Bool}
use Rattle.lock_program.specs.declared.mutex.LockCall.TheVariants as lock_call
use Rattle.world_mutex.specs.machine.Effects.{most_steps as most_lock_steps}
use Rattle.sync_program.specs.declared.barrier.Aim.{Aim}
use Rattle.sync_program.specs.declared.barrier.Aim.TheVariants as aim
use Rattle.sync_program.specs.declared.barrier.Ending.{Ending}
use Rattle.sync_program.specs.declared.barrier.Ending.TheVariants as ending
use Rattle.world_barrier.specs.program.Program.{Next}
use Rattle.lock_program.specs.declared.end.Next.TheVariants as next
use Rattle.sync_program.specs.declared.barrier.Place.{Place}
use Rattle.sync_program.specs.declared.barrier.Place.TheVariants.{EnterLock, WaitLock, TakeLock, Look, Join, Arrive, Complete, NotifyAll, Check, JoinAgain, ReleaseLock, ReleasingLock, Ask, CancelLock, CancellingLock, CancelLeave, Abandon}
use Rattle.sync_program.specs.declared.barrier.Position.{Position}
use Rattle.sync_program.specs.declared.barrier.Position.TheVariants.{At}

-- once a poll has the inner lock
abbrev pub left_with_lock : Aim → ℕ
left_with_lock aim.Arrive = 6
left_with_lock aim.Check = 5

-- once it asks in the list, by whether its entry there is marked
abbrev pub left_asking : Bool → ℕ
left_asking marked = if marked then 18 else 1

-- once the inner lock is released
abbrev pub left_released : Ending → Bool → ℕ
left_released ending.Wait marked = left_asking marked
left_released e marked = 0

-- How many steps are left at most from a place, by whether the party's own entry is marked, and by how many steps its call on the inner lock has left.
abbrev pub left : Place → Bool → ℕ → ℕ
left (EnterLock a) marked lock = most_lock_steps lock_call.Lock + left_with_lock a
left (WaitLock a) marked lock = most_lock_steps lock_call.Poll + left_with_lock a
left (TakeLock a) marked lock = lock + left_with_lock a
left Look marked lock = 6
left Join marked lock = 5
left Arrive marked lock = 3 + left_asking marked
left Complete marked lock = 4
left NotifyAll marked lock = 3
left Check marked lock = 5
left JoinAgain marked lock = 4
left (ReleaseLock e) marked lock = most_lock_steps lock_call.Release + left_released e marked
left (ReleasingLock e) marked lock = lock + left_released e marked
left Ask marked lock = left_asking marked
left CancelLock marked lock = most_lock_steps lock_call.Cancel
left CancellingLock marked lock = lock
left CancelLeave marked lock = 1
left Abandon marked lock = 1

-- Outside every program one step is left, that of a move which does nothing.
abbrev pub left_at : Position → Bool → ℕ → ℕ
left_at (At x) marked lock = left x marked lock
left_at x marked lock = 1

-- How many steps are left once a step has decided this: none where the call is over.
abbrev pub left_then : Next → Bool → ℕ → ℕ
left_then (next.Do x) marked lock = left x marked lock
left_then _ marked lock = 0
