-- How callers see what stands behind a pool's World.
use Rattle.std.specs.Prelude.{ℕ, map, Option, Some, None}
use Rattle.lock_program.specs.declared.end.End.{End}
use Rattle.lock_program.specs.declared.end.End.TheVariants as ended
use Rattle.lock_program.specs.declared.refusal.Refusal.TheVariants as refusal
use Rattle.world_base.specs.Standings.{refused}
use Rattle.world_base.specs.declared.moves.Answer.{Answer}
use Rattle.world_base.specs.declared.moves.Answer.TheVariants as answer
use Rattle.world_base.specs.table.Tables.{Table}
use Rattle.world_base.specs.table.Views.{standings}
use Rattle.world_mutex.specs.machine.Course as lock
use Rattle.world_mutex.specs.machine.Mutex.{course_at as lock_course}
use Rattle.world_semaphore.specs.machine.Course as permit
use Rattle.world_semaphore.specs.machine.Permits.{course_at as permit_course}
use Rattle.world_pool.specs.declared.program.places.Ending.{Ending}
use Rattle.world_pool.specs.declared.program.places.Ending.TheVariants as ending
use Rattle.world_pool.specs.declared.program.places.Place.{Place}
use Rattle.world_pool.specs.declared.program.places.Place.TheVariants.{TakePermit, TakeLock, ReleaseLock, ReleasingLock, ReturnPermit, ReturningPermit, CancelPermit, CancellingPermit, CancelLock, CancellingLock, Lose, Abandon}
use Rattle.world_pool.specs.declared.program.places.Position.{Position}
use Rattle.world_pool.specs.declared.program.places.Position.TheVariants.{At}
use Rattle.world_pool.specs.declared.program.places.Return.{Return}
use Rattle.world_pool.specs.declared.program.places.Return.TheVariants as why
use Rattle.world_pool.specs.declared.program.places.Taker.TheVariants as taker
use Rattle.world_pool.specs.program.Program.{got_with}
use Rattle.world_pool.specs.machine.Machine.{Pool, position_at, lease_at}
use Rattle.world_pool.specs.machine.Roles.{is_giving, is_taking_out}
use Rattle.world_pool.specs.State.{World}

-- what a poll is decided on by its step in the semaphore or in the lock: that it waits, or is refused; with what it acquires it goes on
abbrev pub decided_inside : Option End → Option Answer
decided_inside (Some ended.Pending) = Some answer.Pending
decided_inside (Some (ended.Refused r)) = Some (refused r)
decided_inside d = None

abbrev pub decided_ending : Ending → Option ℕ → Option Answer
decided_ending (ending.Leased taker.Poll) lease = Some (answer.Ready (got_with lease))
decided_ending (ending.Leased taker.Try) lease = Some (answer.Granted (got_with lease))
decided_ending ending.Given lease = Some answer.GivenBack

abbrev pub decided_return : Return → Option Answer
decided_return why.Given = Some answer.GivenBack
decided_return why.Dropped = Some answer.GivenBack
decided_return why.InVain = Some answer.None
decided_return why.NoMemory = Some (refused refusal.Memory)
decided_return why.Starved = Some (refused refusal.Starved)

-- the answer on which the call is decided of a party that stands at this place
abbrev pub verdict_of : Place → permit.Course → lock.Course → Option ℕ → Option Answer
verdict_of TakePermit c d lease = decided_inside (permit.decision c)
verdict_of (TakeLock a) c d lease = decided_inside (lock.decision d)
verdict_of (ReleaseLock e) c d lease = decided_ending e lease
verdict_of (ReleasingLock e) c d lease = decided_ending e lease
verdict_of (ReturnPermit r) c d lease = decided_return r
verdict_of (ReturningPermit r) c d lease = decided_return r
verdict_of CancelPermit c d lease = Some answer.GivenBack
verdict_of CancellingPermit c d lease = Some answer.GivenBack
verdict_of (CancelLock a) c d lease = Some answer.GivenBack
verdict_of (CancellingLock a) c d lease = Some answer.GivenBack
verdict_of Lose c d lease = Some answer.GivenBack
verdict_of Abandon c d lease = Some answer.GivenBack
verdict_of _ c d lease = None

abbrev pub verdict : Position → permit.Course → lock.Course → Option ℕ → Option Answer
verdict (At place) c d lease = verdict_of place c d lease
verdict x c d lease = None

abbrev pub verdict_in : Pool → ℕ → Option Answer
verdict_in s p = verdict (position_at s.positions p) (permit_course s.permits.courses p) (lock_course s.lock.courses p) (lease_at s.leases p)

abbrev pub view_of : Table Pool → World
view_of t = record {
  items = t.machine.items;
  leases = t.machine.leases;
  semaphore = t.machine.permits;
  lock = t.machine.lock;
  giving = map is_giving t.machine.positions;
  seeking = map is_taking_out t.machine.positions;
  standings = standings (verdict_in t.machine) t.stages;
  behind = t;
}
