-- What a party's wait is, and what its call is decided on, by where it stands.
use Rattle.std.specs.Prelude.{ℕ, Bool, true, false, Option, Some, None}
use Rattle.world_base.specs.declared.moves.Answer.{Answer}
use Rattle.world_base.specs.declared.moves.Answer.TheVariants.{Ready, GivenBack}
use Rattle.world_base.specs.declared.moves.Got.TheVariants.{Leader}
use Rattle.lock_program.specs.declared.refusal.Refusal.TheVariants.{Memory, Generations}
use Rattle.world_base.specs.Standings.{refused}
use Rattle.lock_program.specs.declared.end.End.{End as LockEnd}
use Rattle.lock_program.specs.declared.end.End.TheVariants as lock_end
use Rattle.world_mutex.specs.machine.Course.{Course, decision}
use Rattle.sync_program.specs.declared.barrier.Aim.{Aim}
use Rattle.sync_program.specs.declared.barrier.Aim.TheVariants as aim
use Rattle.sync_program.specs.declared.barrier.Ending.{Ending}
use Rattle.sync_program.specs.declared.barrier.Ending.TheVariants as ending
use Rattle.sync_program.specs.declared.barrier.Place.{Place}
use Rattle.sync_program.specs.declared.barrier.Place.TheVariants.{EnterLock, WaitLock, TakeLock, Look, Join, Arrive, Complete, NotifyAll, ReleaseLock, ReleasingLock, CancelLock, CancellingLock, CancelLeave, Abandon}
use Rattle.sync_program.specs.declared.barrier.Position.{Position}
use Rattle.sync_program.specs.declared.barrier.Position.TheVariants.{Out, Made, Locking, Waiting, At}

-- A party has no wait, or one that isn't counted yet, or one whose arrival is counted and has this number.
pub data Wait : Type 0 where
  no_wait : Wait
  uncounted : Wait
  counted : ℕ → Wait

abbrev pub number_of : Wait → Option ℕ
number_of (counted a) = Some a
number_of _ = None

abbrev pub is_counted : Wait → Bool
is_counted (counted a) = true
is_counted _ = false

-- by what it takes the inner lock for, and by what comes once that is released
abbrev pub wait_for : Aim → ℕ → Wait
wait_for aim.Arrive a = uncounted
wait_for aim.Check a = counted a

abbrev pub wait_until : Ending → ℕ → Wait
wait_until ending.RefuseGenerations a = uncounted
wait_until (ending.RefuseMemory for) a = wait_for for a
wait_until _ a = counted a

abbrev pub wait_of : Place → ℕ → Wait
wait_of (EnterLock for) a = wait_for for a
wait_of (WaitLock for) a = wait_for for a
wait_of (TakeLock for) a = wait_for for a
wait_of Look a = uncounted
wait_of Join a = uncounted
wait_of Arrive a = uncounted
wait_of Complete a = uncounted
wait_of (ReleaseLock e) a = wait_until e a
wait_of (ReleasingLock e) a = wait_until e a
wait_of CancelLock a = no_wait
wait_of CancellingLock a = no_wait
wait_of CancelLeave a = no_wait
wait_of Abandon a = no_wait
wait_of _ a = counted a

-- The wait of a party that stands here, whose last arrival has this number.
abbrev pub wait_at : Position → ℕ → Wait
wait_at Out a = no_wait
wait_at (Made for) a = wait_for for a
wait_at (Locking for) a = wait_for for a
wait_at Waiting a = counted a
wait_at (At place) a = wait_of place a

-- ---- What a call is decided on

-- a refusal that is decided in the inner lock decides the call; that the lock was got there doesn't
abbrev pub refused_by : Option LockEnd → Option Answer
refused_by (Some (lock_end.Refused r)) = Some (refused r)
refused_by _ = None

abbrev pub verdict_until : Ending → Option Answer
verdict_until ending.Wait = None
verdict_until ending.Follow = Some (Ready (Leader false))
verdict_until ending.Lead = Some (Ready (Leader true))
verdict_until ending.RefuseGenerations = Some (refused Generations)
verdict_until (ending.RefuseMemory for) = Some (refused Memory)

abbrev pub verdict_of : Place → Course → Option Answer
verdict_of (TakeLock for) c = refused_by (decision c)
verdict_of NotifyAll c = Some (Ready (Leader true))
verdict_of (ReleaseLock e) c = verdict_until e
verdict_of (ReleasingLock e) c = verdict_until e
verdict_of CancelLock c = Some GivenBack
verdict_of CancellingLock c = Some GivenBack
verdict_of CancelLeave c = Some GivenBack
verdict_of Abandon c = Some GivenBack
verdict_of _ c = None

-- The answer that a call will give whose party stands here, and so in the inner lock, if it is decided.
abbrev pub verdict : Position → Course → Option Answer
verdict (At place) c = verdict_of place c
verdict x c = None
