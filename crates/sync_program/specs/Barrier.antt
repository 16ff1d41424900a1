-- The places of a barrier's calls: the action at each, and what comes after what it finds.
use Rattle.std.specs.Prelude.{true, false, Option, Some, None}
use Rattle.sync_program.specs.declared.barrier.BarrierCall.{BarrierCall}
use Rattle.sync_program.specs.declared.barrier.BarrierCall.TheVariants as call
use Rattle.lock_program.specs.declared.refusal.Refusal.TheVariants.{Memory, Generations}
use Rattle.lock_program.specs.declared.end.End.TheVariants.{Got, Pending, GivenBack, Refused}
use Rattle.lock_program.specs.declared.mutex.LockCall.TheVariants as lock_call
use Rattle.lock_program.specs.declared.mutex.Step.TheVariants as lock_step
use Rattle.lock_program.specs.declared.end.End.TheVariants as lock_end
use Rattle.sync_program.specs.declared.barrier.Action.{Action}
use Rattle.sync_program.specs.declared.barrier.Action.TheVariants as act
use Rattle.sync_program.specs.declared.barrier.Aim.{Aim}
use Rattle.sync_program.specs.declared.barrier.Aim.TheVariants as aim
use Rattle.sync_program.specs.declared.barrier.Ending.{Ending}
use Rattle.sync_program.specs.declared.barrier.Ending.TheVariants as ending
use Rattle.sync_program.specs.declared.barrier.Found.{Found}
use Rattle.sync_program.specs.declared.barrier.Found.TheVariants as found
use Rattle.lock_program.specs.declared.end.Next.{Next}
use Rattle.lock_program.specs.declared.end.Next.TheVariants as next
use Rattle.sync_program.specs.declared.barrier.Left.{Left}
use Rattle.sync_program.specs.declared.barrier.Left.TheVariants.{Ready, Outside}
use Rattle.sync_program.specs.declared.barrier.Place.{Place}
use Rattle.sync_program.specs.declared.barrier.Place.TheVariants.{EnterLock, WaitLock, TakeLock, Look, Join, Arrive, Complete, NotifyAll, Check, JoinAgain, ReleaseLock, ReleasingLock, Ask, CancelLock, CancellingLock, CancelLeave, Abandon}
use Rattle.sync_program.specs.declared.barrier.Position.{Position}
use Rattle.sync_program.specs.declared.barrier.Position.TheVariants.{Out, Made, Locking, Waiting}

-- the place at which a call begins
abbrev pub start_of : BarrierCall → Position → Option Place
start_of call.Wait Out = Some (EnterLock aim.Arrive)
start_of call.Poll (Made a) = Some (EnterLock a)
start_of call.Poll (Locking a) = Some (WaitLock a)
start_of call.Poll Waiting = Some Ask
start_of call.Drop (Locking a) = Some CancelLock
start_of call.Drop Waiting = Some CancelLeave
start_of call.Drop Out = Some Abandon
start_of call.Drop (Made a) = Some Abandon
start_of _ _ = None

-- the action at a place
abbrev pub action_of : Place → Action
action_of (EnterLock a) = act.Begin lock_call.Lock
action_of (WaitLock a) = act.Begin lock_call.Poll
action_of (TakeLock a) = act.Go
action_of Look = act.Look
action_of Join = act.Join
action_of Arrive = act.Arrive
action_of Complete = act.Complete
action_of NotifyAll = act.NotifyAll
action_of Check = act.Check
action_of JoinAgain = act.Join
action_of (ReleaseLock e) = act.Begin lock_call.Release
action_of (ReleasingLock e) = act.Go
action_of Ask = act.Ask
action_of CancelLock = act.Begin lock_call.Cancel
action_of CancellingLock = act.Go
action_of CancelLeave = act.Leave
action_of Abandon = act.Nothing

-- where a poll goes on that has the inner lock
abbrev pub with_lock : Aim → Place
with_lock aim.Arrive = Look
with_lock aim.Check = Check

-- what comes after a step of a poll that takes the inner lock
abbrev pub after_lock : Aim → Found → Next Place Left
after_lock a (found.Lock lock_step.More) = next.Do (TakeLock a)
after_lock a (found.Lock (lock_step.End lock_end.Got)) = next.Do (with_lock a)
after_lock a (found.Lock (lock_step.End (lock_end.Refused r))) = next.End (Refused r) (Outside (Made a))
after_lock a _ = next.End Pending (Outside (Locking a))

-- what comes after a step of the drop of a future that waits for the inner lock
abbrev pub after_cancel : Found → Next Place Left
after_cancel (found.Lock lock_step.More) = next.Do CancellingLock
after_cancel _ = next.End GivenBack (Outside Out)

-- what comes once the inner lock is released
abbrev pub released : Ending → Next Place Left
released ending.Wait = next.Do Ask
released ending.Follow = next.End Got (Ready false)
released ending.Lead = next.End Got (Ready true)
released ending.RefuseGenerations = next.End (Refused Generations) (Outside (Made aim.Arrive))
released (ending.RefuseMemory a) = next.End (Refused Memory) (Outside (Made a))

-- what comes after a step of its release
abbrev pub after_release : Ending → Found → Next Place Left
after_release e (found.Lock lock_step.More) = next.Do (ReleasingLock e)
after_release e _ = released e

-- what comes after a place where this was found
abbrev pub next_of : Place → Found → Next Place Left
next_of (EnterLock a) f = after_lock a f
next_of (WaitLock a) f = after_lock a f
next_of (TakeLock a) f = after_lock a f
next_of Look found.MustWait = next.Do Join
next_of Look found.Leads = next.Do Complete
next_of Look _ = next.Do (ReleaseLock ending.RefuseGenerations)
next_of Join found.Done = next.Do Arrive
next_of Join _ = next.Do (ReleaseLock (ending.RefuseMemory aim.Arrive))
next_of Arrive _ = next.Do (ReleaseLock ending.Wait)
next_of Complete _ = next.Do NotifyAll
next_of NotifyAll _ = next.Do (ReleaseLock ending.Lead)
next_of Check found.Finished = next.Do (ReleaseLock ending.Follow)
next_of Check _ = next.Do JoinAgain
next_of JoinAgain found.Done = next.Do (ReleaseLock ending.Wait)
next_of JoinAgain _ = next.Do (ReleaseLock (ending.RefuseMemory aim.Check))
next_of (ReleaseLock e) f = after_release e f
next_of (ReleasingLock e) f = after_release e f
next_of Ask found.Yes = next.Do (EnterLock aim.Check)
next_of Ask _ = next.End Pending (Outside Waiting)
next_of CancelLock f = after_cancel f
next_of CancellingLock f = after_cancel f
next_of CancelLeave _ = next.End GivenBack (Outside Out)
next_of Abandon _ = next.End GivenBack (Outside Out)
