-- The places of a barrier's programs, row by row.
use Rattle.std.specs.Prelude.{true, false, List, [], ◌∷◌, Option, Some, None}
use Rattle.sync_program.specs.declared.barrier.Action.TheVariants as act
use Rattle.sync_program.specs.declared.barrier.Action.{Action}
use Rattle.sync_program.specs.declared.barrier.Aim.TheVariants as aim
use Rattle.sync_program.specs.declared.barrier.Ending.TheVariants as ending
use Rattle.sync_program.specs.declared.barrier.Found.TheVariants as found
use Rattle.sync_program.specs.declared.barrier.Found.{Found}
use Rattle.lock_program.specs.declared.end.Next.TheVariants as next
use Rattle.lock_program.specs.declared.end.Next.{Next}
use Rattle.sync_program.specs.declared.barrier.Place.TheVariants as place
use Rattle.sync_program.specs.declared.barrier.Place.{Place}
use Rattle.sync_program.specs.declared.barrier.Position.TheVariants as position
use Rattle.sync_program.specs.declared.barrier.Position.{Position}
use Rattle.lock_program.specs.declared.end.End.TheVariants as ended
use Rattle.world_base.specs.declared.moves.Call.TheVariants as call
use Rattle.world_base.specs.declared.moves.Call.{Call}
use Rattle.sync_program.specs.declared.barrier.Left.{Left}
use Rattle.sync_program.specs.declared.barrier.Left.TheVariants as left
use Rattle.lock_program.specs.declared.refusal.Refusal.TheVariants as refusal
use Rattle.lock_program.specs.declared.mutex.Step.TheVariants as lock_step
use Rattle.lock_program.specs.declared.mutex.LockCall.TheVariants as lock_call

-- Where a call begins for a party that stands there; None where it can't.
abbrev pub beginnings : List (Call × Position × Option Place)
beginnings =
    (call.Wait, position.Out, Some (place.EnterLock aim.Arrive)) ∷
    (call.Poll, position.Waiting, Some place.Ask) ∷
    (call.Drop, position.Waiting, Some place.CancelLeave) ∷
    (call.Drop, position.Out, Some place.Abandon) ∷
    (call.Poll, position.Made aim.Arrive, Some (place.EnterLock aim.Arrive)) ∷
    (call.Poll, position.Locking aim.Arrive, Some (place.WaitLock aim.Arrive)) ∷
    (call.Drop, position.Made aim.Arrive, Some place.Abandon) ∷
    (call.Drop, position.Locking aim.Arrive, Some place.CancelLock) ∷
    (call.Wait, position.Made aim.Arrive, None) ∷
    (call.Poll, position.Made aim.Check, Some (place.EnterLock aim.Check)) ∷
    (call.Poll, position.Locking aim.Check, Some (place.WaitLock aim.Check)) ∷
    (call.Drop, position.Made aim.Check, Some place.Abandon) ∷
    (call.Drop, position.Locking aim.Check, Some place.CancelLock) ∷
    (call.Wait, position.Made aim.Check, None) ∷
    (call.Wait, position.Locking aim.Arrive, None) ∷
    (call.Wait, position.Locking aim.Check, None) ∷
    (call.Poll, position.Out, None) ∷
    (call.Wait, position.Waiting, None) ∷
    (call.Poll, position.At place.Ask, None) ∷
    (call.Wait, position.At place.Ask, None) ∷
    (call.Drop, position.At place.Ask, None) ∷
    []

-- What is done at a place.
abbrev pub actions : List (Place × Action)
actions =
    (place.EnterLock aim.Arrive, act.Begin lock_call.Lock) ∷
    (place.EnterLock aim.Check, act.Begin lock_call.Lock) ∷
    (place.WaitLock aim.Arrive, act.Begin lock_call.Poll) ∷
    (place.WaitLock aim.Check, act.Begin lock_call.Poll) ∷
    (place.TakeLock aim.Arrive, act.Go) ∷
    (place.TakeLock aim.Check, act.Go) ∷
    (place.Look, act.Look) ∷
    (place.Join, act.Join) ∷
    (place.Arrive, act.Arrive) ∷
    (place.Complete, act.Complete) ∷
    (place.NotifyAll, act.NotifyAll) ∷
    (place.Check, act.Check) ∷
    (place.JoinAgain, act.Join) ∷
    (place.ReleaseLock ending.Wait, act.Begin lock_call.Release) ∷
    (place.ReleaseLock ending.Follow, act.Begin lock_call.Release) ∷
    (place.ReleaseLock ending.Lead, act.Begin lock_call.Release) ∷
    (place.ReleaseLock ending.RefuseGenerations, act.Begin lock_call.Release) ∷
    (place.ReleaseLock (ending.RefuseMemory aim.Arrive), act.Begin lock_call.Release) ∷
    (place.ReleaseLock (ending.RefuseMemory aim.Check), act.Begin lock_call.Release) ∷
    (place.ReleasingLock ending.Wait, act.Go) ∷
    (place.ReleasingLock ending.Follow, act.Go) ∷
    (place.ReleasingLock ending.Lead, act.Go) ∷
    (place.ReleasingLock ending.RefuseGenerations, act.Go) ∷
    (place.ReleasingLock (ending.RefuseMemory aim.Arrive), act.Go) ∷
    (place.ReleasingLock (ending.RefuseMemory aim.Check), act.Go) ∷
    (place.Ask, act.Ask) ∷
    (place.CancelLock, act.Begin lock_call.Cancel) ∷
    (place.CancellingLock, act.Go) ∷
    (place.CancelLeave, act.Leave) ∷
    (place.Abandon, act.Nothing) ∷
    []

-- What comes after a place whose action found this: each place, with each finding that its action can make.
abbrev pub followings : List (Place × Found × Next Place Left)
followings =
    (place.EnterLock aim.Arrive, found.Lock lock_step.More, next.Do (place.TakeLock aim.Arrive)) ∷
    (place.EnterLock aim.Arrive, found.Lock (lock_step.End ended.Pending), next.End ended.Pending (left.Outside (position.Locking aim.Arrive))) ∷
    (place.EnterLock aim.Arrive, found.Lock (lock_step.End (ended.Refused refusal.Memory)), next.End (ended.Refused refusal.Memory) (left.Outside (position.Made aim.Arrive))) ∷
    (place.EnterLock aim.Arrive, found.Lock (lock_step.End (ended.Refused refusal.Starved)), next.End (ended.Refused refusal.Starved) (left.Outside (position.Made aim.Arrive))) ∷
    (place.EnterLock aim.Check, found.Lock lock_step.More, next.Do (place.TakeLock aim.Check)) ∷
    (place.EnterLock aim.Check, found.Lock (lock_step.End ended.Pending), next.End ended.Pending (left.Outside (position.Locking aim.Check))) ∷
    (place.EnterLock aim.Check, found.Lock (lock_step.End (ended.Refused refusal.Memory)), next.End (ended.Refused refusal.Memory) (left.Outside (position.Made aim.Check))) ∷
    (place.EnterLock aim.Check, found.Lock (lock_step.End (ended.Refused refusal.Starved)), next.End (ended.Refused refusal.Starved) (left.Outside (position.Made aim.Check))) ∷
    (place.EnterLock aim.Arrive, found.Lock (lock_step.End ended.Got), next.Do place.Look) ∷
    (place.EnterLock aim.Check, found.Lock (lock_step.End ended.Got), next.Do place.Check) ∷
    (place.WaitLock aim.Arrive, found.Lock lock_step.More, next.Do (place.TakeLock aim.Arrive)) ∷
    (place.WaitLock aim.Arrive, found.Lock (lock_step.End ended.Pending), next.End ended.Pending (left.Outside (position.Locking aim.Arrive))) ∷
    (place.WaitLock aim.Arrive, found.Lock (lock_step.End (ended.Refused refusal.Memory)), next.End (ended.Refused refusal.Memory) (left.Outside (position.Made aim.Arrive))) ∷
    (place.WaitLock aim.Arrive, found.Lock (lock_step.End (ended.Refused refusal.Starved)), next.End (ended.Refused refusal.Starved) (left.Outside (position.Made aim.Arrive))) ∷
    (place.WaitLock aim.Check, found.Lock lock_step.More, next.Do (place.TakeLock aim.Check)) ∷
    (place.WaitLock aim.Check, found.Lock (lock_step.End ended.Pending), next.End ended.Pending (left.Outside (position.Locking aim.Check))) ∷
    (place.WaitLock aim.Check, found.Lock (lock_step.End (ended.Refused refusal.Memory)), next.End (ended.Refused refusal.Memory) (left.Outside (position.Made aim.Check))) ∷
    (place.WaitLock aim.Check, found.Lock (lock_step.End (ended.Refused refusal.Starved)), next.End (ended.Refused refusal.Starved) (left.Outside (position.Made aim.Check))) ∷
    (place.WaitLock aim.Arrive, found.Lock (lock_step.End ended.Got), next.Do place.Look) ∷
    (place.WaitLock aim.Check, found.Lock (lock_step.End ended.Got), next.Do place.Check) ∷
    (place.TakeLock aim.Arrive, found.Lock lock_step.More, next.Do (place.TakeLock aim.Arrive)) ∷
    (place.TakeLock aim.Arrive, found.Lock (lock_step.End ended.Pending), next.End ended.Pending (left.Outside (position.Locking aim.Arrive))) ∷
    (place.TakeLock aim.Arrive, found.Lock (lock_step.End (ended.Refused refusal.Memory)), next.End (ended.Refused refusal.Memory) (left.Outside (position.Made aim.Arrive))) ∷
    (place.TakeLock aim.Arrive, found.Lock (lock_step.End (ended.Refused refusal.Starved)), next.End (ended.Refused refusal.Starved) (left.Outside (position.Made aim.Arrive))) ∷
    (place.TakeLock aim.Check, found.Lock lock_step.More, next.Do (place.TakeLock aim.Check)) ∷
    (place.TakeLock aim.Check, found.Lock (lock_step.End ended.Pending), next.End ended.Pending (left.Outside (position.Locking aim.Check))) ∷
    (place.TakeLock aim.Check, found.Lock (lock_step.End (ended.Refused refusal.Memory)), next.End (ended.Refused refusal.Memory) (left.Outside (position.Made aim.Check))) ∷
    (place.TakeLock aim.Check, found.Lock (lock_step.End (ended.Refused refusal.Starved)), next.End (ended.Refused refusal.Starved) (left.Outside (position.Made aim.Check))) ∷
    (place.TakeLock aim.Arrive, found.Lock (lock_step.End ended.Got), next.Do place.Look) ∷
    (place.TakeLock aim.Check, found.Lock (lock_step.End ended.Got), next.Do place.Check) ∷
    (place.Look, found.MustWait, next.Do place.Join) ∷
    (place.Look, found.Leads, next.Do place.Complete) ∷
    (place.Look, found.Past, next.Do (place.ReleaseLock ending.RefuseGenerations)) ∷
    (place.Join, found.Done, next.Do place.Arrive) ∷
    (place.Join, found.NoMemory, next.Do (place.ReleaseLock (ending.RefuseMemory aim.Arrive))) ∷
    (place.Arrive, found.Done, next.Do (place.ReleaseLock ending.Wait)) ∷
    (place.Complete, found.Done, next.Do place.NotifyAll) ∷
    (place.NotifyAll, found.Done, next.Do (place.ReleaseLock ending.Lead)) ∷
    (place.Check, found.Finished, next.Do (place.ReleaseLock ending.Follow)) ∷
    (place.Check, found.Unfinished, next.Do place.JoinAgain) ∷
    (place.JoinAgain, found.Done, next.Do (place.ReleaseLock ending.Wait)) ∷
    (place.JoinAgain, found.NoMemory, next.Do (place.ReleaseLock (ending.RefuseMemory aim.Check))) ∷
    (place.ReleaseLock ending.Wait, found.Lock lock_step.More, next.Do (place.ReleasingLock ending.Wait)) ∷
    (place.ReleaseLock ending.Follow, found.Lock lock_step.More, next.Do (place.ReleasingLock ending.Follow)) ∷
    (place.ReleaseLock ending.Lead, found.Lock lock_step.More, next.Do (place.ReleasingLock ending.Lead)) ∷
    (place.ReleaseLock ending.RefuseGenerations, found.Lock lock_step.More, next.Do (place.ReleasingLock ending.RefuseGenerations)) ∷
    (place.ReleaseLock (ending.RefuseMemory aim.Arrive), found.Lock lock_step.More, next.Do (place.ReleasingLock (ending.RefuseMemory aim.Arrive))) ∷
    (place.ReleaseLock (ending.RefuseMemory aim.Check), found.Lock lock_step.More, next.Do (place.ReleasingLock (ending.RefuseMemory aim.Check))) ∷
    (place.ReleasingLock ending.Wait, found.Lock lock_step.More, next.Do (place.ReleasingLock ending.Wait)) ∷
    (place.ReleasingLock ending.Follow, found.Lock lock_step.More, next.Do (place.ReleasingLock ending.Follow)) ∷
    (place.ReleasingLock ending.Lead, found.Lock lock_step.More, next.Do (place.ReleasingLock ending.Lead)) ∷
    (place.ReleasingLock ending.RefuseGenerations, found.Lock lock_step.More, next.Do (place.ReleasingLock ending.RefuseGenerations)) ∷
    (place.ReleasingLock (ending.RefuseMemory aim.Arrive), found.Lock lock_step.More, next.Do (place.ReleasingLock (ending.RefuseMemory aim.Arrive))) ∷
    (place.ReleasingLock (ending.RefuseMemory aim.Check), found.Lock lock_step.More, next.Do (place.ReleasingLock (ending.RefuseMemory aim.Check))) ∷
    (place.ReleaseLock ending.Follow, found.Lock (lock_step.End ended.GivenBack), next.End ended.Got (left.Ready false)) ∷
    (place.ReleaseLock ending.Lead, found.Lock (lock_step.End ended.GivenBack), next.End ended.Got (left.Ready true)) ∷
    (place.ReleaseLock ending.Wait, found.Lock (lock_step.End ended.GivenBack), next.Do place.Ask) ∷
    (place.ReleaseLock ending.RefuseGenerations, found.Lock (lock_step.End ended.GivenBack), next.End (ended.Refused refusal.Generations) (left.Outside (position.Made aim.Arrive))) ∷
    (place.ReleaseLock (ending.RefuseMemory aim.Arrive), found.Lock (lock_step.End ended.GivenBack), next.End (ended.Refused refusal.Memory) (left.Outside (position.Made aim.Arrive))) ∷
    (place.ReleaseLock (ending.RefuseMemory aim.Check), found.Lock (lock_step.End ended.GivenBack), next.End (ended.Refused refusal.Memory) (left.Outside (position.Made aim.Check))) ∷
    (place.ReleasingLock ending.Follow, found.Lock (lock_step.End ended.GivenBack), next.End ended.Got (left.Ready false)) ∷
    (place.ReleasingLock ending.Lead, found.Lock (lock_step.End ended.GivenBack), next.End ended.Got (left.Ready true)) ∷
    (place.ReleasingLock ending.Wait, found.Lock (lock_step.End ended.GivenBack), next.Do place.Ask) ∷
    (place.ReleasingLock ending.RefuseGenerations, found.Lock (lock_step.End ended.GivenBack), next.End (ended.Refused refusal.Generations) (left.Outside (position.Made aim.Arrive))) ∷
    (place.ReleasingLock (ending.RefuseMemory aim.Arrive), found.Lock (lock_step.End ended.GivenBack), next.End (ended.Refused refusal.Memory) (left.Outside (position.Made aim.Arrive))) ∷
    (place.ReleasingLock (ending.RefuseMemory aim.Check), found.Lock (lock_step.End ended.GivenBack), next.End (ended.Refused refusal.Memory) (left.Outside (position.Made aim.Check))) ∷
    (place.Ask, found.Yes, next.Do (place.EnterLock aim.Check)) ∷
    (place.Ask, found.No, next.End ended.Pending (left.Outside position.Waiting)) ∷
    (place.CancelLock, found.Lock lock_step.More, next.Do place.CancellingLock) ∷
    (place.CancelLock, found.Lock (lock_step.End ended.GivenBack), next.End ended.GivenBack (left.Outside position.Out)) ∷
    (place.CancellingLock, found.Lock lock_step.More, next.Do place.CancellingLock) ∷
    (place.CancellingLock, found.Lock (lock_step.End ended.GivenBack), next.End ended.GivenBack (left.Outside position.Out)) ∷
    (place.CancelLeave, found.Done, next.End ended.GivenBack (left.Outside position.Out)) ∷
    (place.Abandon, found.Done, next.End ended.GivenBack (left.Outside position.Out)) ∷
    []
