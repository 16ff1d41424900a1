-- The places of a read-write lock's programs, row by row.
use Rattle.std.specs.Prelude.{true, false, List, [], ◌∷◌, Option, Some, None}
use Rattle.lock_program.specs.declared.end.End.TheVariants as ended
use Rattle.world_base.specs.declared.moves.Call.TheVariants as call
use Rattle.world_base.specs.declared.moves.Call.{Call}
use Rattle.lock_program.specs.declared.refusal.Refusal.TheVariants as refusal
use Rattle.lock_program.specs.declared.mutex.Step.TheVariants as lock_step
use Rattle.lock_program.specs.declared.mutex.LockCall.TheVariants as lock_call
use Rattle.sync_program.specs.declared.rwlock.Action.TheVariants as act
use Rattle.sync_program.specs.declared.rwlock.Action.{Action}
use Rattle.sync_program.specs.declared.rwlock.Ending.TheVariants as ending
use Rattle.sync_program.specs.declared.rwlock.Found.TheVariants as found
use Rattle.sync_program.specs.declared.rwlock.Found.{Found}
use Rattle.lock_program.specs.declared.end.Next.TheVariants as next
use Rattle.lock_program.specs.declared.end.Next.{Next}
use Rattle.sync_program.specs.declared.rwlock.Place.TheVariants as place
use Rattle.sync_program.specs.declared.rwlock.Place.{Place}
use Rattle.sync_program.specs.declared.rwlock.Purpose.TheVariants as purpose
use Rattle.sync_program.specs.declared.rwlock.Wanted.TheVariants as wanted

-- Where a call begins for a party that stands there; None where it can't.
abbrev pub beginnings : List (Call × Place × Option Place)
beginnings =
    (call.Read, place.Out, Some (place.EnterRead false)) ∷
    (call.UpgradableRead, place.Out, Some (place.EnterTurn purpose.UpgradableRead)) ∷
    (call.Write, place.Out, Some (place.EnterTurn purpose.Write)) ∷
    (call.TryRead, place.Out, Some place.TryRead) ∷
    (call.TryUpgradableRead, place.Out, Some (place.TryTurn purpose.UpgradableRead)) ∷
    (call.TryWrite, place.Out, Some (place.TryTurn purpose.Write)) ∷
    (call.Poll, place.Made wanted.Read, Some (place.EnterRead false)) ∷
    (call.Poll, place.Made wanted.UpgradableRead, Some (place.EnterTurn purpose.UpgradableRead)) ∷
    (call.Poll, place.Made wanted.Write, Some (place.EnterTurn purpose.Write)) ∷
    (call.Poll, place.AskNoWriter, Some place.AskNoWriter) ∷
    (call.Poll, place.WaitTurn purpose.UpgradableRead, Some (place.WaitTurn purpose.UpgradableRead)) ∷
    (call.Drop, place.WaitTurn purpose.UpgradableRead, Some place.CancelTurn) ∷
    (call.Poll, place.WaitTurn purpose.Write, Some (place.WaitTurn purpose.Write)) ∷
    (call.Drop, place.WaitTurn purpose.Write, Some place.CancelTurn) ∷
    (call.Poll, place.AwaitNoReaders false, Some (place.AwaitNoReaders false)) ∷
    (call.Drop, place.AwaitNoReaders false, Some place.CancelAwait) ∷
    (call.Poll, place.AwaitNoReaders true, Some (place.AwaitNoReaders true)) ∷
    (call.Drop, place.AwaitNoReaders true, Some place.CancelAwait) ∷
    (call.Poll, place.LookUnlisted true, Some (place.LookUnlisted true)) ∷
    (call.Drop, place.LookUnlisted true, Some (place.Unmark false)) ∷
    (call.Drop, place.Made wanted.Read, Some place.Out) ∷
    (call.Drop, place.Made wanted.UpgradableRead, Some place.Out) ∷
    (call.Drop, place.Made wanted.Write, Some place.Out) ∷
    (call.Drop, place.AskNoWriter, Some place.CancelRead) ∷
    (call.Drop, place.Reading, Some place.DropRead) ∷
    (call.Drop, place.Upgradable, Some place.DropUpgradable) ∷
    (call.Drop, place.Writing, Some place.DropWrite) ∷
    (call.Upgrade, place.Upgradable, Some place.Upgrade) ∷
    (call.TryUpgrade, place.Upgradable, Some place.TryUpgrade) ∷
    (call.Downgrade, place.Upgradable, Some (place.ReleaseTurn ending.Reading)) ∷
    (call.Downgrade, place.Writing, Some (place.Down false)) ∷
    (call.DowngradeToUpgradable, place.Writing, Some (place.Down true)) ∷
    (call.Poll, place.LookUnlisted false, None) ∷
    (call.Poll, place.Out, None) ∷
    (call.Read, place.Reading, None) ∷
    (call.Upgrade, place.LookUnlisted false, None) ∷
    (call.DowngradeToUpgradable, place.Upgradable, None) ∷
    []

-- What is done at a place.
abbrev pub actions : List (Place × Action)
actions =
    (place.Out, act.Nothing) ∷
    (place.Made wanted.Read, act.Nothing) ∷
    (place.Made wanted.UpgradableRead, act.Nothing) ∷
    (place.Made wanted.Write, act.Nothing) ∷
    (place.Reading, act.Nothing) ∷
    (place.Upgradable, act.Nothing) ∷
    (place.Writing, act.Nothing) ∷
    (place.EnterRead false, act.Read) ∷
    (place.EnterRead true, act.Read) ∷
    (place.JoinNoWriter false, act.JoinNoWriter) ∷
    (place.JoinNoWriter true, act.JoinNoWriter) ∷
    (place.LookNoWriter false, act.Read) ∷
    (place.LookNoWriter true, act.Read) ∷
    (place.AskNoWriter, act.AskNoWriter) ∷
    (place.PassOn, act.NotifyNoWriter) ∷
    (place.LeaveNoWriter, act.LeaveNoWriter) ∷
    (place.RefuseLeave false, act.LeaveNoWriter) ∷
    (place.RefuseLeave true, act.LeaveNoWriter) ∷
    (place.RefuseNotify refusal.Memory, act.NotifyNoWriter) ∷
    (place.RefuseNotify refusal.Readers, act.NotifyNoWriter) ∷
    (place.CancelRead, act.LeaveNoWriter) ∷
    (place.TryRead, act.Read) ∷
    (place.EnterTurn purpose.UpgradableRead, act.Begin lock_call.Lock) ∷
    (place.EnterTurn purpose.Write, act.Begin lock_call.Lock) ∷
    (place.WaitTurn purpose.UpgradableRead, act.Begin lock_call.Poll) ∷
    (place.WaitTurn purpose.Write, act.Begin lock_call.Poll) ∷
    (place.TakeTurn purpose.UpgradableRead, act.Go) ∷
    (place.TakeTurn purpose.Write, act.Go) ∷
    (place.TryTurn purpose.UpgradableRead, act.Begin lock_call.Try) ∷
    (place.TryTurn purpose.Write, act.Begin lock_call.Try) ∷
    (place.CancelTurn, act.Begin lock_call.Cancel) ∷
    (place.CancellingTurn, act.Go) ∷
    (place.ReleaseTurn ending.GivenBack, act.Begin lock_call.Release) ∷
    (place.ReleaseTurn (ending.NotFree purpose.UpgradableRead), act.Begin lock_call.Release) ∷
    (place.ReleaseTurn (ending.NotFree purpose.Write), act.Begin lock_call.Release) ∷
    (place.ReleaseTurn ending.RefuseReaders, act.Begin lock_call.Release) ∷
    (place.ReleaseTurn ending.RefuseMemory, act.Begin lock_call.Release) ∷
    (place.ReleaseTurn ending.Reading, act.Begin lock_call.Release) ∷
    (place.ReleaseTurn ending.NotifyReaders, act.Begin lock_call.Release) ∷
    (place.ReleasingTurn ending.GivenBack, act.Go) ∷
    (place.ReleasingTurn (ending.NotFree purpose.UpgradableRead), act.Go) ∷
    (place.ReleasingTurn (ending.NotFree purpose.Write), act.Go) ∷
    (place.ReleasingTurn ending.RefuseReaders, act.Go) ∷
    (place.ReleasingTurn ending.RefuseMemory, act.Go) ∷
    (place.ReleasingTurn ending.Reading, act.Go) ∷
    (place.ReleasingTurn ending.NotifyReaders, act.Go) ∷
    (place.Add false, act.Add) ∷
    (place.Add true, act.Add) ∷
    (place.Mark, act.Mark) ∷
    (place.TryWrite, act.TryWrite) ∷
    (place.JoinNoReaders false, act.JoinNoReaders) ∷
    (place.JoinNoReaders true, act.JoinNoReaders) ∷
    (place.LookNoReaders false, act.Load) ∷
    (place.LookNoReaders true, act.Load) ∷
    (place.AwaitNoReaders false, act.Load) ∷
    (place.AwaitNoReaders true, act.Load) ∷
    (place.AskNoReaders false, act.AskNoReaders) ∷
    (place.AskNoReaders true, act.AskNoReaders) ∷
    (place.LookUnlisted false, act.Load) ∷
    (place.LookUnlisted true, act.Load) ∷
    (place.LeaveNoReaders, act.LeaveNoReaders) ∷
    (place.Upgrade, act.Upgrade) ∷
    (place.TryUpgrade, act.TryUpgrade) ∷
    (place.DropRead, act.Off) ∷
    (place.DropReadNotify, act.NotifyNoReaders) ∷
    (place.DropUpgradable, act.Off) ∷
    (place.DropUpgradableNotify, act.NotifyNoReaders) ∷
    (place.DropWrite, act.Unmark) ∷
    (place.UnmarkNotify false, act.NotifyNoWriter) ∷
    (place.UnmarkNotify true, act.NotifyNoWriter) ∷
    (place.CancelAwait, act.LeaveNoReaders) ∷
    (place.Unmark false, act.Unmark) ∷
    (place.Unmark true, act.Unmark) ∷
    (place.Down false, act.Down) ∷
    (place.Down true, act.Down) ∷
    (place.DowngradeNotify, act.NotifyNoWriter) ∷
    (place.DownNotify, act.NotifyNoWriter) ∷
    []

-- What comes after a place whose action found this.
abbrev pub followings : List (Place × Found × Next Place Place)
followings =
    (place.Out, found.Done, next.End ended.GivenBack place.Out) ∷
    (place.Made wanted.Read, found.Done, next.End ended.GivenBack place.Out) ∷
    (place.Made wanted.UpgradableRead, found.Done, next.End ended.GivenBack place.Out) ∷
    (place.Made wanted.Write, found.Done, next.End ended.GivenBack place.Out) ∷
    (place.Reading, found.Done, next.End ended.Got place.Reading) ∷
    (place.Upgradable, found.Done, next.End ended.Got place.Upgradable) ∷
    (place.Writing, found.Done, next.End ended.Got place.Writing) ∷
    (place.EnterRead false, found.Done, next.End ended.Got place.Reading) ∷
    (place.EnterRead false, found.Writer, next.Do (place.JoinNoWriter false)) ∷
    (place.EnterRead true, found.Done, next.End ended.Got place.Reading) ∷
    (place.EnterRead true, found.Writer, next.Do (place.JoinNoWriter true)) ∷
    (place.EnterRead false, found.Full, next.End (ended.Refused refusal.Readers) (place.Made wanted.Read)) ∷
    (place.EnterRead true, found.Full, next.Do (place.RefuseNotify refusal.Readers)) ∷
    (place.JoinNoWriter false, found.Done, next.Do (place.LookNoWriter false)) ∷
    (place.JoinNoWriter true, found.Done, next.Do (place.LookNoWriter true)) ∷
    (place.JoinNoWriter false, found.NoMemory, next.End (ended.Refused refusal.Memory) (place.Made wanted.Read)) ∷
    (place.JoinNoWriter true, found.NoMemory, next.Do (place.RefuseNotify refusal.Memory)) ∷
    (place.LookNoWriter false, found.Writer, next.Do place.AskNoWriter) ∷
    (place.LookNoWriter false, found.Done, next.Do place.LeaveNoWriter) ∷
    (place.LookNoWriter false, found.Full, next.Do (place.RefuseLeave false)) ∷
    (place.LookNoWriter true, found.Writer, next.Do place.AskNoWriter) ∷
    (place.LookNoWriter true, found.Done, next.Do place.LeaveNoWriter) ∷
    (place.LookNoWriter true, found.Full, next.Do (place.RefuseLeave true)) ∷
    (place.AskNoWriter, found.No, next.End ended.Pending place.AskNoWriter) ∷
    (place.AskNoWriter, found.Yes, next.Do place.PassOn) ∷
    (place.PassOn, found.Done, next.Do (place.EnterRead true)) ∷
    (place.LeaveNoWriter, found.Done, next.End ended.Got place.Reading) ∷
    (place.RefuseLeave false, found.Done, next.End (ended.Refused refusal.Readers) (place.Made wanted.Read)) ∷
    (place.RefuseLeave true, found.Done, next.Do (place.RefuseNotify refusal.Readers)) ∷
    (place.RefuseNotify refusal.Readers, found.Done, next.End (ended.Refused refusal.Readers) (place.Made wanted.Read)) ∷
    (place.RefuseNotify refusal.Memory, found.Done, next.End (ended.Refused refusal.Memory) (place.Made wanted.Read)) ∷
    (place.CancelRead, found.Done, next.End ended.GivenBack place.Out) ∷
    (place.TryRead, found.Done, next.End ended.Granted place.Reading) ∷
    (place.TryRead, found.Writer, next.End ended.NotFree place.Out) ∷
    (place.TryRead, found.Full, next.End ended.NotFree place.Out) ∷
    (place.EnterTurn purpose.UpgradableRead, found.Turn lock_step.More, next.Do (place.TakeTurn purpose.UpgradableRead)) ∷
    (place.EnterTurn purpose.UpgradableRead, found.Turn (lock_step.End ended.Got), next.Do (place.Add false)) ∷
    (place.EnterTurn purpose.UpgradableRead, found.Turn (lock_step.End ended.Pending), next.End ended.Pending (place.WaitTurn purpose.UpgradableRead)) ∷
    (place.EnterTurn purpose.UpgradableRead, found.Turn (lock_step.End (ended.Refused refusal.Starved)), next.End (ended.Refused refusal.Starved) (place.Made wanted.UpgradableRead)) ∷
    (place.EnterTurn purpose.Write, found.Turn lock_step.More, next.Do (place.TakeTurn purpose.Write)) ∷
    (place.EnterTurn purpose.Write, found.Turn (lock_step.End ended.Got), next.Do place.Mark) ∷
    (place.EnterTurn purpose.Write, found.Turn (lock_step.End ended.Pending), next.End ended.Pending (place.WaitTurn purpose.Write)) ∷
    (place.EnterTurn purpose.Write, found.Turn (lock_step.End (ended.Refused refusal.Starved)), next.End (ended.Refused refusal.Starved) (place.Made wanted.Write)) ∷
    (place.WaitTurn purpose.UpgradableRead, found.Turn lock_step.More, next.Do (place.TakeTurn purpose.UpgradableRead)) ∷
    (place.WaitTurn purpose.UpgradableRead, found.Turn (lock_step.End ended.Got), next.Do (place.Add false)) ∷
    (place.WaitTurn purpose.UpgradableRead, found.Turn (lock_step.End ended.Pending), next.End ended.Pending (place.WaitTurn purpose.UpgradableRead)) ∷
    (place.WaitTurn purpose.UpgradableRead, found.Turn (lock_step.End (ended.Refused refusal.Starved)), next.End (ended.Refused refusal.Starved) (place.Made wanted.UpgradableRead)) ∷
    (place.WaitTurn purpose.Write, found.Turn lock_step.More, next.Do (place.TakeTurn purpose.Write)) ∷
    (place.WaitTurn purpose.Write, found.Turn (lock_step.End ended.Got), next.Do place.Mark) ∷
    (place.WaitTurn purpose.Write, found.Turn (lock_step.End ended.Pending), next.End ended.Pending (place.WaitTurn purpose.Write)) ∷
    (place.WaitTurn purpose.Write, found.Turn (lock_step.End (ended.Refused refusal.Starved)), next.End (ended.Refused refusal.Starved) (place.Made wanted.Write)) ∷
    (place.TakeTurn purpose.UpgradableRead, found.Turn lock_step.More, next.Do (place.TakeTurn purpose.UpgradableRead)) ∷
    (place.TakeTurn purpose.UpgradableRead, found.Turn (lock_step.End ended.Got), next.Do (place.Add false)) ∷
    (place.TakeTurn purpose.UpgradableRead, found.Turn (lock_step.End ended.Pending), next.End ended.Pending (place.WaitTurn purpose.UpgradableRead)) ∷
    (place.TakeTurn purpose.UpgradableRead, found.Turn (lock_step.End (ended.Refused refusal.Starved)), next.End (ended.Refused refusal.Starved) (place.Made wanted.UpgradableRead)) ∷
    (place.TakeTurn purpose.UpgradableRead, found.Turn (lock_step.End (ended.Refused refusal.Memory)), next.End (ended.Refused refusal.Memory) (place.Made wanted.UpgradableRead)) ∷
    (place.TakeTurn purpose.Write, found.Turn lock_step.More, next.Do (place.TakeTurn purpose.Write)) ∷
    (place.TakeTurn purpose.Write, found.Turn (lock_step.End ended.Got), next.Do place.Mark) ∷
    (place.TakeTurn purpose.Write, found.Turn (lock_step.End ended.Pending), next.End ended.Pending (place.WaitTurn purpose.Write)) ∷
    (place.TakeTurn purpose.Write, found.Turn (lock_step.End (ended.Refused refusal.Starved)), next.End (ended.Refused refusal.Starved) (place.Made wanted.Write)) ∷
    (place.TakeTurn purpose.Write, found.Turn (lock_step.End (ended.Refused refusal.Memory)), next.End (ended.Refused refusal.Memory) (place.Made wanted.Write)) ∷
    (place.TryTurn purpose.UpgradableRead, found.Turn (lock_step.End ended.Got), next.Do (place.Add true)) ∷
    (place.TryTurn purpose.UpgradableRead, found.Turn (lock_step.End ended.NotFree), next.End ended.NotFree place.Out) ∷
    (place.TryTurn purpose.Write, found.Turn (lock_step.End ended.Got), next.Do place.TryWrite) ∷
    (place.TryTurn purpose.Write, found.Turn (lock_step.End ended.NotFree), next.End ended.NotFree place.Out) ∷
    (place.CancelTurn, found.Turn lock_step.More, next.Do place.CancellingTurn) ∷
    (place.CancelTurn, found.Turn (lock_step.End ended.GivenBack), next.End ended.GivenBack place.Out) ∷
    (place.CancellingTurn, found.Turn lock_step.More, next.Do place.CancellingTurn) ∷
    (place.CancellingTurn, found.Turn (lock_step.End ended.GivenBack), next.End ended.GivenBack place.Out) ∷
    (place.ReleaseTurn ending.GivenBack, found.Turn lock_step.More, next.Do (place.ReleasingTurn ending.GivenBack)) ∷
    (place.ReleaseTurn ending.GivenBack, found.Turn (lock_step.End ended.GivenBack), next.End ended.GivenBack place.Out) ∷
    (place.ReleaseTurn (ending.NotFree purpose.UpgradableRead), found.Turn lock_step.More, next.Do (place.ReleasingTurn (ending.NotFree purpose.UpgradableRead))) ∷
    (place.ReleaseTurn (ending.NotFree purpose.UpgradableRead), found.Turn (lock_step.End ended.GivenBack), next.End ended.NotFree place.Out) ∷
    (place.ReleaseTurn (ending.NotFree purpose.Write), found.Turn lock_step.More, next.Do (place.ReleasingTurn (ending.NotFree purpose.Write))) ∷
    (place.ReleaseTurn (ending.NotFree purpose.Write), found.Turn (lock_step.End ended.GivenBack), next.End ended.NotFree place.Out) ∷
    (place.ReleaseTurn ending.RefuseReaders, found.Turn lock_step.More, next.Do (place.ReleasingTurn ending.RefuseReaders)) ∷
    (place.ReleaseTurn ending.RefuseReaders, found.Turn (lock_step.End ended.GivenBack), next.End (ended.Refused refusal.Readers) (place.Made wanted.UpgradableRead)) ∷
    (place.ReleaseTurn ending.RefuseMemory, found.Turn lock_step.More, next.Do (place.ReleasingTurn ending.RefuseMemory)) ∷
    (place.ReleaseTurn ending.RefuseMemory, found.Turn (lock_step.End ended.GivenBack), next.End (ended.Refused refusal.Memory) (place.Made wanted.Write)) ∷
    (place.ReleaseTurn ending.Reading, found.Turn lock_step.More, next.Do (place.ReleasingTurn ending.Reading)) ∷
    (place.ReleaseTurn ending.Reading, found.Turn (lock_step.End ended.GivenBack), next.End ended.GivenBack place.Reading) ∷
    (place.ReleaseTurn ending.NotifyReaders, found.Turn lock_step.More, next.Do (place.ReleasingTurn ending.NotifyReaders)) ∷
    (place.ReleasingTurn ending.GivenBack, found.Turn (lock_step.End ended.GivenBack), next.End ended.GivenBack place.Out) ∷
    (place.ReleasingTurn (ending.NotFree purpose.UpgradableRead), found.Turn (lock_step.End ended.GivenBack), next.End ended.NotFree place.Out) ∷
    (place.ReleasingTurn (ending.NotFree purpose.Write), found.Turn (lock_step.End ended.GivenBack), next.End ended.NotFree place.Out) ∷
    (place.ReleasingTurn ending.RefuseReaders, found.Turn (lock_step.End ended.GivenBack), next.End (ended.Refused refusal.Readers) (place.Made wanted.UpgradableRead)) ∷
    (place.ReleasingTurn ending.RefuseMemory, found.Turn (lock_step.End ended.GivenBack), next.End (ended.Refused refusal.Memory) (place.Made wanted.Write)) ∷
    (place.ReleasingTurn ending.Reading, found.Turn (lock_step.End ended.GivenBack), next.End ended.GivenBack place.Reading) ∷
    (place.ReleasingTurn ending.NotifyReaders, found.Turn (lock_step.End ended.GivenBack), next.Do place.DowngradeNotify) ∷
    (place.Add false, found.Done, next.End ended.Got place.Upgradable) ∷
    (place.Add true, found.Done, next.End ended.Granted place.Upgradable) ∷
    (place.Add false, found.Full, next.Do (place.ReleaseTurn ending.RefuseReaders)) ∷
    (place.Add true, found.Full, next.Do (place.ReleaseTurn (ending.NotFree purpose.UpgradableRead))) ∷
    (place.TryUpgrade, found.Done, next.End ended.Granted place.Writing) ∷
    (place.TryUpgrade, found.NotFree, next.End ended.NotFree place.Upgradable) ∷
    (place.Upgrade, found.Done, next.End ended.Waiting (place.LookUnlisted true)) ∷
    (place.Mark, found.NoneLeft, next.End ended.Got place.Writing) ∷
    (place.Mark, found.SomeLeft, next.Do (place.JoinNoReaders false)) ∷
    (place.TryWrite, found.Done, next.End ended.Granted place.Writing) ∷
    (place.TryWrite, found.NotFree, next.Do (place.ReleaseTurn (ending.NotFree purpose.Write))) ∷
    (place.JoinNoReaders true, found.NoMemory, next.End (ended.Refused refusal.Memory) (place.LookUnlisted true)) ∷
    (place.JoinNoReaders false, found.NoMemory, next.Do (place.Unmark true)) ∷
    (place.JoinNoReaders false, found.Done, next.Do (place.LookNoReaders false)) ∷
    (place.JoinNoReaders true, found.Done, next.Do (place.LookNoReaders true)) ∷
    (place.LookNoReaders false, found.NoneLeft, next.Do place.LeaveNoReaders) ∷
    (place.LookNoReaders false, found.SomeLeft, next.Do (place.AskNoReaders false)) ∷
    (place.LookNoReaders true, found.NoneLeft, next.Do place.LeaveNoReaders) ∷
    (place.LookNoReaders true, found.SomeLeft, next.Do (place.AskNoReaders true)) ∷
    (place.AskNoReaders false, found.No, next.End ended.Pending (place.AwaitNoReaders false)) ∷
    (place.AskNoReaders false, found.Yes, next.Do (place.LookUnlisted false)) ∷
    (place.AskNoReaders true, found.No, next.End ended.Pending (place.AwaitNoReaders true)) ∷
    (place.AskNoReaders true, found.Yes, next.Do (place.LookUnlisted true)) ∷
    (place.AwaitNoReaders false, found.NoneLeft, next.Do place.LeaveNoReaders) ∷
    (place.AwaitNoReaders false, found.SomeLeft, next.Do (place.AskNoReaders false)) ∷
    (place.AwaitNoReaders true, found.NoneLeft, next.Do place.LeaveNoReaders) ∷
    (place.AwaitNoReaders true, found.SomeLeft, next.Do (place.AskNoReaders true)) ∷
    (place.LookUnlisted false, found.NoneLeft, next.End ended.Got place.Writing) ∷
    (place.LookUnlisted false, found.SomeLeft, next.Do (place.JoinNoReaders false)) ∷
    (place.LookUnlisted true, found.NoneLeft, next.End ended.Got place.Writing) ∷
    (place.LookUnlisted true, found.SomeLeft, next.Do (place.JoinNoReaders true)) ∷
    (place.LeaveNoReaders, found.Done, next.End ended.Got place.Writing) ∷
    (place.DropRead, found.NoneLeft, next.Do place.DropReadNotify) ∷
    (place.DropRead, found.SomeLeft, next.End ended.GivenBack place.Out) ∷
    (place.DropReadNotify, found.Done, next.End ended.GivenBack place.Out) ∷
    (place.DropUpgradable, found.NoneLeft, next.Do place.DropUpgradableNotify) ∷
    (place.DropUpgradable, found.SomeLeft, next.Do (place.ReleaseTurn ending.GivenBack)) ∷
    (place.DropUpgradableNotify, found.Done, next.Do (place.ReleaseTurn ending.GivenBack)) ∷
    (place.DropWrite, found.Done, next.Do (place.UnmarkNotify false)) ∷
    (place.CancelAwait, found.Done, next.Do (place.Unmark false)) ∷
    (place.Unmark true, found.Done, next.Do (place.UnmarkNotify true)) ∷
    (place.Unmark false, found.Done, next.Do (place.UnmarkNotify false)) ∷
    (place.UnmarkNotify true, found.Done, next.Do (place.ReleaseTurn ending.RefuseMemory)) ∷
    (place.UnmarkNotify false, found.Done, next.Do (place.ReleaseTurn ending.GivenBack)) ∷
    (place.Down false, found.Done, next.Do (place.ReleaseTurn ending.NotifyReaders)) ∷
    (place.Down true, found.Done, next.Do place.DownNotify) ∷
    (place.DownNotify, found.Done, next.End ended.GivenBack place.Upgradable) ∷
    (place.DowngradeNotify, found.Done, next.End ended.GivenBack place.Reading) ∷
    []
