-- The places of a once-cell's programs, row by row.
use Rattle.std.specs.Prelude.{true, false, List, [], ◌∷◌, Option, Some, None}
use Rattle.sync_program.specs.declared.once_cell.Action.TheVariants as act
use Rattle.world_once_cell.specs.program.Program.{Action}
use Rattle.sync_program.specs.declared.once_cell.Found.TheVariants as found
use Rattle.world_once_cell.specs.program.Program.{Found}
use Rattle.sync_program.specs.declared.once_cell.ListName.TheVariants as list
use Rattle.sync_program.specs.declared.once_cell.Maker.TheVariants as maker
use Rattle.lock_program.specs.declared.end.Next.TheVariants as next
use Rattle.world_once_cell.specs.program.Program.{Next}
use Rattle.sync_program.specs.declared.once_cell.Place.TheVariants as place
use Rattle.world_once_cell.specs.program.Program.{Place}
use Rattle.sync_program.specs.declared.once_cell.Position.TheVariants as position
use Rattle.world_once_cell.specs.program.Program.{Position}
use Rattle.lock_program.specs.declared.end.End.TheVariants as ended
use Rattle.world_base.specs.declared.moves.Call.TheVariants as call
use Rattle.world_base.specs.declared.moves.Call.{Call}
use Rattle.sync_program.specs.declared.once_cell.Got.TheVariants as got
use Rattle.sync_program.specs.declared.once_cell.Left.TheVariants as left
use Rattle.lock_program.specs.declared.refusal.Refusal.TheVariants as refusal

-- Where a call begins for a party that stands there; None where it can't.
abbrev pub beginnings : List (Call × Position × Option Place)
beginnings =
    (call.Initialize, position.Out, Some (place.Claim maker.Closure false)) ∷
    (call.Set 4, position.Out, Some (place.Claim (maker.Given 4) false)) ∷
    (call.Wait, position.Out, Some (place.Look false)) ∷
    (call.TrySet 3, position.Out, Some (place.Try 3)) ∷
    (call.Poll, position.ToMake maker.Closure, Some (place.Claim maker.Closure false)) ∷
    (call.Poll, position.ToMake (maker.Given 4), Some (place.Claim (maker.Given 4) false)) ∷
    (call.Poll, position.WaitingToMake maker.Closure, Some (place.AskActive maker.Closure)) ∷
    (call.Poll, position.WaitingToMake (maker.Given 4), Some (place.AskActive (maker.Given 4))) ∷
    (call.Poll, position.Making maker.Closure, Some (place.Make maker.Closure)) ∷
    (call.Poll, position.Making (maker.Given 4), Some (place.Make (maker.Given 4))) ∷
    (call.Poll, position.ToWait, Some (place.Look false)) ∷
    (call.Poll, position.Waiting, Some place.AskPassive) ∷
    (call.Drop, position.WaitingToMake maker.Closure, Some (place.CancelLeave list.Active)) ∷
    (call.Drop, position.WaitingToMake (maker.Given 4), Some (place.CancelLeave list.Active)) ∷
    (call.Drop, position.Making maker.Closure, Some place.CancelMake) ∷
    (call.Drop, position.Making (maker.Given 4), Some place.CancelMake) ∷
    (call.Drop, position.Waiting, Some (place.CancelLeave list.Passive)) ∷
    (call.Drop, position.ToMake maker.Closure, Some place.Abandon) ∷
    (call.Drop, position.ToMake (maker.Given 4), Some place.Abandon) ∷
    (call.Drop, position.ToWait, Some place.Abandon) ∷
    (call.Drop, position.Out, Some place.Abandon) ∷
    (call.Poll, position.Out, None) ∷
    (call.Lock, position.Out, None) ∷
    (call.Wait, position.Waiting, None) ∷
    (call.Initialize, position.WaitingToMake maker.Closure, None) ∷
    (call.Set 4, position.ToMake (maker.Given 4), None) ∷
    (call.TrySet 3, position.Making maker.Closure, None) ∷
    (call.TrySet 3, position.ToWait, None) ∷
    (call.Poll, position.At place.AskPassive, None) ∷
    (call.Drop, position.At place.CancelNotify, None) ∷
    []

-- What is done at a place.
abbrev pub actions : List (Place × Action)
actions =
    (place.Claim maker.Closure false, act.Claim) ∷
    (place.Claim maker.Closure true, act.Claim) ∷
    (place.Claim (maker.Given 4) false, act.Claim) ∷
    (place.Claim (maker.Given 4) true, act.Claim) ∷
    (place.ClaimListed maker.Closure, act.Claim) ∷
    (place.ClaimListed (maker.Given 4), act.Claim) ∷
    (place.JoinActive maker.Closure false, act.Join list.Active) ∷
    (place.JoinActive maker.Closure true, act.Join list.Active) ∷
    (place.JoinActive (maker.Given 4) false, act.Join list.Active) ∷
    (place.JoinActive (maker.Given 4) true, act.Join list.Active) ∷
    (place.AskActive maker.Closure, act.Ask list.Active) ∷
    (place.AskActive (maker.Given 4), act.Ask list.Active) ∷
    (place.LeaveToMake maker.Closure, act.Leave list.Active) ∷
    (place.LeaveToMake (maker.Given 4), act.Leave list.Active) ∷
    (place.Make maker.Closure, act.Make maker.Closure) ∷
    (place.Make (maker.Given 4), act.Make (maker.Given 4)) ∷
    (place.Fill 3, act.Fill 3) ∷
    (place.NotifyActive 3, act.NotifyAll list.Active) ∷
    (place.NotifyPassive 3, act.NotifyAll list.Passive) ∷
    (place.Fail, act.Empty) ∷
    (place.FailNotify, act.Notify list.Active) ∷
    (place.LeaveFull maker.Closure 3, act.Leave list.Active) ∷
    (place.LeaveFull (maker.Given 4) 3, act.Leave list.Active) ∷
    (place.RefuseActive maker.Closure, act.Notify list.Active) ∷
    (place.RefuseActive (maker.Given 4), act.Notify list.Active) ∷
    (place.Look false, act.Look) ∷
    (place.Look true, act.Look) ∷
    (place.JoinPassive false, act.Join list.Passive) ∷
    (place.JoinPassive true, act.Join list.Passive) ∷
    (place.LookListed, act.Look) ∷
    (place.AskPassive, act.Ask list.Passive) ∷
    (place.LeavePassive 3, act.Leave list.Passive) ∷
    (place.RefusePassive, act.Notify list.Passive) ∷
    (place.Try 3, act.Claim) ∷
    (place.TryFill 3, act.Fill 3) ∷
    (place.TryNotifyActive 3, act.NotifyAll list.Active) ∷
    (place.TryNotifyPassive 3, act.NotifyAll list.Passive) ∷
    (place.CancelMake, act.Empty) ∷
    (place.CancelNotify, act.Notify list.Active) ∷
    (place.CancelLeave list.Active, act.Leave list.Active) ∷
    (place.CancelLeave list.Passive, act.Leave list.Passive) ∷
    (place.Abandon, act.Nothing) ∷
    []

-- What comes after a place whose action found this.
abbrev pub followings : List (Place × Found × Next)
followings =
    (place.Claim maker.Closure false, found.Empty, next.Do (place.Make maker.Closure)) ∷
    (place.Claim maker.Closure false, found.BeingMade, next.Do (place.JoinActive maker.Closure false)) ∷
    (place.Claim maker.Closure false, found.Full 9, next.End ended.Got (left.Ready (got.Value 9))) ∷
    (place.Claim (maker.Given 4) false, found.Empty, next.Do (place.Make (maker.Given 4))) ∷
    (place.Claim (maker.Given 4) false, found.BeingMade, next.Do (place.JoinActive (maker.Given 4) false)) ∷
    (place.Claim (maker.Given 4) false, found.Full 9, next.End ended.Got (left.Ready (got.Taken 4))) ∷
    (place.Claim maker.Closure true, found.Empty, next.Do (place.Make maker.Closure)) ∷
    (place.Claim maker.Closure true, found.BeingMade, next.Do (place.JoinActive maker.Closure true)) ∷
    (place.Claim maker.Closure true, found.Full 9, next.End ended.Got (left.Ready (got.Value 9))) ∷
    (place.Claim (maker.Given 4) true, found.Empty, next.Do (place.Make (maker.Given 4))) ∷
    (place.Claim (maker.Given 4) true, found.BeingMade, next.Do (place.JoinActive (maker.Given 4) true)) ∷
    (place.Claim (maker.Given 4) true, found.Full 9, next.End ended.Got (left.Ready (got.Taken 4))) ∷
    (place.ClaimListed maker.Closure, found.Empty, next.Do (place.LeaveToMake maker.Closure)) ∷
    (place.ClaimListed maker.Closure, found.BeingMade, next.Do (place.AskActive maker.Closure)) ∷
    (place.ClaimListed maker.Closure, found.Full 9, next.Do (place.LeaveFull maker.Closure 9)) ∷
    (place.ClaimListed (maker.Given 4), found.Empty, next.Do (place.LeaveToMake (maker.Given 4))) ∷
    (place.ClaimListed (maker.Given 4), found.BeingMade, next.Do (place.AskActive (maker.Given 4))) ∷
    (place.ClaimListed (maker.Given 4), found.Full 9, next.Do (place.LeaveFull (maker.Given 4) 9)) ∷
    (place.JoinActive maker.Closure false, found.Done, next.Do (place.ClaimListed maker.Closure)) ∷
    (place.JoinActive maker.Closure true, found.Done, next.Do (place.ClaimListed maker.Closure)) ∷
    (place.JoinActive maker.Closure false, found.NoMemory, next.End (ended.Refused refusal.Memory) (left.Outside (position.ToMake maker.Closure))) ∷
    (place.JoinActive maker.Closure true, found.NoMemory, next.Do (place.RefuseActive maker.Closure)) ∷
    (place.JoinActive (maker.Given 4) false, found.Done, next.Do (place.ClaimListed (maker.Given 4))) ∷
    (place.JoinActive (maker.Given 4) true, found.Done, next.Do (place.ClaimListed (maker.Given 4))) ∷
    (place.JoinActive (maker.Given 4) false, found.NoMemory, next.End (ended.Refused refusal.Memory) (left.Outside (position.ToMake (maker.Given 4)))) ∷
    (place.JoinActive (maker.Given 4) true, found.NoMemory, next.Do (place.RefuseActive (maker.Given 4))) ∷
    (place.AskActive maker.Closure, found.Yes, next.Do (place.Claim maker.Closure true)) ∷
    (place.AskActive maker.Closure, found.No, next.End ended.Pending (left.Outside (position.WaitingToMake maker.Closure))) ∷
    (place.AskActive (maker.Given 4), found.Yes, next.Do (place.Claim (maker.Given 4) true)) ∷
    (place.AskActive (maker.Given 4), found.No, next.End ended.Pending (left.Outside (position.WaitingToMake (maker.Given 4)))) ∷
    (place.LeaveToMake maker.Closure, found.Done, next.Do (place.Make maker.Closure)) ∷
    (place.LeaveToMake (maker.Given 4), found.Done, next.Do (place.Make (maker.Given 4))) ∷
    (place.Make maker.Closure, found.NotYet, next.End ended.Pending (left.Outside (position.Making maker.Closure))) ∷
    (place.Make maker.Closure, found.Made 7, next.Do (place.Fill 7)) ∷
    (place.Make maker.Closure, found.Failed, next.Do place.Fail) ∷
    (place.Make (maker.Given 4), found.Made 4, next.Do (place.Fill 4)) ∷
    (place.Fill 7, found.Done, next.Do (place.NotifyActive 7)) ∷
    (place.NotifyActive 7, found.Done, next.Do (place.NotifyPassive 7)) ∷
    (place.NotifyPassive 7, found.Done, next.End ended.Got (left.Ready (got.Value 7))) ∷
    (place.Fail, found.Done, next.Do place.FailNotify) ∷
    (place.FailNotify, found.Done, next.End ended.Got (left.Ready got.Failed)) ∷
    (place.LeaveFull maker.Closure 9, found.Done, next.End ended.Got (left.Ready (got.Value 9))) ∷
    (place.LeaveFull (maker.Given 4) 9, found.Done, next.End ended.Got (left.Ready (got.Taken 4))) ∷
    (place.RefuseActive maker.Closure, found.Done, next.End (ended.Refused refusal.Memory) (left.Outside (position.ToMake maker.Closure))) ∷
    (place.RefuseActive (maker.Given 4), found.Done, next.End (ended.Refused refusal.Memory) (left.Outside (position.ToMake (maker.Given 4)))) ∷
    (place.Look false, found.Full 9, next.End ended.Got (left.Ready (got.Value 9))) ∷
    (place.Look false, found.Empty, next.Do (place.JoinPassive false)) ∷
    (place.Look false, found.BeingMade, next.Do (place.JoinPassive false)) ∷
    (place.Look true, found.Full 9, next.End ended.Got (left.Ready (got.Value 9))) ∷
    (place.Look true, found.Empty, next.Do (place.JoinPassive true)) ∷
    (place.Look true, found.BeingMade, next.Do (place.JoinPassive true)) ∷
    (place.JoinPassive false, found.Done, next.Do place.LookListed) ∷
    (place.JoinPassive true, found.Done, next.Do place.LookListed) ∷
    (place.JoinPassive false, found.NoMemory, next.End (ended.Refused refusal.Memory) (left.Outside position.ToWait)) ∷
    (place.JoinPassive true, found.NoMemory, next.Do place.RefusePassive) ∷
    (place.LookListed, found.Empty, next.Do place.AskPassive) ∷
    (place.LookListed, found.BeingMade, next.Do place.AskPassive) ∷
    (place.LookListed, found.Full 9, next.Do (place.LeavePassive 9)) ∷
    (place.AskPassive, found.Yes, next.Do (place.Look true)) ∷
    (place.AskPassive, found.No, next.End ended.Pending (left.Outside position.Waiting)) ∷
    (place.LeavePassive 9, found.Done, next.End ended.Got (left.Ready (got.Value 9))) ∷
    (place.RefusePassive, found.Done, next.End (ended.Refused refusal.Memory) (left.Outside position.ToWait)) ∷
    (place.Try 3, found.Empty, next.Do (place.TryFill 3)) ∷
    (place.Try 3, found.BeingMade, next.End ended.NotFree (left.Outside position.Out)) ∷
    (place.Try 3, found.Full 9, next.End ended.NotFree (left.Outside position.Out)) ∷
    (place.TryFill 3, found.Done, next.Do (place.TryNotifyActive 3)) ∷
    (place.TryNotifyActive 3, found.Done, next.Do (place.TryNotifyPassive 3)) ∷
    (place.TryNotifyPassive 3, found.Done, next.End ended.Granted (left.Outside position.Out)) ∷
    (place.CancelMake, found.Done, next.Do place.CancelNotify) ∷
    (place.CancelNotify, found.Done, next.End ended.GivenBack (left.Outside position.Out)) ∷
    (place.CancelLeave list.Active, found.Done, next.End ended.GivenBack (left.Outside position.Out)) ∷
    (place.CancelLeave list.Passive, found.Done, next.End ended.GivenBack (left.Outside position.Out)) ∷
    (place.Abandon, found.Done, next.End ended.GivenBack (left.Outside position.Out)) ∷
    []
