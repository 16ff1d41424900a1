-- The places of a once-cell's calls: the action at each, and what comes after what it finds.
use Rattle.std.specs.Prelude.{Bool, true, false, Option, Some, None}
use Rattle.sync_program.specs.declared.once_cell.CellCall.{CellCall}
use Rattle.sync_program.specs.declared.once_cell.CellCall.TheVariants as call
use Rattle.sync_program.specs.declared.once_cell.Got.{Got as CellGot}
use Rattle.sync_program.specs.declared.once_cell.Got.TheVariants as got
use Rattle.lock_program.specs.declared.refusal.Refusal.TheVariants.{Memory}
use Rattle.lock_program.specs.declared.end.End.TheVariants.{Got, Granted, Pending, NotFree, GivenBack, Refused}
use Rattle.sync_program.specs.declared.once_cell.Action.{Action}
use Rattle.sync_program.specs.declared.once_cell.Action.TheVariants as act
use Rattle.sync_program.specs.declared.once_cell.Found.{Found}
use Rattle.sync_program.specs.declared.once_cell.Found.TheVariants as found
use Rattle.sync_program.specs.declared.once_cell.ListName.TheVariants.{Active, Passive}
use Rattle.sync_program.specs.declared.once_cell.Left.{Left}
use Rattle.sync_program.specs.declared.once_cell.Left.TheVariants.{Ready, Outside}
use Rattle.sync_program.specs.declared.once_cell.Maker.{Maker}
use Rattle.sync_program.specs.declared.once_cell.Maker.TheVariants.{Closure, Given}
use Rattle.lock_program.specs.declared.end.Next.{Next}
use Rattle.lock_program.specs.declared.end.Next.TheVariants as next
use Rattle.sync_program.specs.declared.once_cell.Place.{Place}
use Rattle.sync_program.specs.declared.once_cell.Place.TheVariants.{Claim, ClaimListed, JoinActive, AskActive, LeaveToMake, Make, Fill, NotifyActive, NotifyPassive, Fail, FailNotify, LeaveFull, RefuseActive, Look, JoinPassive, LookListed, AskPassive, LeavePassive, RefusePassive, Try, TryFill, TryNotifyActive, TryNotifyPassive, CancelMake, CancelNotify, CancelLeave, Abandon}
use Rattle.sync_program.specs.declared.once_cell.Position.{Position}
use Rattle.sync_program.specs.declared.once_cell.Position.TheVariants.{Out, ToMake, WaitingToMake, Making, ToWait, Waiting}

-- the place at which a call begins
abbrev pub start_of : {V : Type 0} → CellCall V → Position V → Option (Place V)
start_of call.Initialize Out = Some (Claim Closure false)
start_of (call.Set v) Out = Some (Claim (Given v) false)
start_of call.Wait Out = Some (Look false)
start_of (call.TrySet v) Out = Some (Try v)
start_of call.Poll (ToMake k) = Some (Claim k false)
start_of call.Poll (WaitingToMake k) = Some (AskActive k)
start_of call.Poll (Making k) = Some (Make k)
start_of call.Poll ToWait = Some (Look false)
start_of call.Poll Waiting = Some AskPassive
start_of call.Drop (WaitingToMake k) = Some (CancelLeave Active)
start_of call.Drop (Making k) = Some CancelMake
start_of call.Drop Waiting = Some (CancelLeave Passive)
start_of call.Drop Out = Some Abandon
start_of call.Drop (ToMake k) = Some Abandon
start_of call.Drop ToWait = Some Abandon
start_of _ _ = None

-- the action at a place
abbrev pub action_of : {V : Type 0} → Place V → Action V
action_of (Claim k told) = act.Claim
action_of (ClaimListed k) = act.Claim
action_of (JoinActive k told) = act.Join Active
action_of (AskActive k) = act.Ask Active
action_of (LeaveToMake k) = act.Leave Active
action_of (Make k) = act.Make k
action_of (Fill v) = act.Fill v
action_of (NotifyActive v) = act.NotifyAll Active
action_of (NotifyPassive v) = act.NotifyAll Passive
action_of Fail = act.Empty
action_of FailNotify = act.Notify Active
action_of (LeaveFull k v) = act.Leave Active
action_of (RefuseActive k) = act.Notify Active
action_of (Look told) = act.Look
action_of (JoinPassive told) = act.Join Passive
action_of LookListed = act.Look
action_of AskPassive = act.Ask Passive
action_of (LeavePassive v) = act.Leave Passive
action_of RefusePassive = act.Notify Passive
action_of (Try v) = act.Claim
action_of (TryFill v) = act.Fill v
action_of (TryNotifyActive v) = act.NotifyAll Active
action_of (TryNotifyPassive v) = act.NotifyAll Passive
action_of CancelMake = act.Empty
action_of CancelNotify = act.Notify Active
action_of (CancelLeave list) = act.Leave list
action_of Abandon = act.Nothing

-- what an initialisation is ready with that finds this value in the cell
abbrev pub got_of : {V : Type 0} → Maker V → V → CellGot V
got_of Closure v = got.Value v
got_of (Given own) v = got.Taken own

abbrev pub after_claim : {V : Type 0} → Maker V → Bool → Found V → Next (Place V) (Left V)
after_claim k told found.Empty = next.Do (Make k)
after_claim k told (found.Full v) = next.End Got (Ready (got_of k v))
after_claim k told _ = next.Do (JoinActive k told)

abbrev pub after_make : {V : Type 0} → Maker V → Found V → Next (Place V) (Left V)
after_make k (found.Made v) = next.Do (Fill v)
after_make k found.Failed = next.Do Fail
after_make k _ = next.End Pending (Outside (Making k))

abbrev pub after_look : {V : Type 0} → Bool → Found V → Next (Place V) (Left V)
after_look told (found.Full v) = next.End Got (Ready (got.Value v))
after_look told _ = next.Do (JoinPassive told)

-- what comes after a place where this was found
abbrev pub next_of : {V : Type 0} → Place V → Found V → Next (Place V) (Left V)
next_of (Claim k told) f = after_claim k told f
next_of (ClaimListed k) found.Empty = next.Do (LeaveToMake k)
next_of (ClaimListed k) (found.Full v) = next.Do (LeaveFull k v)
next_of (ClaimListed k) _ = next.Do (AskActive k)
next_of (JoinActive k told) found.Done = next.Do (ClaimListed k)
next_of (JoinActive k true) _ = next.Do (RefuseActive k)
next_of (JoinActive k false) _ = next.End (Refused Memory) (Outside (ToMake k))
next_of (AskActive k) found.Yes = next.Do (Claim k true)
next_of (AskActive k) _ = next.End Pending (Outside (WaitingToMake k))
next_of (LeaveToMake k) _ = next.Do (Make k)
next_of (Make k) f = after_make k f
next_of (Fill v) _ = next.Do (NotifyActive v)
next_of (NotifyActive v) _ = next.Do (NotifyPassive v)
next_of (NotifyPassive v) _ = next.End Got (Ready (got.Value v))
next_of Fail _ = next.Do FailNotify
next_of FailNotify _ = next.End Got (Ready got.Failed)
next_of (LeaveFull k v) _ = next.End Got (Ready (got_of k v))
next_of (RefuseActive k) _ = next.End (Refused Memory) (Outside (ToMake k))
next_of (Look told) f = after_look told f
next_of (JoinPassive told) found.Done = next.Do LookListed
next_of (JoinPassive true) _ = next.Do RefusePassive
next_of (JoinPassive false) _ = next.End (Refused Memory) (Outside ToWait)
next_of LookListed (found.Full v) = next.Do (LeavePassive v)
next_of LookListed _ = next.Do AskPassive
next_of AskPassive found.Yes = next.Do (Look true)
next_of AskPassive _ = next.End Pending (Outside Waiting)
next_of (LeavePassive v) _ = next.End Got (Ready (got.Value v))
next_of RefusePassive _ = next.End (Refused Memory) (Outside ToWait)
next_of (Try v) found.Empty = next.Do (TryFill v)
next_of (Try v) _ = next.End NotFree (Outside Out)
next_of (TryFill v) _ = next.Do (TryNotifyActive v)
next_of (TryNotifyActive v) _ = next.Do (TryNotifyPassive v)
next_of (TryNotifyPassive v) _ = next.End Granted (Outside Out)
next_of CancelMake _ = next.Do CancelNotify
next_of CancelNotify _ = next.End GivenBack (Outside Out)
next_of (CancelLeave list) _ = next.End GivenBack (Outside Out)
next_of Abandon _ = next.End GivenBack (Outside Out)
