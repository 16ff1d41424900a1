-- What a party has and owes where it stands.
use Rattle.std.specs.Prelude.{ℕ, Bool, true, false, Option, Some, None}
pub use Rattle.world_base.specs.Rosters.{bit}
use Rattle.world_base.specs.declared.moves.Answer.{Answer}
use Rattle.world_base.specs.declared.moves.Answer.TheVariants.{Ready, Granted, GivenBack}
use Rattle.world_base.specs.declared.moves.Got.TheVariants as got
use Rattle.lock_program.specs.declared.refusal.Refusal.TheVariants.{Memory}
use Rattle.world_base.specs.Standings.{refused}
use Rattle.sync_program.specs.declared.once_cell.ListName.{ListName}
use Rattle.sync_program.specs.declared.once_cell.ListName.TheVariants.{Active, Passive}
use Rattle.world_once_cell.specs.program.Program.{Maker}
use Rattle.sync_program.specs.declared.once_cell.Maker.TheVariants.{Closure, Given}
use Rattle.world_once_cell.specs.program.Program.{Place}
use Rattle.sync_program.specs.declared.once_cell.Place.TheVariants.{Claim, ClaimListed, JoinActive, AskActive, LeaveToMake, Make, Fill, NotifyActive, NotifyPassive, Fail, FailNotify, LeaveFull, RefuseActive, Look, JoinPassive, LookListed, AskPassive, LeavePassive, RefusePassive, Try, TryFill, TryNotifyActive, TryNotifyPassive, CancelMake, CancelNotify, CancelLeave, Abandon}
use Rattle.world_once_cell.specs.program.Program.{Position}
use Rattle.sync_program.specs.declared.once_cell.Position.TheVariants.{Out, ToMake, WaitingToMake, Making, ToWait, Waiting, At}
use Rattle.world_once_cell.specs.program.Program.{got_of}

-- What a party's future or try is for: to make the value by its maker, to set this value, to wait for a value; once its maker gave something, to fill the cell with it, or to fail. A party with no future has nothing to do.
pub data Task : Type 0 where
  no_task : Task
  initializes : Task
  sets : ℕ → Task
  waits_only : Task
  fills_with : ℕ → Task
  failed : Task

abbrev pub task_by : Maker → Task
task_by Closure = initializes
task_by (Given v) = sets v

abbrev pub task_of : Place → Task
task_of (Claim k told) = task_by k
task_of (ClaimListed k) = task_by k
task_of (JoinActive k told) = task_by k
task_of (AskActive k) = task_by k
task_of (LeaveToMake k) = task_by k
task_of (Make k) = task_by k
task_of (Fill v) = fills_with v
task_of (NotifyActive v) = fills_with v
task_of (NotifyPassive v) = fills_with v
task_of Fail = failed
task_of FailNotify = failed
task_of (LeaveFull k v) = task_by k
task_of (RefuseActive k) = task_by k
task_of (Look told) = waits_only
task_of (JoinPassive told) = waits_only
task_of LookListed = waits_only
task_of AskPassive = waits_only
task_of (LeavePassive v) = waits_only
task_of RefusePassive = waits_only
task_of (Try v) = fills_with v
task_of (TryFill v) = fills_with v
task_of (TryNotifyActive v) = fills_with v
task_of (TryNotifyPassive v) = fills_with v
task_of _ = no_task

abbrev pub task_at : Position → Task
task_at Out = no_task
task_at (ToMake k) = task_by k
task_at (WaitingToMake k) = task_by k
task_at (Making k) = task_by k
task_at ToWait = waits_only
task_at Waiting = waits_only
task_at (At place) = task_of place

-- Whether a party makes the cell's value; whether it stands in `active` and in `passive`; whether it waits in `active`, having looked at the cell since it joined; and whether its program still has to notify one there, or to look with a notification that it took.
pub record Seat : Type 0 where
  pub makes : Bool
  pub active : ℕ
  pub passive : ℕ
  pub waits : ℕ
  pub owes : ℕ

abbrev pub seat : Bool → ℕ → ℕ → ℕ → ℕ → Seat
seat makes active passive waits owes = record { makes = makes; active = active; passive = passive; waits = waits; owes = owes }

-- nothing had and nothing owed; an entry in `active` that waits; an entry in `passive`
abbrev pub nothing_had : Seat
nothing_had = seat false 0 0 0 0

abbrev pub waits_active : Seat
waits_active = seat false 1 0 1 0

abbrev pub in_passive : Seat
in_passive = seat false 0 1 0 0

abbrev pub the_maker : Seat
the_maker = seat true 0 0 0 0

abbrev pub seat_of : Place → Seat
seat_of (Claim k told) = seat false 0 0 0 (bit told)
seat_of (ClaimListed k) = seat false 1 0 0 0
seat_of (AskActive k) = waits_active
seat_of (LeaveToMake k) = seat true 1 0 0 0
seat_of (Make k) = the_maker
seat_of (Fill v) = the_maker
seat_of (NotifyActive v) = seat false 0 0 0 1
seat_of Fail = the_maker
seat_of FailNotify = seat false 0 0 0 1
seat_of (LeaveFull k v) = seat false 1 0 0 0
seat_of LookListed = in_passive
seat_of AskPassive = in_passive
seat_of (LeavePassive v) = in_passive
seat_of (TryFill v) = the_maker
seat_of (TryNotifyActive v) = seat false 0 0 0 1
seat_of CancelMake = the_maker
seat_of CancelNotify = seat false 0 0 0 1
seat_of (CancelLeave Active) = waits_active
seat_of (CancelLeave Passive) = in_passive
seat_of _ = nothing_had

abbrev pub seated : Position → Seat
seated (WaitingToMake k) = waits_active
seated (Making k) = the_maker
seated Waiting = in_passive
seated (At place) = seat_of place
seated _ = nothing_had

-- each of these by itself
abbrev pub makes_at : Position → Bool
makes_at x = (seated x).makes

abbrev pub in_active : Position → ℕ
in_active x = (seated x).active

abbrev pub in_passive_at : Position → ℕ
in_passive_at x = (seated x).passive

abbrev pub waits : Position → ℕ
waits x = (seated x).waits

abbrev pub owes : Position → ℕ
owes x = (seated x).owes

-- the value that the cell is known to have, from where a party stands
abbrev pub value_known : Position → Option ℕ
value_known (At (NotifyActive v)) = Some v
value_known (At (NotifyPassive v)) = Some v
value_known (At (LeaveFull k v)) = Some v
value_known (At (LeavePassive v)) = Some v
value_known (At (TryNotifyActive v)) = Some v
value_known (At (TryNotifyPassive v)) = Some v
value_known x = None

-- a listed party that hasn't looked at the cell since it joined, or found it full
abbrev pub is_late : ListName → Position → Bool
is_late Active (At (ClaimListed k)) = true
is_late Active (At (LeaveFull k v)) = true
is_late Passive (At LookListed) = true
is_late Passive (At (LeavePassive v)) = true
is_late list x = false

-- a party that has filled the cell, and still has to notify all in this list
abbrev pub will_tell : ListName → Position → Bool
will_tell list (At (NotifyActive v)) = true
will_tell Passive (At (NotifyPassive v)) = true
will_tell list (At (TryNotifyActive v)) = true
will_tell Passive (At (TryNotifyPassive v)) = true
will_tell list x = false

-- what the call is decided on of a party at a place
abbrev pub verdict_of : Place → Option Answer
verdict_of (NotifyActive v) = Some (Ready (got.Value v))
verdict_of (NotifyPassive v) = Some (Ready (got.Value v))
verdict_of FailNotify = Some (Ready got.Failed)
verdict_of (LeaveFull k v) = Some (Ready (got_of k v))
verdict_of (RefuseActive k) = Some (refused Memory)
verdict_of (LeavePassive v) = Some (Ready (got.Value v))
verdict_of RefusePassive = Some (refused Memory)
verdict_of (TryFill v) = Some (Granted got.Plain)
verdict_of (TryNotifyActive v) = Some (Granted got.Plain)
verdict_of (TryNotifyPassive v) = Some (Granted got.Plain)
verdict_of CancelMake = Some GivenBack
verdict_of CancelNotify = Some GivenBack
verdict_of (CancelLeave list) = Some GivenBack
verdict_of Abandon = Some GivenBack
verdict_of _ = None

abbrev pub verdict : Position → Option Answer
verdict (At place) = verdict_of place
verdict x = None

-- outside every program
abbrev pub is_resting : Position → Bool
is_resting (At place) = false
is_resting x = true
