-- Where a party is in its program: what it does next, or how its last call ended and where that left it.
use Rattle.std.specs.Prelude.{◌≡◌, ⊤, Bool, true, false, Option, Some, None, Result, Ok, Err}
use Rattle.std.specs.Coded.{Coded}
use denote.Builtin as builtin
use Rattle.futures.specs.declared.task.Poll.{Poll}
use Rattle.futures.specs.declared.task.Poll.TheVariants as polls
use Rattle.lock_program.specs.contracts.end.Next as next
use Rattle.lock_program.specs.declared.end.End.TheVariants.{GivenBack, Pending, Refused}
use Rattle.lock_program.specs.declared.end.Next.{Next}
use Rattle.lock_program.specs.declared.end.Next.TheVariants.{Do, End}
use Rattle.lock_program.specs.declared.refusal.Refusal.TheVariants.{Memory}
use Rattle.sync_program.specs.OnceCell.{action_of, next_of, start_of}
use Rattle.sync_program.specs.contracts.once_cell.Left as left
use Rattle.sync_program.specs.contracts.once_cell.Place as place
use Rattle.sync_program.specs.declared.once_cell.Action.{Action}
use Rattle.sync_program.specs.declared.once_cell.Action.TheVariants as act
use Rattle.sync_program.specs.declared.once_cell.CellCall.{CellCall}
use Rattle.sync_program.specs.declared.once_cell.CellCall.TheVariants as call
use Rattle.sync_program.specs.declared.once_cell.Found.{Found}
use Rattle.sync_program.specs.declared.once_cell.Found.TheVariants as finds
use Rattle.sync_program.specs.declared.once_cell.Left.{Left}
use Rattle.sync_program.specs.declared.once_cell.Left.TheVariants.{Ready, Outside}
use Rattle.sync_program.specs.declared.once_cell.ListName.TheVariants.{Active, Passive}
use Rattle.sync_program.specs.declared.once_cell.Maker.{Maker}
use Rattle.sync_program.specs.declared.once_cell.Maker.TheVariants.{Closure, Given}
use Rattle.sync_program.specs.declared.once_cell.Place.{Place}
use Rattle.sync_program.specs.declared.once_cell.Place.TheVariants.{Claim, JoinActive, RefuseActive, RefusePassive, CancelMake, CancelLeave}
use Rattle.sync_program.specs.declared.once_cell.Position.TheVariants.{Out, ToMake, WaitingToMake, Making, ToWait, Waiting}

-- The value itself lies in the cell: places, calls and findings carry nothing.
abbrev pub PlaceHere : Type 0
PlaceHere = Place (Unit {0})

abbrev pub MakerHere : Type 0
MakerHere = Maker (Unit {0})

abbrev pub Course : Type 0
Course = Next PlaceHere (Left (Unit {0}))

abbrev pub course_coded : Coded Course
course_coded = (next.the_row (place.the_row builtin.unit) (left.the_row builtin.unit)).coded

-- it has begun no call: none ends so
abbrev pub unbegun : Course
unbegun = End Pending (Outside Out)

-- It is outside every call, and has nothing: its future is ready or dropped, its try is over, or its poll was refused.
abbrev pub IsOutside : Course → Type 0
IsOutside (End e (Ready got)) = ⊤
IsOutside (End e (Outside Out)) = ⊤
IsOutside (End e (Outside (ToMake k))) = ⊤
IsOutside (End e (Outside ToWait)) = ⊤
IsOutside _ = ⊥

-- its future is ready
abbrev pub IsReady : Course → Type 0
IsReady (End e (Ready got)) = ⊤
IsReady _ = ⊥

-- Where a call begins, for a party that is outside every call. Once it has nothing any more, none begins: another call is another seat's.
abbrev pub starts_at : CellCall (Unit {0}) → Course → Option PlaceHere
starts_at call (End Pending (Outside from)) = start_of call from
starts_at call (End e (Outside Out)) = None
starts_at call (End e (Outside from)) = start_of call from
starts_at call _ = None

-- the call may begin at this place
abbrev pub IsStart : CellCall (Unit {0}) → PlaceHere → Course → Type 0
IsStart call at course = starts_at call course ≡ Some at

-- the first poll of a party with this maker
abbrev pub first_poll : MakerHere → CellCall (Unit {0})
first_poll Closure = call.Initialize
first_poll (Given v) = call.Set v

-- what an action that asks a maker found
abbrev pub asked_of : {T E : Type 0} → Poll (Result T E) → Found (Unit {0})
asked_of polls.Pending = finds.NotYet
asked_of (polls.Ready (Ok value)) = finds.Made tt
asked_of (polls.Ready (Err fault)) = finds.Failed

-- it is pending: it waits in a list, or makes the value
abbrev pub waiting_to_make : MakerHere → Course
waiting_to_make k = End Pending (Outside (WaitingToMake k))

abbrev pub making : MakerHere → Course
making k = End Pending (Outside (Making k))

abbrev pub waiting : Course
waiting = End Pending (Outside Waiting)

-- the same with any maker, by how its drop begins
abbrev pub IsWaitingToMake : Course → Type 0
IsWaitingToMake course = IsStart call.Drop (CancelLeave Active) course

abbrev pub IsMakingStill : Course → Type 0
IsMakingStill course = IsStart call.Drop CancelMake course

-- where who is notified goes on, or who joins
abbrev pub claiming_from : MakerHere → Bool → PlaceHere
claiming_from k true = Claim k true
claiming_from k false = JoinActive k false

-- how who has no memory for its entry goes on: by handing on what it was notified of, if it was
abbrev pub refusing_to_make : MakerHere → Bool → Course
refusing_to_make k true = Do (RefuseActive k)
refusing_to_make k false = End (Refused Memory) (Outside (ToMake k))

abbrev pub refusing_to_wait : Bool → Course
refusing_to_wait true = Do RefusePassive
refusing_to_wait false = End (Refused Memory) (Outside ToWait)

-- the places at which a value enters the cell, and then both lists are notified
abbrev pub IsFilling : PlaceHere → PlaceHere → PlaceHere → Type 0
IsFilling fill active passive = (action_of fill ≡ act.Fill tt)
    × (next_of fill finds.Done ≡ Do active) × (action_of active ≡ act.NotifyAll Active)
    × (next_of active finds.Done ≡ Do passive) × (action_of passive ≡ act.NotifyAll Passive)
    × IsOutside (next_of passive finds.Done)

-- the places at which the right to make is given up, and then one that would make is notified
abbrev pub IsEmptying : PlaceHere → PlaceHere → Type 0
IsEmptying empty notify = (action_of empty ≡ act.Empty)
    × (next_of empty finds.Done ≡ Do notify) × (action_of notify ≡ act.Notify Active)
    × IsOutside (next_of notify finds.Done)

-- an action that asks a maker
abbrev pub AsksMaker : Action (Unit {0}) → Type 0
AsksMaker (act.Make k) = ⊤
AsksMaker _ = ⊥

-- a maker is being asked: no action and no call may begin
abbrev pub asking : Course
asking = End GivenBack (Outside Out)

-- an action that notifies in a list
abbrev pub IsNotifying : Action (Unit {0}) → Type 0
IsNotifying (act.Notify list) = ⊤
IsNotifying (act.NotifyAll list) = ⊤
IsNotifying _ = ⊥
