-- What a World's move asks of a once-cell's programs, and what is told and left after what comes next. The table's value is a number.
use Rattle.std.specs.Prelude.{ℕ, Option, Some, None}
use Rattle.lock_program.specs.declared.end.Next.{Next as TableNext}
use Rattle.lock_program.specs.declared.end.Next.TheVariants as next
use Rattle.world_base.specs.declared.moves.Call.{Call}
use Rattle.world_base.specs.declared.moves.Call.TheVariants as call
use Rattle.world_base.specs.declared.moves.Got.{Got}
use Rattle.world_base.specs.declared.moves.Got.TheVariants as got
use Rattle.world_base.specs.declared.moves.What.{What}
use Rattle.world_base.specs.declared.moves.What.TheVariants.{Begin, Go}
use Rattle.sync_program.specs.declared.once_cell.Action.{Action as TableAction}
use Rattle.sync_program.specs.declared.once_cell.CellCall.{CellCall}
use Rattle.sync_program.specs.declared.once_cell.CellCall.TheVariants as asks
use Rattle.sync_program.specs.declared.once_cell.Found.{Found as TableFound}
use Rattle.sync_program.specs.declared.once_cell.Got.{Got as TableGot}
use Rattle.sync_program.specs.declared.once_cell.Got.TheVariants as gets
use Rattle.sync_program.specs.declared.once_cell.Left.{Left as TableLeft}
use Rattle.sync_program.specs.declared.once_cell.Left.TheVariants.{Ready, Outside}
use Rattle.sync_program.specs.declared.once_cell.Maker.{Maker as TableMaker}
use Rattle.sync_program.specs.declared.once_cell.Place.{Place as TablePlace}
use Rattle.sync_program.specs.declared.once_cell.Position.{Position as TablePosition}
use Rattle.sync_program.specs.declared.once_cell.Position.TheVariants.{Out, At}
use Rattle.sync_program.specs.OnceCell as table

-- the table's types, over numbers
abbrev pub Maker : Type 0
Maker = TableMaker ℕ

abbrev pub Position : Type 0
Position = TablePosition ℕ

abbrev pub Place : Type 0
Place = TablePlace ℕ

abbrev pub Action : Type 0
Action = TableAction ℕ

abbrev pub Found : Type 0
Found = TableFound ℕ

abbrev pub Left : Type 0
Left = TableLeft ℕ

abbrev pub Next : Type 0
Next = TableNext Place Left

-- the action at a place, and what comes after what it finds
abbrev pub action_of : Place → Action
action_of x = table.action_of x

abbrev pub next_of : Place → Found → Next
next_of x f = table.next_of x f

-- what a call asks of the programs; nothing, if it is none of theirs
abbrev pub asked_of : Call → Option (CellCall ℕ)
asked_of call.Initialize = Some asks.Initialize
asked_of (call.Set v) = Some (asks.Set v)
asked_of call.Wait = Some asks.Wait
asked_of (call.TrySet v) = Some (asks.TrySet v)
asked_of call.Poll = Some asks.Poll
asked_of call.Drop = Some asks.Drop
asked_of _ = None

-- the place at which a call begins
abbrev pub started : Option (CellCall ℕ) → Position → Option Place
started (Some c) x = table.start_of c x
started None x = None

abbrev pub start_of : Call → Position → Option Place
start_of c x = started (asked_of c) x

-- the place whose action a move carries out
abbrev pub place_for : What → Position → Option Place
place_for (Begin c inputs) x = start_of c x
place_for (Go inputs) (At place) = Some place
place_for (Go inputs) _ = None

-- what a future is ready with, as a World tells it
abbrev pub told_of : TableGot ℕ → Got
told_of (gets.Value v) = got.Value v
told_of (gets.Taken own) = got.Taken own
told_of gets.Failed = got.Failed

-- what an initialisation is ready with that finds this value in the cell
abbrev pub got_of : Maker → ℕ → Got
got_of k v = told_of (table.got_of k v)

-- what a call that has ended got, and where its party stands
abbrev pub got_left : Left → Got
got_left (Ready g) = told_of g
got_left (Outside x) = got.Plain

abbrev pub position_left : Left → Position
position_left (Ready g) = Out
position_left (Outside x) = x

-- where a party stands after this
abbrev pub position_after : Next → Position
position_after (next.Do place) = At place
position_after (next.End e x) = position_left x
