-- What a party's future is for, and what its maker makes of it.
use Rattle.std.specs.Prelude.{Bool, true, false, Option, Some, None}
use Rattle.world_base.specs.declared.moves.Call.TheVariants as call
use Rattle.world_base.specs.declared.moves.Made.{Made}
use Rattle.world_base.specs.declared.moves.Made.TheVariants as made
use Rattle.world_base.specs.declared.moves.What.{What}
use Rattle.world_base.specs.declared.moves.What.TheVariants.{Begin}
use Rattle.world_base.specs.declared.standing.Rest.TheVariants.{Pending}
use Rattle.world_base.specs.Standings.{Standing, outside, inside}
use Rattle.sync_program.specs.declared.once_cell.ListName.{ListName}
use Rattle.sync_program.specs.declared.once_cell.ListName.TheVariants.{Active, Passive}
use Rattle.world_once_cell.specs.machine.Seats.{Task, no_task, initializes, sets, waits_only, fills_with, failed}

-- What a move's call is for, where it begins one of its own: a try has its value to fill the cell with, and a drop is for nothing.
abbrev pub task_in : What → Option Task
task_in (Begin call.Initialize inputs) = Some initializes
task_in (Begin (call.Set v) inputs) = Some (sets v)
task_in (Begin call.Wait inputs) = Some waits_only
task_in (Begin (call.TrySet v) inputs) = Some (fills_with v)
task_in (Begin call.Drop inputs) = Some no_task
task_in _ = None

-- Any other move goes on with what the party's future was for.
abbrev pub or_before : Option Task → Task → Task
or_before (Some t) before = t
or_before None before = before

abbrev pub task_then : What → Task → Task
task_then what before = or_before (task_in what) before

-- Whether one may make the cell's value for this: a wait may not.
abbrev pub makes : Task → Bool
makes initializes = true
makes (sets v) = true
makes (fills_with v) = true
makes _ = false

-- The list in which one waits for this: who would make waits in `active`, a wait in `passive`.
abbrev pub list_for : Task → Option ListName
list_for initializes = Some Active
list_for (sets v) = Some Active
list_for waits_only = Some Passive
list_for _ = None

-- What the maker makes of it: a set has its value whatever the input says; another maker gives the input's value, fails by it, or is pending.
abbrev pub given : Task → Made → Task
given (sets v) m = fills_with v
given initializes (made.Value v) = fills_with v
given initializes made.Fail = failed
given t m = t

-- A party that is pending or inside a call has a future or a try.
abbrev pub is_open : Standing → Bool
is_open (outside Pending) = true
is_open (inside within decided) = true
is_open _ = false
