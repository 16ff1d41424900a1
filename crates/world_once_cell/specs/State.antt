-- What callers see of a once-cell's World: what is in the cell, its lists, and how each party stands.
use Rattle.std.specs.Prelude.{◌≡◌, ℕ, Bool, true, false, List, [], slice_index_or, replicate, length}
use Rattle.lock_event.specs.declared.event.Entry.{Entry}
use Rattle.world_base.specs.declared.standing.Rest.TheVariants.{Idle}
use Rattle.world_base.specs.Standings.{Standing, outside, forgotten}
use Rattle.world_base.specs.table.Tables.{Table, new_table}
use Rattle.sync_program.specs.declared.once_cell.ListName.{ListName}
use Rattle.world_once_cell.specs.declared.program.words.Content.{Content}
use Rattle.world_once_cell.specs.declared.program.words.Content.TheVariants.{Empty, BeingMade, Full}
use Rattle.world_once_cell.specs.machine.Seats.{Task, no_task, fills_with}
use Rattle.world_once_cell.specs.program.Effects.{list_of}
use Rattle.world_once_cell.specs.machine.Machine.{OnceCell, new_cell}

-- What is in the cell: nothing, nothing yet while one party makes its value, or a value. The list of those that would make it, and the list of those that only wait, with their marks; how each party stands; and what each party's future is for. What stands behind the World is named by no clause but that of its own step.
pub record World : Type 0 where
  pub cell : Content
  pub active : List (Entry ℕ)
  pub passive : List (Entry ℕ)
  pub standings : List Standing
  pub tasks : List Task
  pub behind : Table OnceCell

abbrev pub is_empty : Content → Bool
is_empty Empty = true
is_empty (BeingMade q) = false
is_empty (Full v) = false

abbrev pub is_full : Content → Bool
is_full Empty = false
is_full (BeingMade q) = false
is_full (Full v) = true

-- The list of this name.
abbrev pub list_in : ListName → World → List (Entry ℕ)
list_in list w = list_of list w.active w.passive

-- A party past the table stands as one that is forgotten: it moves no more.
abbrev pub standing_of : World → ℕ → Standing
standing_of w p = slice_index_or w.standings p forgotten

-- What a party's future is for.
abbrev pub task_of : World → ℕ → Task
task_of w p = slice_index_or w.tasks p no_task

-- At most one party has a value with which it fills the cell, or has filled it and has still to tell.
abbrev pub HasOneTeller : World → Type 0
HasOneTeller w = (p q u v : ℕ) → task_of w p ≡ fills_with u → task_of w q ≡ fills_with v → p ≡ q

-- As it is made: empty, nobody is listed, and each party is idle.
abbrev pub new_world : ℕ → World
new_world parties = record {
  cell = Empty;
  active = [];
  passive = [];
  standings = replicate parties (outside Idle);
  tasks = replicate parties no_task;
  behind = new_table (new_cell parties) parties 0;
}

-- The World as it was made, by the number of its parties.
abbrev pub opening_of : World → World
opening_of w = new_world (length w.standings)
