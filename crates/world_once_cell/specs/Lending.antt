-- A cell's value, lent or taken from outside every call.
use Rattle.std.specs.Prelude.{ℕ, Option, Some, map}
use Rattle.std.specs.Borrow.{LendsIf, MutBor, Fml, u64}
use Rattle.world_base.specs.table.Lending.{table_with, forgotten_then}
use Rattle.world_once_cell.specs.program.Words.{refilled, value_in}
use Rattle.world_once_cell.specs.machine.Machine.{with_value}
use Rattle.world_once_cell.specs.contracts.world.World.{the_row}
use Rattle.world_once_cell.specs.State.{World}

-- The World with another value in the cell, or without the one that it had, from outside every call: a cell that isn't full stays as it is, the lists too, and whoever was pending is forgotten.
abbrev pub world_with : World → Option ℕ → World
world_with w v = record w {
  cell = refilled w.cell v;
  standings = map forgotten_then w.standings;
  behind = table_with with_value w.behind v;
}

-- The World ends with the last value that was left behind the reference; where none was lent, the cell is as it was.
abbrev pub LendsValue : MutBor World → Option (MutBor ℕ) → Fml
LendsValue w r = LendsIf the_row u64 w r (λ v. world_with w.now (Some v)) (world_with w.now (value_in w.now.cell))
