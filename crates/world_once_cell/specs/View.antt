-- How callers see what stands behind a once-cell's World.
use Rattle.std.specs.Prelude.{map}
use Rattle.world_base.specs.table.Tables.{Table}
use Rattle.world_base.specs.table.Views.{standings}
use Rattle.world_once_cell.specs.machine.Seats.{task_at, verdict}
use Rattle.world_once_cell.specs.machine.Machine.{OnceCell, position_at}
use Rattle.world_once_cell.specs.State.{World}

abbrev pub view_of : Table OnceCell → World
view_of t = record {
  cell = t.machine.content;
  active = t.machine.active;
  passive = t.machine.passive;
  standings = standings (λ p. verdict (position_at t.machine.positions p)) t.stages;
  tasks = map task_at t.machine.positions;
  behind = t;
}
