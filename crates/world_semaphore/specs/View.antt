-- How callers see what stands behind a semaphore's World.
use Rattle.std.specs.Prelude.{map}
use Rattle.world_base.specs.table.Tables.{Table}
use Rattle.world_base.specs.table.Views.{standings}
use Rattle.world_semaphore.specs.machine.Seats.{share_of, size_at, debt_at, verdict}
use Rattle.world_semaphore.specs.machine.Machine.{Semaphore, position_at}
use Rattle.world_semaphore.specs.State.{World}

abbrev pub view_of : Table Semaphore → World
view_of t = record {
  state = record { limit = t.machine.words.limit; shares = map share_of t.machine.positions };
  entries = t.machine.entries;
  standings = standings (λ p. verdict (position_at t.machine.positions p)) t.stages;
  sizes = map size_at t.machine.positions;
  debts = map debt_at t.machine.positions;
  most = t.machine.words.most;
  opening_permits = t.opening;
  behind = t;
}
