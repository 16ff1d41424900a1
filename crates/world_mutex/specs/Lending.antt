-- A mutex's value, lent from outside every call.
use Rattle.std.specs.Prelude.{ℕ, map}
use Rattle.std.specs.Borrow.{Lends, MutBor, Fml, u64}
use Rattle.world_mutex.specs.contracts.world.World.{the_row}
use Rattle.world_base.specs.table.Lending.{table_with, forgotten_then}
use Rattle.world_mutex.specs.Guarded.{with_value}
use Rattle.world_mutex.specs.State.{World}

-- The World once a value was put from outside every call: the state keeps its holder and its starved set, and whoever was pending or held the lock is forgotten.
abbrev pub world_with : World → ℕ → World
world_with w v = record w {
  state = record w.state { value = v };
  standings = map forgotten_then w.standings;
  behind = table_with with_value w.behind v;
}

-- The World ends with the last value that was left behind the reference.
abbrev pub LendsValue : MutBor World → MutBor ℕ → Fml
LendsValue w r = Lends the_row u64 w r (world_with w.now)
