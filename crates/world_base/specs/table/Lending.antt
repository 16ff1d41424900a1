-- A value that is lent from outside every call.
use Rattle.std.specs.Prelude.{map}
use Rattle.std.specs.Borrow.{Lends, MutBor, Fml, RattleType}
use Rattle.world_base.specs.declared.standing.Rest.TheVariants.{Pending, Holding}
use Rattle.world_base.specs.Standings.{Standing, outside, forgotten, forgets}
use Rattle.world_base.specs.table.Tables.{Table}
use Rattle.world_base.specs.declared.table.machine.Machine.{Ghosts}
use Rattle.world_base.specs.contracts.table.table.Table.{the_row}

-- The table once a value was put: the machine has it, and whoever was pending or had a right is forgotten.
abbrev pub table_with : {M V : Type 0} → (M → V → M) → Table M → V → Table M
table_with with_value t v = record { machine = with_value t.machine v; stages = map forgets t.stages; opening = t.opening }

-- How callers see that: whoever is pending or has a right is forgotten.
abbrev pub forgotten_then : Standing → Standing
forgotten_then (outside Pending) = forgotten
forgotten_then (outside Holding) = forgotten
forgotten_then s = s

-- The table ends with the last value that was left behind the reference.
abbrev pub LendsValue : (M V : RattleType) (machine : Ghosts M.Denot) → (M.Denot → V.Denot → M.Denot) → MutBor (Table M.Denot) → MutBor V.Denot → Fml
LendsValue M V machine with_value t r = Lends (the_row M machine) V t r (table_with with_value t.now)
