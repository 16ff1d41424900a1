-- A new cell.
use Rattle.std.proofs.Common.{arith}
use Rattle.world_once_cell.proofs.of_machine.laws.New.{new_is}
use Rattle.world_once_cell.proofs.machine.cell.OnceCell.new.Goals as goal

pub invariant_of-result : goal.invariant_of-result
invariant_of-result c =
    rw (c.new-3.ensures.kept, c.in_ok-active.ensures, c.in_ok-passive.ensures, c.in_ok-positions.ensures) (new_is c.args.parties (omega (arith, c.ranges.parties)))
