use Rattle.std.proofs.Common.{◌≡◌}
use Rattle.cell_core.proofs.cell.RawCell.pay_rest.Given as goal

abbrev pub invariant-loop : goal.invariant-loop
invariant-loop g l = l.seat ≡ l.initial.seat
