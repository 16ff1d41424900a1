use Rattle.std.proofs.Common.{◌≡◌}
use Rattle.futures.specs.Task.{Keeps}
use Rattle.lock_program.specs.declared.end.Next.TheVariants.{Do}
use Rattle.sync_program.specs.declared.once_cell.Place.TheVariants.{Look}
use Rattle.cell_core.specs.Cells.{IsOf, IsSameSeat, IsIdle}
use Rattle.cell_core.proofs.cell.RawCell.wait_on.Given as goal

abbrev pub invariant-loop : goal.invariant-loop
invariant-loop g l = IsOf l.fn.self l.seat × IsSameSeat l.fn.seat l.seat × IsIdle l.seat × (l.seat.course ≡ Do (Look l.told)) × Keeps l.initial.cx l.cx
