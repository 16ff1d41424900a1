use Rattle.std.proofs.Common.{◌≡◌}
use Rattle.futures.specs.Task.{Keeps}
use Rattle.lock_program.specs.declared.end.Next.TheVariants.{Do}
use Rattle.cell_core.specs.Cells.{IsOf, IsSameSeat, IsBetween}
use Rattle.cell_core.specs.Courses.{claiming_from}
use Rattle.cell_core.proofs.cell.RawCell.wait_to_make.Given as goal

abbrev pub invariant-loop : goal.invariant-loop
invariant-loop g l = IsOf l.fn.self l.seat × IsSameSeat l.fn.seat l.seat × IsBetween l.told l.seat × (l.seat.course ≡ Do (claiming_from l.kind l.told)) × Keeps l.initial.cx l.cx
