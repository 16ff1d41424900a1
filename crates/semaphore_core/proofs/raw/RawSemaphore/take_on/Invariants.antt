use Rattle.std.proofs.Common.{◌≡◌}
use Rattle.lock_program.specs.declared.end.Next.TheVariants.{Do}
use Rattle.semaphore_core.specs.Semaphores.{Has, IsSameSeat}
use Rattle.semaphore_core.proofs.raw.RawSemaphore.take_on.Given as goal

abbrev pub invariant-loop : goal.invariant-loop
invariant-loop g l = Has l.fn.self 0 l.seat × IsSameSeat l.initial.seat l.seat × (l.seat.course ≡ Do l.fn.at)
