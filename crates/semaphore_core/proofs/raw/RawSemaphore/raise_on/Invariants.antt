use Rattle.std.proofs.Common.{◌≡◌}
use Rattle.lock_program.specs.declared.end.Next.TheVariants.{Do}
use Rattle.sync_program.specs.declared.permits.Place.TheVariants as places
use Rattle.semaphore_core.specs.Semaphores.{IsNew}
use Rattle.semaphore_core.proofs.raw.RawSemaphore.raise_on.Given as goal

abbrev pub invariant-loop : goal.invariant-loop
invariant-loop g l = IsNew l.fn.self l.seat × (l.seat.course ≡ Do (places.Raise l.fn.permits))
