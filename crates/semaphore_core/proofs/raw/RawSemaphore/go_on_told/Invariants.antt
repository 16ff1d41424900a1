use Rattle.std.proofs.Common.{◌≡◌, true, false}
use Rattle.lock_program.specs.declared.end.Next.TheVariants.{Do}
use Rattle.sync_program.specs.declared.permits.Place.TheVariants as places
use Rattle.semaphore_core.specs.Semaphores.{IsOf, IsSameSeat}
use Rattle.semaphore_core.proofs.raw.RawSemaphore.go_on_told.Given as goal

abbrev pub invariant-loop : goal.invariant-loop
invariant-loop g l = IsOf l.fn.self l.seat × IsSameSeat l.fn.seat l.seat × (l.seat.permits ≡ 0) × (l.seat.under_way ≡ 0) × (l.seat.listed ≡ false) × (l.seat.fresh ≡ false) × (l.seat.course ≡ Do (places.Take l.fn.permits false true)) × (l.cx ≡ l.fn.cx)
