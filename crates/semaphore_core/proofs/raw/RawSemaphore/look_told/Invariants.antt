use Rattle.std.proofs.Common.{◌≡◌, true}
use Rattle.lock_program.specs.declared.end.Next.TheVariants.{Do}
use Rattle.sync_program.specs.declared.permits.Place.TheVariants as places
use Rattle.semaphore_core.specs.Semaphores.{IsOf, IsSameSeat}
use Rattle.semaphore_core.proofs.raw.RawSemaphore.look_told.Given as goal

abbrev pub invariant-loop : goal.invariant-loop
invariant-loop g l = IsOf l.fn.self l.seat × IsSameSeat l.initial.seat l.seat × (l.seat.permits ≡ 0) × (l.seat.under_way ≡ 0) × (l.seat.listed ≡ true) × (l.seat.entry ≡ l.initial.seat.entry) × (l.seat.weight ≡ l.fn.permits) × (l.seat.course ≡ Do (places.Take l.fn.permits true true))
