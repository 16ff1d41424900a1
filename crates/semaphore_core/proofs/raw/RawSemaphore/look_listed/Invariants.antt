use Rattle.std.proofs.Common.{◌≡◌, true, false}
use Rattle.lock_program.specs.declared.end.Next.TheVariants.{Do}
use Rattle.semaphore_core.specs.Semaphores.{IsOf, IsSameSeat}
use Rattle.semaphore_core.proofs.raw.RawSemaphore.look_listed.Given as goal

abbrev pub invariant-loop : goal.invariant-loop
invariant-loop g l = IsOf l.fn.self l.seat × IsSameSeat l.fn.seat l.seat × (l.seat.permits ≡ 0) × (l.seat.under_way ≡ 0) × (l.seat.owes ≡ false) × (l.seat.listed ≡ true) × (l.seat.entry ≡ l.fn.id.number) × (l.seat.weight ≡ l.fn.permits) × (l.seat.course ≡ Do l.fn.at) × (l.cx ≡ l.fn.cx)
