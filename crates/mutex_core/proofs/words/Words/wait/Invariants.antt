use Rattle.std.proofs.Common.{◌≡◌}
use Rattle.lock_program.specs.declared.end.Next.TheVariants.{Do}
use Rattle.lock_program.specs.declared.mutex.Place.TheVariants as at
use Rattle.mutex_core.specs.Locks.{IsAway, IsOf, IsSameSeat}
use Rattle.mutex_core.proofs.words.Words.wait.Given as goal

abbrev pub invariant-loop : goal.invariant-loop
invariant-loop g l = IsOf l.fn.self l.seat × IsSameSeat l.fn.seat l.seat × IsAway l.seat × (l.seat.course ≡ Do at.Retry) × (l.cx ≡ l.fn.cx)
