use Rattle.std.proofs.Common.{◌≡◌}
use Rattle.lock_program.specs.declared.end.Next.TheVariants.{Do}
use Rattle.lock_program.specs.declared.mutex.Place.TheVariants as at
use Rattle.mutex_core.specs.Locks.{IsOf, IsSameSeat, IsStarving}
use Rattle.mutex_core.proofs.words.Words.strive.Given as goal

abbrev pub invariant-loop : goal.invariant-loop
invariant-loop g l = IsOf l.fn.self l.seat × IsSameSeat l.fn.seat l.seat × IsStarving l.seat × (l.seat.course ≡ Do at.Seize) × (l.cx ≡ l.fn.cx)
