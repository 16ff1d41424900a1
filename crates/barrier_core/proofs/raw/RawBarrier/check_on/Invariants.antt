use Rattle.std.proofs.Common.{◌≡◌}
use Rattle.futures.specs.Task.{Keeps}
use Rattle.lock_program.specs.declared.end.Next.TheVariants.{Do}
use Rattle.sync_program.specs.declared.barrier.Aim.TheVariants.{Check}
use Rattle.sync_program.specs.declared.barrier.Place.TheVariants.{EnterLock}
use Rattle.barrier_core.specs.Barriers.{IsSameSeat}
use Rattle.barrier_core.specs.Counts.{IsOfThis}
use Rattle.barrier_core.proofs.raw.RawBarrier.check_on.Given as goal

abbrev pub invariant-loop : goal.invariant-loop
invariant-loop g l = IsOfThis l.fn.self l.arrival × IsSameSeat l.fn.arrival.seat l.arrival.seat × (l.arrival.generation ≡ l.initial.arrival.generation) × (l.arrival.seat.course ≡ Do (EnterLock Check)) × Keeps l.initial.cx l.cx
