use Rattle.std.proofs.Common.{◌≡◌}
use Rattle.barrier_core.proofs.raw.RawBarrier.pay_rest.Given as goal

abbrev pub invariant-loop : goal.invariant-loop
invariant-loop g l = l.seat ≡ l.initial.seat
