use Rattle.std.proofs.Common.{◌≡◌}
use Rattle.access_core.specs.Accesses.{with_found}
use Rattle.access_core.proofs.access.Access.enter.Given as goal

abbrev pub invariant-loop : goal.invariant-loop
invariant-loop g l = l.seat ≡ with_found l.seat.found l.initial.seat
