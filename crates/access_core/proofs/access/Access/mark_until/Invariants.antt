use Rattle.access_core.specs.Accesses.{IsInCall, IsIdle}
use Rattle.access_core.proofs.access.Access.mark_until.Given as goal

abbrev pub invariant-loop : goal.invariant-loop
invariant-loop g l = IsInCall l.initial.seat l.seat × IsIdle l.seat
