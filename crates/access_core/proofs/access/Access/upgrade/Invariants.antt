use Rattle.access_core.specs.Accesses.{IsInCall, IsReading}
use Rattle.access_core.proofs.access.Access.upgrade.Given as goal

abbrev pub invariant-loop : goal.invariant-loop
invariant-loop g l = IsInCall l.initial.seat l.seat × IsReading l.seat
