use Rattle.std.proofs.Common.{refl}
use Rattle.lockrun_play.proofs.played.mutex.WorldPlayed.put.Goals as goal

-- A mutex at rest gets the value.
pub returns-then-at_rest-clause-put : goal.returns-then-at_rest-clause-put
returns-then-at_rest-clause-put c = rw (← c.at_rest.ensures, c.if-at_rest.true) refl
