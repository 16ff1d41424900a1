use Rattle.std.proofs.Common.{ap}
use Rattle.lockrun_play.specs.declared.world.World.TheVariants.{RwLock}
use Rattle.lockrun_play.proofs.world.new_rwlock.Goals as goal

-- Each limit stands at its own place.
pub returns-clause-made : goal.returns-clause-made
returns-clause-made c = ap RwLock (rw (← c.limit-starved.ensures, ← c.limit-readers.ensures) c.in_ok-world.ensures.opening)
