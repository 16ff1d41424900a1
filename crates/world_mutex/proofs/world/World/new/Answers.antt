-- The limit of a new World is the greatest that there may be, and so is no less in the opening one.
use Rattle.world_mutex.proofs.world.World.new.Goals as goal

pub returns-clause-opening : goal.returns-clause-opening
returns-clause-opening c = c.with_limits.ensures.opening
