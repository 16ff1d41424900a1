-- The limits of a new World are the greatest that there may be, and so are no less in the opening one.
use Rattle.world_rwlock.proofs.world.World.new.Goals as goal

pub returns-clause-opening : goal.returns-clause-opening
returns-clause-opening c = c.with_limits.ensures.opening
