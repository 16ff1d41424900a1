-- The greatest limit is that of the number.
use Rattle.world_pool.proofs.world.World.new.Goals as goal

pub returns-clause-opening : goal.returns-clause-opening
returns-clause-opening c = c.with_limits.ensures.opening
