-- The greatest limit is that of the numbers.
use Rattle.world_barrier.proofs.world.World.new.Goals as goal

pub returns-clause-opening : goal.returns-clause-opening
returns-clause-opening c = c.with_limits.ensures.opening
