-- The greatest limit is that of the numbers.
use Rattle.world_semaphore.proofs.world.World.new.Goals as goal

pub returns-clause-opening : goal.returns-clause-opening
returns-clause-opening c = c.over.ensures.opening
