-- As many leaders as generations.
use Rattle.world_barrier.proofs.Leaders.{as_many as law}
use Rattle.world_barrier.proofs.world.World.leaders.Goals as goal

pub returns : goal.returns
returns c = record { as_many = law }
