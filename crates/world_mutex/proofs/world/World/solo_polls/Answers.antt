-- Solo polls in turn.
use Rattle.world_mutex.proofs.bound.Bound.{bounded as law}
use Rattle.world_mutex.proofs.world.World.solo_polls.Goals as goal

pub returns : goal.returns
returns c = record { bounded = λ rest wanted. law c.args.self.now c.laws.ensures.sound (c.laws.ensures.awake rest) wanted }
