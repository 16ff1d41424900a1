-- Among as many solo polls as the list has entries one takes.
use Rattle.world_barrier.proofs.bound.Bound.{bounded as law}
use Rattle.world_barrier.proofs.world.World.solo_polls.Goals as goal

pub returns : goal.returns
returns c = record { bounded = λ rests wanted. law c.args.self.now c.laws.ensures.sound (c.laws.ensures.awake rests) wanted }
