-- Among as many solo polls as the lock's list has entries one takes the lock.
use Rattle.world_pool.proofs.bound.Bound.{bounded as law}
use Rattle.world_pool.proofs.world.World.solo_polls.Goals as goal

pub returns : goal.returns
returns c = λ rests wanted. law c.args.self.now (c.laws.ensures.awake rests) wanted
