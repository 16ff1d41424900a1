-- The first solo poll takes, and each of those that are notified in turn.
use Rattle.world_semaphore.proofs.bound.Bound.{bounded as law}
use Rattle.world_semaphore.proofs.bound.Drains.{drains as in_turn}
use Rattle.world_semaphore.proofs.world.World.solo_polls.Goals as goal

pub returns : goal.returns
returns c = record {
  bounded = λ rests wanted. law c.args.self.now c.laws.ensures.sound (c.laws.ensures.awake rests) wanted;
  drains = λ rests. in_turn c.args.self.now rests c.laws.ensures.sound (c.laws.ensures.awake rests);
}
