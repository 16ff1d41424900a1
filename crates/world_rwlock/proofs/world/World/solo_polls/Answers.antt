-- Solo polls in turn.
use Rattle.world_rwlock.proofs.bound.Bound.{turn_bounded, reading_bounded, writing_bounded}
use Rattle.world_rwlock.proofs.bound.Drains.{lets_in}
use Rattle.world_rwlock.proofs.world.World.solo_polls.Goals as goal

pub returns : goal.returns
returns c = record {
  turn = λ rest wanted. turn_bounded c.args.self.now c.laws.ensures.sound (c.laws.ensures.awake rest) wanted;
  reading = λ rest wanted. reading_bounded c.args.self.now c.laws.ensures.sound (c.laws.ensures.awake rest) wanted;
  writing = λ rest wanted. writing_bounded c.args.self.now c.laws.ensures.sound (c.laws.ensures.awake rest) wanted;
  readers_in = λ rest. lets_in c.args.self.now rest c.laws.ensures.sound (c.laws.ensures.awake rest);
}
