-- Overtakings of a party that is starved for the inner lock.
use Rattle.world_barrier.proofs.bound.InTurn.{overtaken_in_steps}
use Rattle.world_barrier.proofs.world.World.overtakings.Goals as goal

pub returns : goal.returns
returns c = overtaken_in_steps c.args.self.now
