-- Overtakings of a starved party.
use Rattle.world_mutex.proofs.bound.InTurn.{overtaken_in_steps}
use Rattle.world_mutex.proofs.bound.Overtaking.{overtaken_seldom}
use Rattle.world_mutex.proofs.world.World.overtakings.Goals as goal

pub returns : goal.returns
returns c = record { seldom = overtaken_seldom c.args.self.now c.laws.ensures.sound; in_steps = overtaken_in_steps c.args.self.now }
