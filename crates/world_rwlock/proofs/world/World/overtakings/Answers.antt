-- Overtakings of a party that is starved for the turn.
use Rattle.world_rwlock.proofs.bound.InTurn.{overtaken_in_steps}
use Rattle.world_rwlock.proofs.bound.Overtaking.{overtaken_seldom}
use Rattle.world_rwlock.proofs.world.World.overtakings.Goals as goal

pub returns : goal.returns
returns c = record { seldom = overtaken_seldom c.args.self.now c.laws.ensures.sound; in_steps = overtaken_in_steps c.args.self.now }
