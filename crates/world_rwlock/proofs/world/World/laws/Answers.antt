-- What holds of the table holds as callers see it.
use Rattle.world_rwlock.proofs.bound.Ending.{ends_soon}
use Rattle.world_rwlock.proofs.bound.Patience.{starves_for_cause}
use Rattle.world_rwlock.proofs.laws.Sound.{sound, awake}
use Rattle.world_rwlock.proofs.world.World.laws.Goals as goal

pub returns-clause-sound : goal.returns-clause-sound
returns-clause-sound c = rw (← c.self.view_is) (sound c.self.inside.table (rw c.machine.ensures at c.laws-2.ensures.lock) c.laws.ensures.fits)

pub returns-clause-awake : goal.returns-clause-awake
returns-clause-awake c = rw (← c.self.view_is) (λ rests. awake c.self.inside.table (rw c.machine.ensures at c.laws-2.ensures.lock) c.laws.ensures.fits rests)

pub returns-clause-ends_soon : goal.returns-clause-ends_soon
returns-clause-ends_soon c = ends_soon c.args.self.now

pub returns-clause-starves_for_cause : goal.returns-clause-starves_for_cause
returns-clause-starves_for_cause c = starves_for_cause c.args.self.now
