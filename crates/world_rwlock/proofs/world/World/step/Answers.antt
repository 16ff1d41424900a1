-- The table's step is legal, and answered at once where it should be, as callers see it.
use Rattle.world_rwlock.proofs.step.Stepping.{stepped}
use Rattle.world_rwlock.proofs.world.World.step.Goals as goal

pub returns : goal.returns
returns c =
    rw (← c.self.view_is) (stepped c.self.inside.table c.step-answer.new.self c.args.m.now c.step-answer.result
    (record { lock = rw c.machine.ensures at c.laws-2.ensures.lock; fits = c.laws.ensures.fits }) (record { lock = rw c.machine-2.ensures at c.laws-4.ensures.lock; fits = c.laws-3.ensures.fits }) c.step-answer.ensures)
