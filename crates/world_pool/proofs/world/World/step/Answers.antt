-- The table's step is legal, as callers see it.
use Rattle.world_pool.proofs.step.Stepping.{stepped}
use Rattle.world_pool.proofs.world.World.step.Goals as goal

pub returns : goal.returns
returns c =
    rw (← c.self.view_is) (stepped c.self.inside.table c.step-answer.new.self c.args.m.now c.step-answer.result
    (rw c.machine.ensures at c.laws-2.ensures) c.laws.ensures.fits (rw c.machine-2.ensures at c.laws-4.ensures) c.laws-3.ensures.fits c.step-answer.ensures)
