-- The table's step is legal, as callers see it, and at most one party fills the cell still.
use Rattle.world_once_cell.proofs.step.Stepping.{stepped, one_still}
use Rattle.world_once_cell.proofs.world.World.step.Goals as goal

pub invariant_of-self : goal.invariant_of-self
invariant_of-self c =
    one_still c.self.inside.table c.step-answer.new.self c.args.m.now c.step-answer.result
    (rw c.machine.ensures at c.laws-2.ensures) c.laws.ensures.fits (rw c.machine-2.ensures at c.laws-4.ensures) c.laws-3.ensures.fits c.self.invariant c.step-answer.ensures

pub returns : goal.returns
returns c =
    rw (← c.self.view_is) (stepped c.self.inside.table c.step-answer.new.self c.args.m.now c.step-answer.result
    (rw c.machine.ensures at c.laws-2.ensures) c.laws.ensures.fits (rw c.machine-2.ensures at c.laws-4.ensures) c.laws-3.ensures.fits c.self.invariant c.step-answer.ensures)
