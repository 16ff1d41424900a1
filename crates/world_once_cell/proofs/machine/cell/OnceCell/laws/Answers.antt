-- What always holds of a cell's fields, as callers see it.
use Rattle.world_once_cell.specs.program.Words.{content_of}
use Rattle.world_once_cell.proofs.of_machine.laws.Laws.{is_cell}
use Rattle.world_once_cell.proofs.of_machine.laws.Taken.{settled}
use Rattle.world_once_cell.proofs.machine.cell.OnceCell.laws.Goals as goal

pub returns : goal.returns
returns c = rw (← c.self.view_is) (is_cell (content_of c.self.inside.words) c.self.inside.positions.items c.self.inside.active c.self.inside.passive (settled c.self.inside.positions.items c.self.inside.active c.self.inside.passive c.self.inside.words c.self.invariant) c.laws.ensures.in_order c.laws-2.ensures.in_order)
