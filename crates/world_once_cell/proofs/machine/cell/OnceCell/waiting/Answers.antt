-- A list is counted by its name.
use Rattle.world_once_cell.proofs.machine.cell.OnceCell.waiting.Goals as goal

pub returns-in-Active : goal.returns-in-Active
returns-in-Active c = rw c.in-Active.is (rw (← c.self.view_is) c.len.ensures)
