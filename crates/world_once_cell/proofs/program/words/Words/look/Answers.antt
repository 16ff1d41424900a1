-- A look finds what is in the cell.
use Rattle.world_once_cell.proofs.program.words.Words.look.Goals as goal

pub returns-in-Full : goal.returns-in-Full
returns-in-Full c = rw c.content.ensures at c.in-Full.is
