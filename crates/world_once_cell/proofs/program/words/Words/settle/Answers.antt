-- A value that is there stays.
use Rattle.std.proofs.Common.{refl}
use Rattle.world_once_cell.proofs.program.words.Words.settle.Goals as goal

pub returns-else-is_none-clause-content : goal.returns-else-is_none-clause-content
returns-else-is_none-clause-content c = refl
