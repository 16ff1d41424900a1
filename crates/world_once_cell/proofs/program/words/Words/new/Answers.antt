-- A new cell is empty.
use Rattle.std.proofs.Common.{refl}
use Rattle.world_once_cell.proofs.program.words.Words.new.Goals as goal

pub returns-clause-content : goal.returns-clause-content
returns-clause-content c = refl

pub returns-clause-kept : goal.returns-clause-kept
returns-clause-kept c = refl
