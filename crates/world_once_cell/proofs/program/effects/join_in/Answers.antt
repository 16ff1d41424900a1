-- There is no join without memory.
use Rattle.world_once_cell.proofs.program.effects.join_in.Goals as goal

pub returns-else-memory-clause-finds : goal.returns-else-memory-clause-finds
returns-else-memory-clause-finds c = c.if-memory.false
