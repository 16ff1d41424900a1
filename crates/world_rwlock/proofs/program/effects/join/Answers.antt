-- Who has no memory joins nothing.
use Rattle.world_rwlock.proofs.program.effects.join.Goals as goal

pub returns-else-memory-clause-memory : goal.returns-else-memory-clause-memory
returns-else-memory-clause-memory c = c.if-memory.false
