-- Too many permits are refused by their name.
use Rattle.std.proofs.Common.{refl}
use Rattle.world_semaphore.proofs.machine.words.may_begin_with.Goals as goal

pub returns-else-permits-most-clause-refused : goal.returns-else-permits-most-clause-refused
returns-else-permits-most-clause-refused c = (refl, c.if-permits-most.false)
