use Rattle.std.proofs.Common.{rules}
use Rattle.access_core.proofs.lists.Lists.ask.Goals as goal

pub returns-in-Readers-clause-asked : goal.returns-in-Readers-clause-asked
returns-in-Readers-clause-asked c = rw c.in-Readers.is (search rules)

pub returns-in-Writer-clause-asked : goal.returns-in-Writer-clause-asked
returns-in-Writer-clause-asked c = rw c.in-Writer.is (search rules)
