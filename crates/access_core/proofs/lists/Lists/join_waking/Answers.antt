use Rattle.std.proofs.Common.{rules}
use Rattle.access_core.proofs.lists.Lists.join_waking.Goals as goal

pub returns-in-Readers-clause-joined : goal.returns-in-Readers-clause-joined
returns-in-Readers-clause-joined c = rw c.in-Readers.is (search rules)

pub returns-in-Writer-clause-joined : goal.returns-in-Writer-clause-joined
returns-in-Writer-clause-joined c = rw c.in-Writer.is (search rules)
