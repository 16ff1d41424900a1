use Rattle.std.proofs.Common.{rules}
use Rattle.cell_core.proofs.lists.Lists.join.Goals as goal

pub returns-in-Active-clause-joined : goal.returns-in-Active-clause-joined
returns-in-Active-clause-joined c = rw c.in-Active.is (search rules)

pub returns-in-Passive-clause-joined : goal.returns-in-Passive-clause-joined
returns-in-Passive-clause-joined c = rw c.in-Passive.is (search rules)
