use Rattle.std.proofs.Common.{rules}
use Rattle.cell_core.proofs.lists.Lists.leave.Goals as goal

pub returns-in-Active : goal.returns-in-Active
returns-in-Active c = rw c.in-Active.is (search rules)

pub returns-in-Passive : goal.returns-in-Passive
returns-in-Passive c = rw c.in-Passive.is (search rules)
