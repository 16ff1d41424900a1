use Rattle.std.proofs.Common.{rules}
use Rattle.cell_core.proofs.lists.Lists.ask.Goals as goal

pub returns-in-Active-clause-asked : goal.returns-in-Active-clause-asked
returns-in-Active-clause-asked c = rw c.in-Active.is (search rules)

pub returns-in-Passive-clause-asked : goal.returns-in-Passive-clause-asked
returns-in-Passive-clause-asked c = rw c.in-Passive.is (search rules)
