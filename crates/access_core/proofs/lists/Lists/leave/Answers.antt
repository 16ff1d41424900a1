use Rattle.std.proofs.Common.{rules}
use Rattle.access_core.proofs.lists.Lists.leave.Goals as goal

pub returns-in-Readers : goal.returns-in-Readers
returns-in-Readers c = rw c.in-Readers.is (search rules)

pub returns-in-Writer : goal.returns-in-Writer
returns-in-Writer c = rw c.in-Writer.is (search rules)
