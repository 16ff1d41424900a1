-- A maker that failed notifies one, and a value that entered is told in both lists.
use Rattle.std.proofs.Common.{refl}
use Rattle.sync_program.proofs.once_cell.decide.Goals as goal

pub returns-in-Fail : goal.returns-in-Fail
returns-in-Fail g c = rw c.in-Fail.is refl

pub returns-in-NotifyActive : goal.returns-in-NotifyActive
returns-in-NotifyActive g c = rw c.in-NotifyActive.is refl
