-- A reader that waits joins the list of those that wait for no writer.
use Rattle.std.proofs.Common.{refl}
use Rattle.sync_program.proofs.rwlock.action_at.Goals as goal

pub returns-in-JoinNoWriter : goal.returns-in-JoinNoWriter
returns-in-JoinNoWriter c = rw c.in-JoinNoWriter.is refl
