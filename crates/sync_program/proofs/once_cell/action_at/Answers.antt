-- Each party joins its own list, and one that was refused hands on what it was told.
use Rattle.std.proofs.Common.{refl}
use Rattle.sync_program.proofs.once_cell.action_at.Goals as goal

pub returns-in-JoinActive : goal.returns-in-JoinActive
returns-in-JoinActive g c = rw c.in-JoinActive.is refl

pub returns-in-JoinPassive : goal.returns-in-JoinPassive
returns-in-JoinPassive g c = rw c.in-JoinPassive.is refl

pub returns-in-RefusePassive : goal.returns-in-RefusePassive
returns-in-RefusePassive g c = rw c.in-RefusePassive.is refl
