-- A refused read that was notified hands that on.
use Rattle.std.proofs.Common.{refl}
use Rattle.sync_program.proofs.rwlock.refuse_read.Goals as goal

pub returns-then-told : goal.returns-then-told
returns-then-told c = rw c.if-told.true refl
