-- A notified reader passes on what it was told.
use Rattle.std.proofs.Common.{refl}
use Rattle.sync_program.proofs.rwlock.after_read.Goals as goal

pub returns-in-AskNoWriter-Yes : goal.returns-in-AskNoWriter-Yes
returns-in-AskNoWriter-Yes c = rw (c.in-AskNoWriter-Yes.is-0, c.in-AskNoWriter-Yes.is-1) refl
