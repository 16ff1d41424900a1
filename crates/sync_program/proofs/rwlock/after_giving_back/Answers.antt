-- The last reader that goes notifies the list of those that wait for no readers.
use Rattle.std.proofs.Common.{refl}
use Rattle.sync_program.proofs.rwlock.after_giving_back.Goals as goal

pub returns-in-DropRead-NoneLeft : goal.returns-in-DropRead-NoneLeft
returns-in-DropRead-NoneLeft c = rw (c.in-DropRead-NoneLeft.is-0, c.in-DropRead-NoneLeft.is-1) refl
