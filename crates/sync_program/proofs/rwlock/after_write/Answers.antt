-- Who sets the writer's bit where nobody reads writes at once.
use Rattle.std.proofs.Common.{refl}
use Rattle.sync_program.proofs.rwlock.after_write.Goals as goal

pub returns-in-Mark-NoneLeft : goal.returns-in-Mark-NoneLeft
returns-in-Mark-NoneLeft c = rw (c.in-Mark-NoneLeft.is-0, c.in-Mark-NoneLeft.is-1) refl
