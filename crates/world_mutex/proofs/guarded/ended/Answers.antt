-- A try that got the lock is granted its value.
use Rattle.std.proofs.Common.{refl}
use Rattle.world_mutex.proofs.guarded.ended.Goals as goal

pub returns-in-Got : goal.returns-in-Got
returns-in-Got c = rw (c.in-Got.is, c.if-trying.true) refl
