-- A first poll begins by taking the lock, if it is free.
use Rattle.std.proofs.Common.{refl}
use Rattle.lock_program.proofs.mutex.start.Goals as goal

pub returns-in-Lock-Out : goal.returns-in-Lock-Out
returns-in-Lock-Out c = rw (c.in-Lock-Out.is-0, c.in-Lock-Out.is-1) refl
