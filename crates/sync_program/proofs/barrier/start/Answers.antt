-- A wait arrives with the inner lock.
use Rattle.std.proofs.Common.{refl}
use Rattle.sync_program.proofs.barrier.start.Goals as goal

pub returns-in-Wait-Out : goal.returns-in-Wait-Out
returns-in-Wait-Out c = rw (c.in-Wait-Out.is-0, c.in-Wait-Out.is-1) refl
