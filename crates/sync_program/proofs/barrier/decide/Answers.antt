-- The inner lock is released before a party waits.
use Rattle.std.proofs.Common.{refl}
use Rattle.sync_program.proofs.barrier.decide.Goals as goal

pub returns-in-Arrive : goal.returns-in-Arrive
returns-in-Arrive c = rw c.in-Arrive.is refl
