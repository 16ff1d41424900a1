-- A downgrade leaves a party that reads.
use Rattle.std.proofs.Common.{refl}
use Rattle.sync_program.proofs.rwlock.released.Goals as goal

pub returns-in-Reading : goal.returns-in-Reading
returns-in-Reading c = rw c.in-Reading.is refl
