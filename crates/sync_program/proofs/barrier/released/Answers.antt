-- A refused arrival is not counted.
use Rattle.std.proofs.Common.{refl}
use Rattle.sync_program.proofs.barrier.released.Goals as goal

pub returns-in-RefuseGenerations : goal.returns-in-RefuseGenerations
returns-in-RefuseGenerations c = rw c.in-RefuseGenerations.is refl
