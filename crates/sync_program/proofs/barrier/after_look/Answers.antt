-- An arrival that has to wait joins the list before it is counted.
use Rattle.std.proofs.Common.{refl}
use Rattle.sync_program.proofs.barrier.after_look.Goals as goal

pub returns-in-MustWait : goal.returns-in-MustWait
returns-in-MustWait c = rw c.in-MustWait.is refl
