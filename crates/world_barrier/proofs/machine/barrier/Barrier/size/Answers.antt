-- A barrier is for as many as its size.
use Rattle.std.proofs.Common.{refl}
use Rattle.world_barrier.proofs.machine.barrier.Barrier.size.Goals as goal

pub returns : goal.returns
returns c = rw (← c.self.view_is) refl
