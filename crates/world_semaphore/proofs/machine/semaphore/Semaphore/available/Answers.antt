-- Only permits that nobody has are available.
use Rattle.std.proofs.Common.{refl}
use Rattle.world_semaphore.proofs.machine.semaphore.Semaphore.available.Goals as goal

pub returns : goal.returns
returns c = rw (← c.self.view_is) refl
