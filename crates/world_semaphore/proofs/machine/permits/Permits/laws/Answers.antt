-- What always holds of the machine, said of the semaphore.
use Rattle.world_semaphore.proofs.of_machine.callers.Laws.{is_permits}
use Rattle.world_semaphore.proofs.machine.permits.Permits.laws.Goals as goal

pub returns : goal.returns
returns c = rw (← c.self.view_is) (is_permits c.self.inside.machine c.self.invariant c.laws.ensures)
