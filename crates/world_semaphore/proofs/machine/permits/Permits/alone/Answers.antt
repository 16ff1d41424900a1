-- Calls that are carried out alone.
use Rattle.world_semaphore.proofs.of_machine.callers.InVain.{alone as law}
use Rattle.world_semaphore.proofs.of_machine.callers.Laws.{is_permits}
use Rattle.world_semaphore.proofs.machine.permits.Permits.alone.Goals as goal

pub returns : goal.returns
returns c = law c.args.self.now (rw (← c.self.view_is) (is_permits c.self.inside.machine c.self.invariant c.laws.ensures))
