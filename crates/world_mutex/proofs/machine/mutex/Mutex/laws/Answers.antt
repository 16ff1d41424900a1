-- What always holds of the machine, said of the mutex.
use Rattle.world_mutex.proofs.of_machine.legal.Clauses.{is_mutex}
use Rattle.world_mutex.proofs.machine.mutex.Mutex.laws.Goals as goal

pub returns : goal.returns
returns c = rw (← c.self.view_is) (is_mutex c.self.inside.machine c.self.invariant c.laws.ensures)
