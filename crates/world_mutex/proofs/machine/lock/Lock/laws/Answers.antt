-- What always holds of the fields, said of the value.
use Rattle.world_mutex.proofs.of_machine.laws.Laws.{is_mutex}
use Rattle.world_mutex.proofs.machine.lock.Lock.laws.Goals as goal

pub returns : goal.returns
returns c = rw (← c.self.view_is) (is_mutex c.self.inside.word c.self.inside.places.items c.self.inside.list c.self.invariant c.laws.ensures.in_order)
