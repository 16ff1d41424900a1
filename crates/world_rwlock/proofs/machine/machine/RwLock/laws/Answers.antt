-- What always holds of the fields, said of the value.
use Rattle.world_rwlock.proofs.of_machine.laws.Laws.{is_rwlock}
use Rattle.world_rwlock.proofs.machine.machine.RwLock.laws.Goals as goal

pub returns : goal.returns
returns c =
    rw (← c.self.view_is)
    (is_rwlock c.self.inside.word c.self.inside.places.items c.self.inside.no_writer c.self.inside.no_readers c.self.inside.turn c.self.invariant c.laws.ensures c.laws-2.ensures.in_order c.laws-3.ensures.in_order)
