-- What always holds of the fields, said of the value.
use Rattle.world_barrier.proofs.of_machine.laws.Laws.{is_barrier}
use Rattle.world_barrier.proofs.machine.barrier.Barrier.laws.Goals as goal

pub returns : goal.returns
returns c =
    rw (← c.self.view_is)
    (is_barrier c.self.inside.words c.self.inside.positions.items c.self.inside.arrivals.items c.self.inside.list c.self.inside.lock c.self.invariant c.laws.ensures c.laws-2.ensures.in_order)
