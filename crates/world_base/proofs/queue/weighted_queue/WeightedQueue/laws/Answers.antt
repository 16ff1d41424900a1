use Rattle.world_base.proofs.of_queue.Weighted.{laws}
use Rattle.world_base.proofs.queue.weighted_queue.WeightedQueue.laws.Goals as goal

pub returns : goal.returns
returns c = rw (← c.self.view_is) (laws c.self.inside.seats.items c.self.inside.weights.items c.self.inside.list.entries c.self.inside.list.room c.self.invariant c.at_most_one.ensures)
