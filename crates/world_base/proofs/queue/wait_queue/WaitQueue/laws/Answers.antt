use Rattle.world_base.proofs.of_queue.Queues.{laws}
use Rattle.world_base.proofs.queue.wait_queue.WaitQueue.laws.Goals as goal

pub returns : goal.returns
returns c = rw (← c.self.view_is) (laws c.self.inside.seats.items c.self.inside.list.entries c.self.inside.list.room c.self.invariant c.in_order.ensures)
