use Rattle.barrier_core.proofs.Returning.{stays}
use Rattle.barrier_core.proofs.raw.RawBarrier.pay_next.Goals as goal

pub give_same-found-requires-clause-list : goal.give_same-found-requires-clause-list
give_same-found-requires-clause-list g c = stays c.take_out-found.new.inner.me c.take_out-found.ensures.held c.slot_mut-list.result.now (record c.slot_mut-list.result.now { queue = c.next_due.new.self }) c.says-word.result c.slot_mut-list.ensures.value c.says-word.ensures c.next_due.ensures.0
