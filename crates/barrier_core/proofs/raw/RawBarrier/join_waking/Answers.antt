use Rattle.barrier_core.proofs.Returning.{joins}
use Rattle.barrier_core.proofs.raw.RawBarrier.join_waking.Goals as goal

pub give_joined-found-requires-clause-list : goal.give_joined-found-requires-clause-list
give_joined-found-requires-clause-list g c = joins c.take_out-found.new.inner.me c.take_out-found.ensures.held c.slot_mut-list.result.now (record c.slot_mut-list.result.now { queue = c.join_waking-joined.new.self }) c.says-word.result c.slot_mut-list.ensures.value c.says-word.ensures _ c.in-Ok.ensures.joined.0
