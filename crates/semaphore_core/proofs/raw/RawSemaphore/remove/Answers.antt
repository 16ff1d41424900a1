use Rattle.semaphore_core.specs.Queues.{queue_waiters, queue_marked}
use Rattle.semaphore_core.proofs.Returning.{removed}
use Rattle.semaphore_core.proofs.raw.RawSemaphore.remove.Goals as goal

pub give_left-found-requires-clause-list : goal.give_left-found-requires-clause-list
give_left-found-requires-clause-list g c = removed queue_waiters queue_marked c.take_out-found.new.inner.me c.take_out-found.ensures.held c.args.id.number c.slot_mut-list.result.now c.remove-was_notified.new.self c.says-word.result _ c.slot_mut-list.ensures.value c.says-word.ensures c.remove-was_notified.ensures
