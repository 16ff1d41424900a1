use Rattle.semaphore_core.specs.Queues.{queue_waiters, queue_marked}
use Rattle.semaphore_core.proofs.Returning.{asks}
use Rattle.semaphore_core.proofs.raw.RawSemaphore.ask.Goals as goal

pub give_asked-kept-requires-clause-list : goal.give_asked-kept-requires-clause-list
give_asked-kept-requires-clause-list g c = asks queue_waiters queue_marked c.take_out-found.new.inner.me c.take_out-found.ensures.held c.args.id.number c.slot_mut-list.result.now c.ask-heard.new.self c.says-word.result c.ask-heard.result c.slot_mut-list.ensures.value c.says-word.ensures c.ask-heard.ensures.asked
