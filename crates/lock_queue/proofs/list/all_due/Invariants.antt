use Rattle.words_base.specs.Lists.{Stays}
use Rattle.lock_queue.specs.Queues.{Becomes}
use Rattle.lock_queue.proofs.list.all_due.Given as goal

abbrev pub invariant-loop : goal.invariant-loop
invariant-loop l = Becomes Stays l.initial.event.entries l.event.entries
