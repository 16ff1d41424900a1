use Rattle.std.proofs.Common.{length}
use Rattle.lock_queue.proofs.due.pay_all.Given as goal

abbrev pub invariant-loop-due : goal.invariant-loop-due
invariant-loop-due l = Unit {0}

abbrev pub decreases-loop-due : goal.decreases-loop-due
decreases-loop-due l = length l.rest.rest.items
