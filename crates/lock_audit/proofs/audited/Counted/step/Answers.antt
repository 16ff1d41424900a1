-- What is counted is what is recorded.
use Rattle.std.proofs.Common.{refl}
use Rattle.lock_audit.proofs.Counting.{numbers_more}
use Rattle.lock_audit.proofs.audited.Counted.step.Goals as goal

pub invariant_of-self-2 : goal.invariant_of-self-2
invariant_of-self-2 g c =
    (rw (c.count.ensures.totals, c.in_ok-answer.ensures.recorded, numbers_more, c.self.invariant.0) refl, c.self.invariant.1, c.self.invariant.2)

pub returns-clause-counted : goal.returns-clause-counted
returns-clause-counted g c = rw (← c.share.view_is) c.count.ensures.numbers

pub returns-clause-recorded : goal.returns-clause-recorded
returns-clause-recorded g c = rw (← c.self.view_is) c.in_ok-answer.ensures.recorded
