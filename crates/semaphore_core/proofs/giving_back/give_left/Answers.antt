use Rattle.std.proofs.Common.{ℕ, Bool, sym, subst, MatchBool}
use Rattle.words_permits.specs.Steps.{CanHear, CanLeave}
use Rattle.semaphore_core.specs.Queues.{queue_waiters, queue_marked}
use Rattle.semaphore_core.proofs.giving_back.give_left.Goals as goal

pub give_told-requires-clause-list : goal.give_told-requires-clause-list
give_told-requires-clause-list c =
    let m = c.args.inner.now.me in
    let left = subst (λ (b : Bool). MatchBool b (CanHear queue_waiters queue_marked m c.args.word c.args.id.number) (CanLeave queue_waiters queue_marked m c.args.word c.args.id.number)) c.if-was_notified.true c.requires.list in
    subst (λ (n : ℕ). CanHear queue_waiters queue_marked m c.args.word n) (sym c.requires.own.1) left

pub give_gone-requires-clause-list : goal.give_gone-requires-clause-list
give_gone-requires-clause-list c =
    let m = c.args.inner.now.me in
    let left = subst (λ (b : Bool). MatchBool b (CanHear queue_waiters queue_marked m c.args.word c.args.id.number) (CanLeave queue_waiters queue_marked m c.args.word c.args.id.number)) c.if-was_notified.false c.requires.list in
    subst (λ (n : ℕ). CanLeave queue_waiters queue_marked m c.args.word n) (sym c.requires.own.1) left
