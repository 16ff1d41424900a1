use Rattle.std.proofs.Common.{ℕ, sym, subst}
use Rattle.lock_queue.specs.Asking.{ByHeard}
use Rattle.words_permits.specs.Steps.{CanHear, CanStay}
use Rattle.semaphore_core.specs.Queues.{queue_waiters, queue_marked}
use Rattle.semaphore_core.proofs.giving_back.give_asked.Goals as goal

pub give_told-found-requires-clause-list : goal.give_told-found-requires-clause-list
give_told-found-requires-clause-list c =
    let m = c.args.inner.now.me in
    let heard = subst (λ h. ByHeard h (CanHear queue_waiters queue_marked m c.args.word c.args.id.number) (λ _. CanStay queue_waiters queue_marked m c.args.word)) c.in-Told.is c.requires.list in
    subst (λ (n : ℕ). CanHear queue_waiters queue_marked m c.args.word n) (sym c.requires.own.1) heard
