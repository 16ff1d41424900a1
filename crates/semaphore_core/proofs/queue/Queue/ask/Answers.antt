use Rattle.std.proofs.Common.{sym, ap, ◌∙◌, subst}
use Rattle.lock_queue.specs.Asking.{ByHeard}
use Rattle.semaphore_core.specs.Entries.{IsGone, IsUnchanged}
use Rattle.semaphore_core.specs.Queues.{items_of}
use Rattle.semaphore_core.proofs.queue.Queue.ask.Goals as goal

pub returns-in-Some-clause-asked : goal.returns-in-Some-clause-asked
returns-in-Some-clause-asked c =
    let was = ap (λ o. items_of o (λ b. b.value.entries)) c.in-Some.is ∙ ap (λ v. v.entries) (sym c.deref_mut.ensures.value) in
    subst (λ es. ByHeard c.ask.result (IsGone es c.ask.new.event.entries c.args.id.number) (λ _. IsUnchanged es c.ask.new.event.entries)) (sym was) c.ask.ensures.asked
