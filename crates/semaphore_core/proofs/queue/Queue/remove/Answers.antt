use Rattle.std.proofs.Common.{sym, ap, ◌∙◌, subst, MatchBool}
use Rattle.semaphore_core.specs.Entries.{HasLeft, IsGone}
use Rattle.semaphore_core.specs.Queues.{items_of}
use Rattle.semaphore_core.proofs.queue.Queue.remove.Goals as goal

pub returns-in-Some : goal.returns-in-Some
returns-in-Some c =
    let was = ap (λ o. items_of o (λ b. b.value.entries)) c.in-Some.is ∙ ap (λ v. v.entries) (sym c.deref_mut.ensures.value) in
    let new = c.remove.new.event.entries in
    subst (λ es. MatchBool c.remove.result.0 (IsGone es new c.args.id.number) (HasLeft es new c.args.id.number)) (sym was) c.remove.ensures
