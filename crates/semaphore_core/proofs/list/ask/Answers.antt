-- The entry that waits keeps the waker that was registered into.
use Rattle.std.proofs.Common.{None, refl, subst, sym, ap, ◌∙◌}
use Rattle.futures.specs.Task.{Hears}
use Rattle.lock_queue.specs.Tasks.{woken_by}
use Rattle.lock_queue.proofs.Keeping.{waits_isnt_marked, waits_listed}
use Rattle.semaphore_core.proofs.Keeping.{kept_at-with_key}
use Rattle.semaphore_core.proofs.Listed.{same-keyed}
use Rattle.lock_queue.proofs.Receiving.{is_kept}
use Rattle.semaphore_core.proofs.list.ask.Goals as goal

pub returns-in-Some-clause-answer : goal.returns-in-Some-clause-answer
returns-in-Some-clause-answer c = waits_isnt_marked c.args.id _ (c.in-Some.ensures.waits refl)

pub returns-in-Some-clause-asked : goal.returns-in-Some-clause-asked
returns-in-Some-clause-asked c = same-keyed c.args.event.now.entries _ c.args.id c.register.new.slot refl

pub returns-in-Some-clause-waits : goal.returns-in-Some-clause-waits
returns-in-Some-clause-waits c = (
  c.of.ensures ∙ ap woken_by (sym (kept_at-with_key c.args.id _ c.register.new.slot _ (waits_listed c.args.id None _ (c.in-Some.ensures.waits refl)))),
  (
    is_kept _ _ c.register.new.slot c.of.result c.register.ensures.kept c.of.ensures c.register.ensures.left,
    (c.register.ensures.armed, λ s is. subst (λ x. Hears c.register.new.self x) (sym is) c.register.ensures.heard),
  ),
)
