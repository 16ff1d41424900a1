-- The entry waits, and keeps the waker that is handed in.
use Rattle.std.proofs.Common.{◌≡◌, None, subst, sym, ap, ◌∙◌, true≢false}
use Rattle.futures.specs.Task.{Hears}
use Rattle.weighted_event.specs.Loads.{kept_at}
use Rattle.lock_queue.specs.Tasks.{woken_by}
use Rattle.lock_queue.proofs.Keeping.{waits_isnt_marked, waits_listed}
use Rattle.semaphore_core.proofs.Keeping.{kept_at-with_key}
use Rattle.semaphore_core.proofs.Listed.{same-keyed}
use Rattle.lock_queue.proofs.Receiving.{is_kept}
use Rattle.semaphore_core.proofs.list.keep.Goals as goal

pub unreachable-requires : goal.unreachable-requires
unreachable-requires c = true≢false (sym c.in-Notified.ensures.asked.0 ∙ waits_isnt_marked c.args.id _ c.requires)

pub unreachable-requires-in-Unlisted : goal.unreachable-requires-in-Unlisted
unreachable-requires-in-Unlisted c = true≢false (sym (waits_listed c.args.id None _ c.requires) ∙ c.in-Unlisted.ensures.asked.0)

pub returns-clause-same : goal.returns-clause-same
returns-clause-same c = same-keyed _ _ c.args.id c.register.new.slot c.in-Waiting.ensures.asked.2

pub returns-clause-keeps : goal.returns-clause-keeps
returns-clause-keeps c =
    let asked = c.in-Waiting.ensures.asked in
    let waker = c.register.new.slot in
    let whose = c.of-whose.result in (
      subst (λ w. whose.task ≡ woken_by w) (sym (ap (kept_at c.args.id) asked.2 ∙ kept_at-with_key c.args.id _ waker _ asked.0)) c.of-whose.ensures,
      (
        is_kept _ _ waker whose c.register.ensures.kept c.of-whose.ensures c.register.ensures.left,
        (c.register.ensures.armed, λ s is. subst (λ x. Hears c.register.new.self x) (sym is) c.register.ensures.heard),
      ),
    )
