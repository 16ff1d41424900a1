-- The entry that has joined waits, and keeps the waker that was registered into.
use Rattle.std.proofs.Common.{◌≡◌, true, None, Some, refl, subst, sym, ap, ◌∙◌}
use Rattle.futures.specs.Task.{Hears}
use Rattle.lock_event.specs.Lists.{is_waiting_at}
use Rattle.weighted_event.specs.Loads.{load}
use Rattle.lock_event.specs.Slots.{has_id}
use Rattle.lock_queue.specs.Tasks.{woken_by}
use Rattle.lock_queue.proofs.Keeping.{waits_joined, waits_listed}
use Rattle.semaphore_core.proofs.Keeping.{kept_at-with_key}
use Rattle.semaphore_core.proofs.Listed.{has-joined, same-keyed, joined-keyed}
use Rattle.lock_queue.proofs.Receiving.{is_kept}
use Rattle.semaphore_core.proofs.list.join_waking.Goals as goal

pub returns-in-Some-clause-joined : goal.returns-in-Some-clause-joined
returns-in-Some-clause-joined c = joined-keyed c.args.event.now.entries _ _ c.in_ok-id.id.number c.args.permits (has-joined _ _ c.in_ok-id.id c.args.permits c.in_ok-id.ensures.joined c.in_ok-id.ensures.fresh) (same-keyed _ _ c.in_ok-id.id c.register.new.slot refl)

pub returns-in-Some-clause-keeps : goal.returns-in-Some-clause-keeps
returns-in-Some-clause-keeps c = (
  c.of.ensures ∙ ap woken_by (sym (kept_at-with_key c.in_ok-id.id _ c.register.new.slot _ (waits_listed c.in_ok-id.id None _ (c.in-Some.ensures.waits refl)))),
  (
    is_kept _ _ c.register.new.slot c.of.result c.register.ensures.kept c.of.ensures c.register.ensures.left,
    (c.register.ensures.armed, λ s is. subst (λ x. Hears c.register.new.self x) (sym is) c.register.ensures.heard),
  ),
)

pub keep-requires : goal.keep-requires
keep-requires c = subst (λ es. is_waiting_at (has_id c.in_ok-id.id) es ≡ true) (sym c.in_ok-id.ensures.joined) (waits_joined c.in_ok-id.id (Some (load c.args.permits None)) _ c.in_ok-id.ensures.fresh)

pub returns-clause-joined : goal.returns-clause-joined
returns-clause-joined c = joined-keyed c.args.event.now.entries _ _ c.in_ok-id.id.number c.args.permits (has-joined _ _ c.in_ok-id.id c.args.permits c.in_ok-id.ensures.joined c.in_ok-id.ensures.fresh) c.keep.ensures.same
