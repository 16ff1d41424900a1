-- The entry that has joined waits, and so keeps the waker that was registered into.
use Rattle.std.proofs.Common.{None, subst, sym, ap, ◌∙◌, true≢false}
use Rattle.futures.specs.Task.{Hears}
use Rattle.lock_event.specs.Lists.{is_waiting_at}
use Rattle.lock_event.specs.Slots.{has_id}
use Rattle.lock_queue.specs.Tasks.{woken_by}
use Rattle.lock_queue.proofs.Keeping.{waker_at-waiting, waits_joined}
use Rattle.lock_queue.proofs.Changes.{joined_keyed}
use Rattle.lock_queue.proofs.Receiving.{is_kept}
use Rattle.lock_queue.proofs.list.join_waking.Goals as goal

pub unreachable-requires : goal.unreachable-requires
unreachable-requires c = true≢false (sym (waits_joined c.in_ok-id.id None _ c.in_ok-id.ensures.fresh) ∙ ap (is_waiting_at (has_id c.in_ok-id.id)) (sym c.in_ok-id.ensures.joined) ∙ sym c.in_default.ensures.waits)

pub returns-clause-joined : goal.returns-clause-joined
returns-clause-joined c = joined_keyed c.in_ok-id.id c.register.new.slot _ _ c.in_ok-id.ensures.joined c.in_ok-id.ensures.fresh

pub returns-clause-keeps : goal.returns-clause-keeps
returns-clause-keeps c = (
  c.of.ensures ∙ ap woken_by (sym (waker_at-waiting c.in_ok-id.id c.register.new.slot _ (sym c.in-Some.ensures.waits))),
  (
    is_kept _ _ c.register.new.slot c.of.result c.register.ensures.kept c.of.ensures c.register.ensures.left,
    (c.register.ensures.armed, λ s is. subst (λ x. Hears c.register.new.self x) (sym is) c.register.ensures.heard),
  ),
)
