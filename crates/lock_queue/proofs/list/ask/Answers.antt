-- The entry that waits keeps the waker that was registered into.
use Rattle.std.proofs.Common.{subst, sym, ap, ◌∙◌}
use Rattle.futures.specs.Task.{Hears}
use Rattle.lock_queue.specs.Tasks.{woken_by}
use Rattle.lock_queue.proofs.Keeping.{waker_at-waiting}
use Rattle.lock_event.specs.Slots.{has_id, slot_of}
use Rattle.lock_queue.proofs.Changes.{kept_keyed}
use Rattle.lock_queue.proofs.Sizing.{keyed_size}
use Rattle.lock_queue.proofs.Receiving.{is_kept}
use Rattle.lock_queue.proofs.list.ask.Goals as goal

pub returns-in-Some-clause-asked : goal.returns-in-Some-clause-asked
returns-in-Some-clause-asked c = (kept_keyed c.args.id c.register.new.slot _, keyed_size (has_id c.args.id) (slot_of c.args.id c.register.new.slot) _)

pub returns-in-Some-clause-waits : goal.returns-in-Some-clause-waits
returns-in-Some-clause-waits c = (
  c.of.ensures ∙ ap woken_by (sym (waker_at-waiting c.args.id c.register.new.slot _ (sym c.in-Some.ensures.waits))),
  (
    is_kept _ _ c.register.new.slot c.of.result c.register.ensures.kept c.of.ensures c.register.ensures.left,
    (c.register.ensures.armed, λ s is. subst (λ x. Hears c.register.new.self x) (sym is) c.register.ensures.heard),
  ),
)
