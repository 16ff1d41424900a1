-- The entry that waited keeps the waker that was registered into, and still waits when it is handed in.
use Rattle.std.proofs.Common.{◌≡◌, None, Some, subst, sym, ap, ◌∙◌, true≢false}
use Rattle.futures.specs.Task.{Hears}
use Rattle.lock_event.specs.Lists.{is_listed, is_marked_at}
use Rattle.weighted_event.specs.Loads.{kept_at, load}
use Rattle.lock_event.specs.Slots.{has_id}
use Rattle.lock_queue.specs.Tasks.{woken_by}
use Rattle.lock_queue.proofs.Keeping.{unmarked-with_key, listed-with_key}
use Rattle.semaphore_core.proofs.Keeping.{kept_at-with_key}
use Rattle.semaphore_core.proofs.Listed.{gone-without, gone-unlisted, same-keyed, same-twice}
use Rattle.lock_queue.proofs.Receiving.{is_kept}
use Rattle.semaphore_core.proofs.list.ask_apart.Goals as goal

pub returns-clause-waits : goal.returns-clause-waits
returns-clause-waits c =
    let asked = c.in-Waiting-ask.ensures.asked in
    let waker = c.register.new.slot in
    let whose = c.of-whose.result in (
      subst (λ w. whose.task ≡ woken_by w) (sym (ap (kept_at c.args.id) asked.2 ∙ kept_at-with_key c.args.id _ waker _ asked.0)) c.of-whose.ensures,
      (
        is_kept _ _ waker whose c.register.ensures.kept c.of-whose.ensures c.register.ensures.left,
        (c.register.ensures.armed, λ s is. subst (λ x. Hears c.register.new.self x) (sym is) c.register.ensures.heard),
      ),
    )

pub returns-in-Notified-clause-asked : goal.returns-in-Notified-clause-asked
returns-in-Notified-clause-asked c = gone-without c.args.event.now.entries _ c.args.id c.in-Notified.ensures.asked.1

pub returns-in-Unlisted-clause-asked : goal.returns-in-Unlisted-clause-asked
returns-in-Unlisted-clause-asked c = gone-unlisted c.args.event.now.entries _ c.args.id c.in-Unlisted.ensures.asked.0 c.in-Unlisted.ensures.asked.1

pub returns-clause-asked : goal.returns-clause-asked
returns-clause-asked c = same-twice c.args.event.now.entries _ _ (same-keyed c.args.event.now.entries _ c.args.id None c.in-Waiting.ensures.asked.2) (same-keyed _ _ c.args.id c.register.new.slot c.in-Waiting-ask.ensures.asked.2)

pub unreachable-requires : goal.unreachable-requires
unreachable-requires c =
    let first = c.in-Waiting.ensures.asked in
    let marked = c.in-Notified-ask.ensures.asked in
    true≢false (sym marked.0 ∙ ap (is_marked_at (has_id c.args.id)) first.2 ∙ unmarked-with_key c.args.id (Some (load _ None)) _ first.1)

pub unreachable-requires-in-Unlisted-ask : goal.unreachable-requires-in-Unlisted-ask
unreachable-requires-in-Unlisted-ask c =
    let first = c.in-Waiting.ensures.asked in
    let unlisted = c.in-Unlisted-ask.ensures.asked in
    true≢false (sym (ap (is_listed (has_id c.args.id)) first.2 ∙ listed-with_key c.args.id (Some (load _ None)) _ first.0) ∙ unlisted.0)
