-- Whose waker is kept that a poll has registered into.
use Rattle.std.proofs.Common.{◌≡◌, ◌⊎◌, inl, inr, true, Option, Some, None, IsSomeAnd, ap, ◌∙◌}
use Rattle.futures.specs.Task.{Keeps, Wakes}
use Rattle.futures.specs.declared.task.context.Context.{Context}
use Rattle.futures.specs.declared.task.waker.Origin.{Origin}
use Rattle.futures.specs.declared.task.waker.Waker.{Waker}
use Rattle.lock_queue.specs.Tasks.{woken_by}
use Rattle.lock_queue.proofs.Keeping.{same_task}
use Rattle.lock_queue.specs.Receipts.{IsWakerFor}
use Rattle.lock_queue.specs.declared.whose.Whose.{Whose}

pub is_kept : (old new : Context) (waker : Option Waker) (whose : Whose) → Keeps old new → whose.task ≡ woken_by waker
    → (new.lacks_waker ≡ true) ⊎ IsSomeAnd waker (λ w. Wakes w old) → IsWakerFor new whose
is_kept old new waker whose kept of (inl lacks) = inl lacks
is_kept old new None whose kept of (inr wakes) = absurd wakes
is_kept old new (Some w) whose kept of (inr wakes) =
    let same = same_task old new kept in
    let origin = wakes.1 ∙ same.1 in
    inr (rw of (wakes.0 ∙ same.0, ap (λ (o : Origin). o.executor) origin, ap (λ (o : Origin). o.queue) origin))

-- a context that isn't touched keeps all
pub keeps_all : (cx : Context) → Keeps cx cx
keeps_all cx fact h = h
