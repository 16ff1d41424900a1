-- What a pending poll leaves: whose waker an entry keeps, and where its task has registered.
use Rattle.std.specs.Prelude.{◌≡◌, ℕ, true, ◌⊎◌, List, IsSomeAnd}
use Rattle.futures.specs.Task.{Covers}
use Rattle.futures.specs.declared.task.context.Context.{Context}
use Rattle.futures.specs.declared.task.waker.Waker.{Waker}
use Rattle.lock_event.specs.Slots.{waker_at}
use Rattle.lock_event.specs.declared.event.Entry.{Entry}
use Rattle.lock_event.specs.declared.event.EntryId.{EntryId}
use Rattle.lock_event.specs.declared.event.Slot.{Slot}
use Rattle.lock_queue.specs.Tasks.{IsPolledBy}
use Rattle.lock_queue.specs.Tasks.{woken_by}
use Rattle.lock_queue.specs.declared.whose.Whose.{Whose}

-- the entry of this id keeps a waker of that task, or none
abbrev pub KeepsAt : EntryId → Whose → List (Entry (Slot Waker)) → Type 0
KeepsAt id whose es = whose.task ≡ woken_by (waker_at id es)

-- what is kept is of the task that the context polls, unless no waker could be made, and the task is polled again without
abbrev pub IsWakerFor : Context → Whose → Type 0
IsWakerFor cx whose = (cx.lacks_waker ≡ true) ⊎ IsSomeAnd whose.task (IsPolledBy cx)

-- an entry keeps a waker of the task that the context polls, and the task has registered with this source
abbrev pub IsReceipt : ℕ → Context → Whose → Type 0
IsReceipt source cx whose = IsWakerFor cx whose × Covers cx (λ s. s ≡ source)
