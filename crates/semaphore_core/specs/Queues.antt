-- What lies in the slot of a semaphore's table: the entries of its list.
use Rattle.std.specs.Prelude.{ℕ, List, [], Option, Some, None}
use Rattle.futures.specs.declared.task.waker.Waker.{Waker}
use Rattle.lock_event.specs.Lists.{marked_count}
use Rattle.lock_event.specs.declared.event.Entry.{Entry}
use Rattle.lock_event.specs.declared.event.Slot.{Slot}
use Rattle.weighted_event.specs.declared.weighted.Load.{Load}
use Rattle.words_permits.specs.Waiters.{Waiter}
use Rattle.semaphore_core.specs.Entries.{waiters_in}
use Rattle.semaphore_core.specs.declared.queue.Queue.{Queue}

-- what is in the box, or nothing
abbrev pub items_of : {B E : Type 0} → Option B → (B → List E) → List E
items_of None items = []
items_of (Some b) items = items b

-- nobody has joined a list that was not made yet
abbrev pub entries_of : Queue → List (Entry (Slot (Load Waker)))
entries_of queue = items_of queue.entries (λ b. b.value.entries)

abbrev pub queue_waiters : Queue → List Waiter
queue_waiters queue = waiters_in (entries_of queue)

abbrev pub queue_marked : Queue → ℕ
queue_marked queue = marked_count (entries_of queue)
