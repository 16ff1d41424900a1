-- What lies in a slot: the entries of a list, or a right.
use Rattle.std.specs.Prelude.{ℕ, List}
use Rattle.futures.specs.declared.task.waker.Waker.{Waker}
use Rattle.lock_event.specs.Lists.{marked_count}
use Rattle.lock_place.specs.Held.{RoomId}
use Rattle.lock_place.specs.Rested.{IsRight}
use Rattle.lock_event.specs.declared.event.Entry.{Entry}
use Rattle.lock_event.specs.declared.event.Slot.{Slot}
use Rattle.lock_queue.specs.Entries.{numbers_in}
use Rattle.lock_queue.specs.Queues.{entries_of as queue_entries}
use Rattle.mutex_core.specs.declared.cell.Cell.{Cell}

-- the entries of its list
abbrev pub entries_of : {T : Type 0} → Cell T → List (Entry (Slot Waker))
entries_of cell = queue_entries cell.queue

-- their numbers
abbrev pub cell_entries : {T : Type 0} → Cell T → List ℕ
cell_entries cell = numbers_in (entries_of cell)

abbrev pub cell_marked : {T : Type 0} → Cell T → ℕ
cell_marked cell = marked_count (entries_of cell)

-- the right to a value lies there
abbrev pub HasRightOf : {T : Type 0} → RoomId → ℕ → Cell T → Type 0
HasRightOf room deed cell = IsRight room deed cell.right
