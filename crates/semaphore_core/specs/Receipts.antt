-- Whose waker an entry keeps that waits for permits.
use Rattle.std.specs.Prelude.{◌≡◌, List}
use Rattle.futures.specs.declared.task.waker.Waker.{Waker}
use Rattle.weighted_event.specs.Loads.{kept_at}
use Rattle.lock_event.specs.declared.event.Entry.{Entry}
use Rattle.lock_event.specs.declared.event.EntryId.{EntryId}
use Rattle.lock_event.specs.declared.event.Slot.{Slot}
use Rattle.weighted_event.specs.declared.weighted.Load.{Load}
use Rattle.lock_queue.specs.Tasks.{woken_by}
use Rattle.lock_queue.specs.declared.whose.Whose.{Whose}

-- the entry of this id keeps a waker of that task, or none
abbrev pub KeepsAt : EntryId → Whose → List (Entry (Slot (Load Waker))) → Type 0
KeepsAt id whose es = whose.task ≡ woken_by (kept_at id es)
