-- What the calls on a list do to its sizes: how many entries there are, and how many of them are notified.
use Rattle.std.specs.Prelude.{◌≡◌, ◌+◌, ◌<◌, ◌≤◌, ◌⊎◌, List, length}
use Rattle.lock_event.specs.declared.event.Entry.{Entry}
use Rattle.lock_event.specs.Lists.{marked_count}

module _ {K : Type 0} (old new : List (Entry K)) where
  -- There is one more, and it isn't notified.
  abbrev pub IsOneMore : Type 0
  IsOneMore = (length new ≡ length old + 1) × (marked_count new ≡ marked_count old)

  -- There are as many, and one is notified, unless there is none; no more are than before, or than one.
  abbrev pub IsOneNotified : Type 0
  IsOneNotified = (length new ≡ length old) × (0 < length new → 0 < marked_count new) × ((marked_count new ≤ marked_count old) ⊎ (marked_count new ≤ 1))

  -- If one was notified, one of those that are left is.
  abbrev pub StaysNotified : Type 0
  StaysNotified = 0 < length new → 0 < marked_count old → 0 < marked_count new

  -- There are as many, and as many are notified.
  abbrev pub IsSameSize : Type 0
  IsSameSize = (length new ≡ length old) × (marked_count new ≡ marked_count old)
