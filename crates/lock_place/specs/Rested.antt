-- The right to the value of a room, as it rests.
use Rattle.std.specs.Prelude.{ℕ}
use Rattle.lock_place.specs.Held.{RoomId}
use Rattle.lock_place.specs.Rests.{IsRightAt}
use Rattle.lock_place.specs.declared.rested.Rested.{Rested}

-- it is the right itself, or a ticket of that spare
abbrev pub IsRight : {T : Type 0} → RoomId → ℕ → Rested T → Type 0
IsRight room deed r = IsRightAt room deed r.room_id r.value r.deed r.is_ticket
