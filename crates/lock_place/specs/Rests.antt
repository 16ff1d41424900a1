-- What rests in a place for a right: a hold, or a ticket for one, or nothing.
use Rattle.std.specs.Prelude.{◌≡◌, ℕ, Option, Some, None}
use mathlib.Core.Bool.{Bool, true, false}
use base.Fml.{Fml, ftrue}
use denote.RattleType.{RattleType}
use Rattle.lock_place.specs.Held.{RoomId, hold_owns}
use Rattle.lock_place.specs.Spared.{ticket_owns}

-- what the hold owns, or the ticket
abbrev pub rested_owns : (R : RattleType) → RoomId → Option R.Denot → ℕ → Bool → Fml
rested_owns R z (Some x) d t = hold_owns R z x
rested_owns R z None d true = ticket_owns d
rested_owns R z None d false = ftrue

-- a hold of that room, or a ticket of that deed
abbrev pub IsRightAt : {T : Type 0} → RoomId → ℕ → RoomId → Option T → ℕ → Bool → Type 0
IsRightAt room deed z (Some x) d t = z ≡ room
IsRightAt room deed z None d true = d ≡ deed
IsRightAt room deed z None d false = ⊥
