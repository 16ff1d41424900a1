-- What a `Spare` and a `Ticket` own. Once a hold came to the spare, it has the hold or, where the hold was taken out, the ticket that was given for it. A `&` keeps this under an invariant.
use Rattle.std.specs.Prelude.{ℕ, Option, Some, None}
use mathlib.Core.Bool.{Bool, true, false}
use base.Fml.{Lft, Fml, ftrue, fex, fbor}
use types.Na.{out}
use denote.RattleType.{RattleType}
use denote.Sharing.{beside, some, ends, always}
use Rattle.lock_place.specs.Held.{RoomId, hold_owns}

-- there is one of each deed
abbrev pub ticket_owns : ℕ → Fml
ticket_owns d = out d

abbrev pub is_spared_for : (R : RattleType) → RoomId → ℕ → R.Denot → Bool → Fml
is_spared_for R z d x true = hold_owns R z x
is_spared_for R z d x false = ticket_owns d

abbrev pub spare_owns : (R : RattleType) → RoomId → ℕ → Option R.Denot → Fml
spare_owns R z d (Some x) = fex Bool (is_spared_for R z d x)
spare_owns R z d None = ftrue

abbrev pub spare_shares : (R : RattleType) → RoomId → ℕ → Option R.Denot → Lft → Fml
spare_shares R z d v = some Lft (λ κ₀. beside (ends κ₀) (always (fbor κ₀ (spare_owns R z d v))))
