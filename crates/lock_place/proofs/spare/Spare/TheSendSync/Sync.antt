use denote.RattleType.{RattleType}
use denote.Param.Send.{IsSend, IsSync, sendable}
use denote.Struct.Struct.{Struct}
use denote.Struct.Owning.{shape}
use Rattle.core.proofs.atomic.Sent.{chain-Keyless}
use Rattle.lock_place.specs.contracts.spare.Spare.{the_row, the_type}
use Rattle.lock_place.proofs.Sent.{spare_keyless}

pub sync : (T : RattleType) → IsSend T → IsSync (the_row T)
sync T s = let fields : IsSync (Struct (shape (the_type T))) = search sendable depth 20 in record { shared = λ d b o ν. (fields.shared (tt, tt) b o ν, λ κ₀. ((λ νs. chain-Keyless νs ν κ₀), spare_keyless T s d.room_id d.deed d.value)) }
