use denote.RattleType.{RattleType}
use denote.Param.Send.{IsSync, sendable}
use denote.Struct.Struct.{Struct}
use denote.Struct.Owning.{shape}
use mathlib.Core.List.{◌++◌}
use Rattle.lock_place.specs.Held.{age}
use Rattle.access_vault.specs.contracts.vault.Glance.{the_row, the_type}

pub sync : (T : RattleType) → IsSync T → IsSync (the_row T)
sync T y = let fields : IsSync (Struct (shape (the_type T))) = search sendable depth 20 in record { shared = λ d b o ν. (fields.shared (tt, tt) b o ν, y.shared d.value d.vault_id.room.block d.vault_id.room.offset (ν ++ age d.vault_id.room)) }
