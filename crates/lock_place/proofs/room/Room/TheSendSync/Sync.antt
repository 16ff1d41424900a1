use denote.RattleType.{RattleType}
use denote.Param.Send.{IsSend, IsSync, sendable}
use denote.Struct.Struct.{Struct}
use denote.Struct.Owning.{shape}
use Rattle.lock_place.specs.contracts.room.Room.{the_row, the_type}

pub sync : (T : RattleType) → IsSend T → IsSync (the_row T)
sync T s = let fields : IsSync (Struct (shape (the_type T))) = search sendable depth 20 in record { shared = λ d b o ν. (fields.shared (d.at, tt) b o ν, ((λ _. tt), λ _. tt)) }
