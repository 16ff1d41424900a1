-- A `&` to a room shows that its age lasts. Assumes `Logic`.
use denote.RattleType.{RattleType}
use denote.Param.Laws.{Laws}
use denote.Param.Shared.{copy_shared}
use denote.Struct.Field.{RawPtr-field}
use denote.Struct.Laws.{RawPtr-copy}
use denote.Struct.Lending.{of_Lends}
use Rattle.lock_place.specs.contracts.room.Room as C
use Rattle.lock_place.proofs.room.Room.TheLaw.Statement.{statement}
use Rattle.lock_place.proofs.Ages.{room_laws, lends_room}

pub shares : (T : RattleType) (L : Laws T) → statement T L
shares T L = of_Lends (C.struct T) (C.the_codes T.Denot T.coded) (C.the_heap T) (C.the_lent T) (λ d p. room_laws T d.at d.room_id) (copy_shared RawPtr-field RawPtr-copy, tt)
    (λ M 𝓤 𝓛 d p. lends_room 𝓛 T d.at d.room_id (C.the_row T).lives)
