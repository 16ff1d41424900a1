-- A `&` to a spare keeps it under an invariant. Assumes `Logic`.
use denote.RattleType.{RattleType}
use denote.Param.Laws.{Laws}
use denote.Param.Shared.{copy_shared}
use denote.Struct.Laws.{field_copy}
use denote.Struct.Lending.{of_Lends}
use Rattle.core.specs.contracts.marker.PhantomData as P
use Rattle.lock_place.specs.contracts.spare.Spare as C
use Rattle.lock_place.proofs.spare.Spare.TheLaw.Statement.{statement}
use Rattle.lock_place.proofs.Spares.{spare_laws, lends_spare}

pub shares : (T : RattleType) (L : Laws T) → statement T L
shares T L = of_Lends (C.struct T) (C.the_codes T.Denot T.coded (P.the_row T).coded) (C.the_heap T) (C.the_lent T) (λ d p. spare_laws T d.room_id d.deed d.value) (copy_shared (P.the_field T) (field_copy (P.the_type T) tt), tt)
    (λ M 𝓤 𝓛 d p. lends_spare 𝓛 T d.room_id d.deed d.value (C.the_row T).lives)
