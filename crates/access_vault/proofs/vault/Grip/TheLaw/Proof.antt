-- A `&` to a grip keeps its hold under a non-atomic invariant. Assumes `Logic`.
use denote.RattleType.{RattleType}
use denote.Param.Laws.{Laws}
use denote.Param.Shared.{copy_shared}
use denote.Struct.Laws.{field_copy}
use denote.Struct.Lending.{of_Lends}
use Rattle.core.specs.contracts.marker.PhantomData as P
use Rattle.access_vault.specs.contracts.vault.Grip as C
use Rattle.access_vault.proofs.vault.Grip.TheLaw.Statement.{statement}
use Rattle.lock_place.proofs.Ages.{hold_laws}
use Rattle.access_vault.proofs.Grips.{lends_grip}

pub shares : (T : RattleType) (L : Laws T) → statement T L
shares T L = of_Lends (C.struct T) (C.the_codes T.Denot T.coded (P.the_row T).coded) (C.the_heap T) (C.the_lent T) (λ d p. hold_laws T d.vault_id.room d.value) (copy_shared (P.the_field T) (field_copy (P.the_type T) tt), tt)
    (λ M 𝓤 𝓛 d p. lends_grip 𝓛 T d.vault_id d.id d.view d.value (C.the_row T).lives)
