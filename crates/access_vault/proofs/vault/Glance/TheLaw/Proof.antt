-- A `&` to a glance shares the value while the vault's age lasts. Assumes `Logic`.
use denote.RattleType.{RattleType}
use denote.Param.Laws.{Laws}
use denote.Param.Shared.{copy_shared}
use denote.Struct.Laws.{field_copy}
use denote.Struct.Lending.{of_Lends}
use Rattle.core.specs.contracts.marker.PhantomData as P
use Rattle.access_vault.specs.contracts.vault.Glance as C
use Rattle.access_vault.proofs.vault.Glance.TheLaw.Statement.{statement}
use Rattle.access_vault.proofs.Glances.{glance_laws, lends_glance}

pub shares : (T : RattleType) (L : Laws T) → statement T L
shares T L = of_Lends (C.struct T) (C.the_codes T.Denot T.coded (P.the_row T).coded) (C.the_heap T) (C.the_lent T) (λ d p. glance_laws T L.shr_laws d.vault_id d.value) (copy_shared (P.the_field T) (field_copy (P.the_type T) tt), tt)
    (λ M 𝓤 𝓛 d p. lends_glance 𝓛 T L.shr_laws d.vault_id d.id d.view d.value (C.the_row T).lives)
