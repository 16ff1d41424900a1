-- A `&` to a vault shows that its age lasts, and has its invariant. Assumes `Logic`.
use Rattle.std.proofs.Common.{[], ◌++◌, sym, ◌∙◌, subst, append-nil}
use base.Fml.{Lft}
use denote.Shares.{Shares}
use denote.RattleType.{RattleType}
use denote.Param.Laws.{Laws}
use denote.Param.Shared.{copy_shared}
use denote.Struct.Field.{RawPtr-field}
use denote.Struct.Laws.{RawPtr-copy}
use denote.Struct.Lending.{of_Lends}
use Rattle.access_vault.specs.contracts.vault.Vault as C
use Rattle.access_vault.proofs.vault.Vault.TheLaw.Statement.{statement}
use Rattle.access_vault.proofs.Opens.{vault_laws, lends_vault}

pub shares : (T : RattleType) (L : Laws T) → statement T L
shares T L = of_Lends (C.struct T) (C.the_codes T.Denot T.coded) (C.the_heap T) (C.the_lent T) (λ d p. vault_laws T d.vault_id d.at) (copy_shared RawPtr-field RawPtr-copy, tt)
    (λ M 𝓤 𝓛 d p. lends_vault 𝓛 T L.shr_laws d.vault_id d.at (C.the_row T).lives (subst (λ (l : Lft). Shares 𝓛 T l) (sym (append-nil (T.lives ++ []) ∙ append-nil T.lives)) (L.shares 𝓛)))
