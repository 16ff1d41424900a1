-- The data fields of a vault and of what it gives. Assumes `Logic`.
use Rattle.std.proofs.Common.{◌≡◌, List, [], ◌∷◌, ◌++◌, refl, ap, ◌∙◌}
use seplogic.Ra.Ura.{Ura}
use mir.Val.{Val, vstruct, vcons, vnil, of_list}
use base.Logic.{ent, emp}
use types.Logic.{Logic, sem}
use denote.RattleType.{RattleType}
use denote.Laws.{Is}
use denote.RawPtr.{Ptr, ptr_val}
use denote.Shadow.{makes_shadow}
use denote.Struct.Struct.{Struct}
use denote.Struct.Owning.{shape}
use denote.Struct.Laws.{RawPtr-copy}
use denote.Opens.{Opens}
use denote.Copied.{Struct-Copied}
use Rattle.access_vault.specs.contracts.vault.Vault as vault
use Rattle.access_vault.specs.contracts.vault.Glance as glance
use Rattle.access_vault.specs.contracts.vault.Grip as grip
use Rattle.access_vault.specs.contracts.vault.Renewal as renewal
use Rattle.access_vault.specs.contracts.memo.Memo as memo

abbrev pub token_val : Val
token_val = vstruct (vcons (vstruct vnil) vnil)

abbrev pub strip_of : Ptr → Val
strip_of p = vstruct (vcons (ptr_val p) vnil)

module _ (R : RattleType) where
  abbrev pub GlanceData : RattleType
  GlanceData = Struct (shape (glance.the_type R))

  pub glance_told : (vs : List Val) → Is GlanceData (tt, tt) vs → vs ≡ token_val ∷ []
  glance_told vs is = is.1.0 ∙ ap (λ (ws : List Val). vstruct (of_list (ws ++ [])) ∷ []) is.1.1.0.1.0

  abbrev pub VaultData : RattleType
  VaultData = Struct (shape (vault.the_type R))

  pub vault_told : (p : Ptr) (vs : List Val) → Is VaultData (p, tt) vs → vs ≡ strip_of p ∷ []
  vault_told p vs is = is.1.0 ∙ ap (λ (ws : List Val). vstruct (of_list (ws ++ [])) ∷ []) is.1.1.0

  pub vault_opens : {M : Type 1} {𝓤 : Ura M} (𝓛 : Logic 𝓤) → Opens 𝓛 VaultData
  vault_opens {M} {𝓤 = 𝓤} 𝓛 = (Struct-Copied 𝓛 (shape (vault.the_type R)) (refl, tt) (RawPtr-copy.copied M 𝓤 𝓛, tt)).opens

  pub vault_made : {M : Type 1} {𝓤 : Ura M} (𝓛 : Logic 𝓤) (p : Ptr) → ent 𝓤 (emp 𝓤) (sem 𝓛 (VaultData.own_val (p, tt) (strip_of p ∷ [])))
  vault_made 𝓛 p = makes_shadow 𝓛 (VaultData.own_val (p, tt) (strip_of p ∷ [])) (λ vss. (tt, (tt, tt))) ((ptr_val p ∷ [], tt), (refl, (refl, tt)))

  pub glance_made : {M : Type 1} {𝓤 : Ura M} (𝓛 : Logic 𝓤) → ent 𝓤 (emp 𝓤) (sem 𝓛 (GlanceData.own_val (tt, tt) (token_val ∷ [])))
  glance_made 𝓛 = makes_shadow 𝓛 (GlanceData.own_val (tt, tt) (token_val ∷ [])) (λ vss. (tt, ((λ uss. (tt, tt)), tt))) ((vstruct vnil ∷ [], tt), (refl, ((tt, (refl, tt)), tt)))

  abbrev pub GripData : RattleType
  GripData = Struct (shape (grip.the_type R))

  pub grip_told : (vs : List Val) → Is GripData (tt, tt) vs → vs ≡ token_val ∷ []
  grip_told vs is = is.1.0 ∙ ap (λ (ws : List Val). vstruct (of_list (ws ++ [])) ∷ []) is.1.1.0.1.0

  pub grip_made : {M : Type 1} {𝓤 : Ura M} (𝓛 : Logic 𝓤) → ent 𝓤 (emp 𝓤) (sem 𝓛 (GripData.own_val (tt, tt) (token_val ∷ [])))
  grip_made 𝓛 = makes_shadow 𝓛 (GripData.own_val (tt, tt) (token_val ∷ [])) (λ vss. (tt, ((λ uss. (tt, tt)), tt))) ((vstruct vnil ∷ [], tt), (refl, ((tt, (refl, tt)), tt)))

  abbrev pub RenewalData : RattleType
  RenewalData = Struct (shape (renewal.the_type R))

  pub renewal_told : (vs : List Val) → Is RenewalData (tt, tt) vs → vs ≡ token_val ∷ []
  renewal_told vs is = is.1.0 ∙ ap (λ (ws : List Val). vstruct (of_list (ws ++ [])) ∷ []) is.1.1.0.1.0

  pub renewal_made : {M : Type 1} {𝓤 : Ura M} (𝓛 : Logic 𝓤) → ent 𝓤 (emp 𝓤) (sem 𝓛 (RenewalData.own_val (tt, tt) (token_val ∷ [])))
  renewal_made 𝓛 = makes_shadow 𝓛 (RenewalData.own_val (tt, tt) (token_val ∷ [])) (λ vss. (tt, ((λ uss. (tt, tt)), tt))) ((vstruct vnil ∷ [], tt), (refl, ((tt, (refl, tt)), tt)))

  abbrev pub MemoData : RattleType
  MemoData = Struct (shape (memo.the_type R))

  pub memo_told : (vs : List Val) → Is MemoData (tt, tt) vs → vs ≡ token_val ∷ []
  memo_told vs is = is.1.0 ∙ ap (λ (ws : List Val). vstruct (of_list (ws ++ [])) ∷ []) is.1.1.0.1.0

  pub memo_made : {M : Type 1} {𝓤 : Ura M} (𝓛 : Logic 𝓤) → ent 𝓤 (emp 𝓤) (sem 𝓛 (MemoData.own_val (tt, tt) (token_val ∷ [])))
  memo_made 𝓛 = makes_shadow 𝓛 (MemoData.own_val (tt, tt) (token_val ∷ [])) (λ vss. (tt, ((λ uss. (tt, tt)), tt))) ((vstruct vnil ∷ [], tt), (refl, ((tt, (refl, tt)), tt)))
