-- What a `&` to a glance shares. Assumes `Logic`.
use Rattle.std.proofs.Common.{ℕ, [], ◌∷◌, ◌++◌}
use seplogic.Ra.Ura.{Ura}
use base.Logic.{SProp, ent, sep, id⊢, upd_i}
use base.Fml.{Lft, Share, Incl-trans, Fml, ftrue, fsep, fseps, fwand, fupd, fdead, fbor, flft}
use contract.BorrowLft.{meet_⊑_left, meet_⊑_right, ⊑_meet}
use denote.Moves.{moves}
use Rattle.core.proofs.cell.Borrows.{by_one}
use Rattle.words_access.specs.declared.view.View.{View}
use types.Logic.{Logic, sem, lfts}
use types.Tokens.{bor_open, obor_alter, bor_fracture, shr_bor_shorten}
use types.Kit.{‵, raw, ◌⊛◌, ◌$◌, ◌∵◌, !, qed, by, move, keep, use1, use2, split, fsplit3, fjoin, fjoin3, fpick, fpack, assume, suffices, updating, now, done}
use denote.RattleType.{RattleType, RowLaws}
use denote.Sharing.{ShrLaws}
use denote.SharingLaws.{within_shr_laws, contraction, shortens}
use denote.Steps.{nothing}
use denote.Struct.Lending.{Lends}
use Rattle.lock_place.specs.Held.{age, seen_at}
use Rattle.access_vault.specs.Vault.{pledge, reading, round_of}
use Rattle.access_vault.specs.Kept.{VaultId, rights, views, glance_with, glance_owns, glance_shares}

-- A `&` to a glance shares the value while the age lasts.
pub glance_laws : (R : RattleType) → RowLaws R → (z : VaultId) (x : R.Denot) → ShrLaws (glance_shares R z x)
glance_laws R L z x = within_shr_laws (age z.room) (seen_at R z.room x) (L x z.room.block z.room.offset)

module _ {M : Type 1} {𝓤 : Ura M} (𝓛 : Logic 𝓤) (R : RattleType) (L : RowLaws R) (z : VaultId) (id : ℕ) (v : View) (x : R.Denot) where
  open 𝓛 use {H, A}

  abbrev Pr : Type 2
  Pr = SProp 𝓤

  abbrev ◌⊢◌ : Pr → Pr → Type 1
  P ⊢ Q = ent 𝓤 P Q

  abbrev ◌∗◌ : Pr → Pr → Pr
  P ∗ Q = sep 𝓤 P Q

  abbrev ⟦◌⟧ : Fml → Pr
  ⟦ P ⟧ = sem 𝓛 P

  infix 26 ◌⊢◌
  infixr 35 ◌∗◌
  abbrev X : Type 0
  X = ℕ × (Share × ℕ)

  abbrev V : Lft → Fml
  V = seen_at R z.room x

  abbrev α : Lft
  α = age z.room

  abbrev Acc : X → Fml
  Acc u = pledge R z.room views rights z.table z.desk u.0 (reading id v u.1.0 (round_of R u.1.1 x))

  abbrev Pg : Fml
  Pg = glance_owns R z id v x

  again : (κ : Lft) (u : X) → ⟦ Acc u ⟧ ∗ ⟦ V (u.1.1 ∷ α) ⟧ ⊢ ⟦ fwand (fsep (fdead κ) (fseps (flft (u.1.1 ∷ []) u.1.0 ∷ []))) (fupd Pg) ⟧
  unfolding fseps
  again κ u = qed 𝓛 (‵ (Acc u) ∷ ‵ (V (u.1.1 ∷ α)) ∷ []) ∵ assume ! (‵ (fsep (fdead κ) (fsep (flft (u.1.1 ∷ []) u.1.0) ftrue))) $ suffices ! ⟦ Pg ⟧ (upd_i 𝓤 ⟦ Pg ⟧) $
      fsplit3 ! $ move ! (3 ∷ 1 ∷ 4 ∷ []) $ fjoin3 ! $ fpack ! X (glance_with R z id v x) u $ keep ! (0 ∷ []) $ done !

  lends_at : (κ : Lft) (q : Share) → A.bor κ Pg ∗ A.lft κ q ⊢ H.⇛ (⟦ glance_shares R z x κ ⟧ ∗ A.lft κ q)
  unfolding fseps
  lends_at κ q = let K = L x z.room.block z.room.offset in let ν : Lft = κ ++ α in
      qed 𝓛 (‵ (fbor κ Pg) ∷ ‵ (flft κ q) ∷ []) {P = H.⇛ (⟦ glance_shares R z x κ ⟧ ∗ A.lft κ q)} (updating ! $ bor_open ! tt $ move ! (1 ∷ []) $ fpick ! (λ u. let c : ℕ = u.1.1 in let e : Share = u.1.0 in let a : Lft = c ∷ [] in
      fsplit3 ! $ move ! (2 ∷ []) $ use1 𝓛 (‵ (V (c ∷ α)) ⊛ ‵ (V (c ∷ α))) (contraction 𝓛 V K (c ∷ α)) $ split ! $ move ! (2 ∷ 0 ∷ []) $
      use2 𝓛 (‵ (fwand (fsep (fdead κ) (fseps (flft a e ∷ []))) (fupd Pg))) (again κ u) $ move ! (2 ∷ []) $ nothing ! $ move ! (1 ∷ 0 ∷ []) $ fjoin ! $ move ! (3 ∷ 0 ∷ 1 ∷ []) $ obor_alter ! tt (flft a e ∷ []) $
      use1 𝓛 (‵ (fbor κ (flft a e)) ⊛ ‵ ftrue) (id⊢ 𝓤 _) $ split ! $ bor_fracture ! tt (λ r. flft a r) e $ shr_bor_shorten ! ν (meet_⊑_left κ α) $ move ! (3 ∷ []) $
      use1 𝓛 (‵ (V (a ++ ν))) (shortens 𝓛 V K (c ∷ α) (a ++ ν) (⊑_meet (a ++ ν) a α (meet_⊑_left a ν) (Incl-trans (meet_⊑_right a ν) (meet_⊑_right κ α)))) $ move ! (1 ∷ 0 ∷ []) $
      use2 𝓛 (‵ (V ν)) (moves 𝓛 V K ν a) $ now ! $ keep ! (0 ∷ 2 ∷ []) $ done !))

  pub lends_glance : (l : Lft) → Lends 𝓛 Pg (glance_shares R z x) l
  lends_glance l κ ts inc sp = qed 𝓛 (‵ (fbor κ Pg) ∷ raw (lfts 𝓛 ts) ∷ []) ∵ by ! (by_one 𝓛 κ ts sp (A.bor κ Pg) ⟦ glance_shares R z x κ ⟧ (lends_at κ))
