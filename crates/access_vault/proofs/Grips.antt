-- Who writes gets the whole stock, and ends the round. Assumes `Logic`.
use Rattle.std.proofs.Common.{ℕ, [], ◌∷◌}
use types.Logic.{lfts}
use types.Tokens.{bor_open, obor_alter}
use types.Kit.{keep, fpick, suffices, assume, use2}
use base.Logic.{upd_i, id⊢}
use base.Fml.{ftrue, fsep, fseps, fbor, flft, fdead, fwand, fupd}
use denote.Steps.{nothing}
use denote.Struct.Lending.{Lends}
use Rattle.core.proofs.cell.Borrows.{by_one}
use Rattle.lock_place.specs.Held.{hold_shares}
use Rattle.lock_place.proofs.Ages.{lends_hold}
use seplogic.Ra.Ura.{Ura}
use base.Fraction.{full_share}
use base.Logic.{ent, sep}
use base.Fml.{Lft, Share, Fml}
use types.Logic.{Logic, sem}
use types.Kit.{‵, raw, ◌⊛◌, later, ◌$◌, ◌∵◌, !, qed, move, use1, split, fsplit, fsplit3, fjoin, fjoin3, fpack, updating, await, now, done}
use denote.RattleType.{RattleType}
use Rattle.lock_place.specs.Held.{hold_owns}
use Rattle.access_vault.specs.Rounds.{round}
use Rattle.access_vault.proofs.Rounds.{ends}
use Rattle.words_access.specs.declared.view.View.{View}
use Rattle.access_vault.specs.Vault.{pledge, writing, stock}
use Rattle.access_vault.specs.Kept.{VaultId, rights, views, grip_with, grip_owns}

module _ {M : Type 1} {𝓤 : Ura M} (𝓛 : Logic 𝓤) (R : RattleType) (z : VaultId) (id : ℕ) (v : View) where
  open 𝓛 use {H, A}

  pub grips : (x : R.Denot) (u : ℕ × ℕ) → ent 𝓤 (sep 𝓤 (sem 𝓛 (pledge R z.room views rights z.table z.desk u.0 (writing id v))) (sem 𝓛 (stock R z.room u.1 full_share x))) (H.⇛ (sem 𝓛 (grip_owns R z id v x)))
  grips x u = qed 𝓛 (‵ (pledge R z.room views rights z.table z.desk u.0 (writing id v)) ∷ ‵ (stock R z.room u.1 full_share x) ∷ []) {P = H.⇛ (sem 𝓛 (grip_owns R z id v x))} (updating ! $ move ! (1 ∷ []) $
      fsplit3 ! $ move ! (2 ∷ []) $ fsplit ! $ move ! (2 ∷ 3 ∷ 0 ∷ []) $ fjoin3 ! $ fpack ! ℕ (round R z.room x) u.1 $ move ! (1 ∷ 0 ∷ []) $ fjoin ! $
      use1 𝓛 (later (‵ (hold_owns R z.room x))) (ends 𝓛 R z.room x) $ await ! tt $ move ! (1 ∷ 0 ∷ []) $ fjoin ! $ fpack ! ℕ (grip_with R z id v x) u.0 $ now ! $ done !)

  -- a `&` to a grip is as one to a hold: it keeps the account of the pledge
  module _ (x : R.Denot) where
    abbrev Hold : Fml
    Hold = hold_owns R z.room x

    abbrev Whole : Fml
    Whole = grip_owns R z id v x

    abbrev Acc : ℕ → Fml
    Acc j = pledge R z.room views rights z.table z.desk j (writing id v)

    regrips : (κ : Lft) (j : ℕ) → ent 𝓤 (sem 𝓛 (Acc j)) (sem 𝓛 (fwand (fsep (fdead κ) (fseps (Hold ∷ []))) (fupd Whole)))
    unfolding fseps
    regrips κ j = qed 𝓛 (‵ (Acc j) ∷ []) ∵ assume ! (‵ (fsep (fdead κ) (fsep Hold ftrue))) $ suffices ! (sem 𝓛 Whole) (upd_i 𝓤 (sem 𝓛 Whole)) $
        fsplit3 ! $ move ! (3 ∷ 1 ∷ []) $ fjoin ! $ fpack ! ℕ (grip_with R z id v x) j $ keep ! (0 ∷ []) $ done !

    holds_at : (κ : Lft) (q : Share) → ent 𝓤 (sep 𝓤 (A.bor κ Whole) (A.lft κ q)) (H.⇛ (sep 𝓤 (A.bor κ Hold) (A.lft κ q)))
    unfolding fseps
    holds_at κ q = qed 𝓛 (‵ (fbor κ Whole) ∷ ‵ (flft κ q) ∷ []) {P = H.⇛ (sep 𝓤 (A.bor κ Hold) (A.lft κ q))} (updating ! $ bor_open ! tt $ move ! (1 ∷ []) $ fpick ! (λ j. fsplit ! $
        -- account, hold, open
        use1 𝓛 (‵ (fwand (fsep (fdead κ) (fseps (Hold ∷ []))) (fupd Whole))) (regrips κ j) $ nothing ! $ move ! (2 ∷ 0 ∷ []) $ fjoin ! $ move ! (2 ∷ 0 ∷ 1 ∷ []) $ obor_alter ! tt (Hold ∷ []) $
        use1 𝓛 (‵ (fbor κ Hold) ⊛ ‵ ftrue) (id⊢ 𝓤 _) $ split ! $ now ! $ keep ! (0 ∷ 2 ∷ []) $ done !))

    pub lends_grip : (l : Lft) → Lends 𝓛 Whole (hold_shares R z.room x) l
    lends_grip l κ ts inc sp = qed 𝓛 (‵ (fbor κ Whole) ∷ raw (lfts 𝓛 ts) ∷ []) {P = H.⇛ (sep 𝓤 (sem 𝓛 (hold_shares R z.room x κ)) (lfts 𝓛 ts))} (updating ! $
        use2 𝓛 (later (‵ (fbor κ Hold) ⊛ raw (lfts 𝓛 ts))) (by_one 𝓛 κ ts sp (A.bor κ Whole) (A.bor κ Hold) (holds_at κ)) $ await ! tt $
        use1 𝓛 (later (‵ (hold_shares R z.room x κ) ⊛ raw (lfts 𝓛 ts))) (lends_hold 𝓛 R z.room x l κ ts inc sp) $ await ! tt $ now ! $ done !)
