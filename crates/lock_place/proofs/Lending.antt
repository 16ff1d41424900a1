-- A spare is filled with a hold, and lends on what the hold lends. Assumes `Logic`.
use Rattle.std.proofs.Common.{◌≡◌, ℕ, [], ◌∷◌, refl, sym, ap, Option, Some, None}
use seplogic.Ra.Ura.{Ura}
use mathlib.Core.Bool.{Bool, true}
use base.Fraction.{full_share}
use base.Logic.{SProp, ent, sep, emp, upd_i, id⊢}
use base.Fml.{Lft, GName, Share, Fml, ftrue, feq, fsep, fseps, fex, fwand, fupd, fdead, fauth, fobs, fbor, flft}
use types.Logic.{Logic, sem}
use types.SemTy.{SemTy, Body}
use types.Kit.{‵, ◌⊛◌, ◌$◌, ◌∵◌, !, qed, move, keep, use0, use1, use2, split, fsplit, fsplit3, fjoin, fjoin3, fpick, fpack, assume, suffices, rewrite, feq_l, feq_i, updating, now, done}
use types.Tokens.{obor_alter, name_set}
use types.Mut.{open_ref}
use denote.RattleType.{RattleType}
use denote.Memory.{mem, part_at}
use denote.Steps.{nothing}
use denote.Struct.OwningLaws.{part_out, part_in}
use Rattle.lock_place.specs.Held.{RoomId, age, held, hold_owns}
use Rattle.lock_place.specs.Spared.{is_spared_for, spare_owns}
use Rattle.lock_place.specs.Lent.{spare_with}
use Rattle.lock_place.specs.contracts.spare.Spare as spare
use Rattle.lock_place.proofs.Fields.{SpareData}

abbrev or_else : {T : Type 0} → T → Option T → T
or_else y (Some x) = x
or_else y None = y

module _ (R : RattleType) (s₀ : (spare.the_row R).Denot) (z : RoomId) (same : s₀.room_id ≡ z) where
  abbrev Sp : RattleType
  Sp = spare.the_row R

  abbrev pub F : R.Denot → Sp.Denot
  F = spare_with s₀

  pub F_inj : (v w : R.Denot) → F v ≡ F w → v ≡ w
  F_inj v w e = ap (λ (s : Sp.Denot). or_else v s.value) e

  abbrev pub Mark : ℕ → ℕ → Fml
  Mark b o = part_at (SpareData R) full_share (tt, tt) b o

  abbrev at : ℕ → ℕ → Sp.Denot → R.Denot → Fml
  at b o s w = fsep (feq Sp.Denot s (F w)) (fsep (Mark b o) (hold_owns R z w))

  -- a spare that a hold came to
  abbrev pub Full : SemTy
  Full = record { rep = Sp.Denot; coded = Sp.coded; size = (mem Sp).size; own_at = λ s b o. fex R.Denot (at b o s) }

  module _ {M : Type 1} {𝓤 : Ura M} (𝓛 : Logic 𝓤) (b o : ℕ) where
    open 𝓛 use {H, A}

    abbrev ⟦◌⟧ : Fml → SProp 𝓤
    ⟦ P ⟧ = sem 𝓛 P

    abbrev δ : GName
    δ = z.name

    pub cuts : (x : R.Denot) → ent 𝓤 ⟦ Full.own_at (F x) b o ⟧ (sep 𝓤 (A.obs δ (R.coded.code x)) (sep 𝓤 (A.bor (age z) (held R z)) ⟦ Mark b o ⟧))
    cuts x = qed 𝓛 (‵ (Full.own_at (F x) b o) ∷ []) ∵ fpick ! (λ w. fsplit3 ! $ feq_l ! (λ e. rewrite ! 1 (λ (v : R.Denot). ‵ (hold_owns R z v)) (sym (F_inj x w e)) refl $ move ! (1 ∷ []) $ fsplit ! $ done !))

    pub backs : (w : R.Denot) → ent 𝓤 (sep 𝓤 (A.obs δ (R.coded.code w)) (sep 𝓤 (A.bor (age z) (held R z)) ⟦ Mark b o ⟧)) ⟦ Full.own_at (F w) b o ⟧
    backs w = qed 𝓛 (‵ (fobs δ (R.coded.code w)) ∷ ‵ (fbor (age z) (held R z)) ∷ ‵ (Mark b o) ∷ []) ∵ fjoin ! $ move ! (1 ∷ 0 ∷ []) $ feq_i ! Sp.Denot (F w) (F w) refl $ fjoin3 ! $ fpack ! R.Denot (at b o (F w)) w $ done !

    module _ (γ : GName) (κ : Lft) where
      abbrev Was : Fml
      Was = Body (mem Sp) b o γ

      abbrev Is : Fml
      Is = Body Full b o γ

      way : ent 𝓤 (emp 𝓤) ⟦ fwand (fsep (fdead κ) (fseps (Is ∷ []))) (fupd Was) ⟧
      unfolding fseps
      way = qed 𝓛 [] ∵ assume ! (‵ (fsep (fdead κ) (fsep Is ftrue))) $ suffices ! ⟦ Was ⟧ (upd_i 𝓤 ⟦ Was ⟧) $ fsplit3 ! $ move ! (1 ∷ []) $ fpick ! (λ s. fsplit ! $ fpick ! (λ w. fsplit3 ! $ feq_l ! (λ e.
          rewrite ! 2 (λ (u : Sp.Denot). ‵ (fauth γ (Sp.coded.code u))) e refl $ move ! (1 ∷ []) $ rewrite ! 0 (λ (i : RoomId). ‵ (hold_owns R i w)) (sym same) refl $ fpack ! Bool (is_spared_for R s₀.room_id s₀.deed w) true $ move ! (1 ∷ 0 ∷ []) $
          use2 𝓛 (‵ (part_at Sp full_share (F w) b o)) (part_in 𝓛 (spare.the_type R) full_share (F w) b o) $ fjoin ! $ fpack ! Sp.Denot (λ (u : Sp.Denot). fsep ((mem Sp).own_at u b o) (fauth γ (Sp.coded.code u))) (F w) $ keep ! (0 ∷ []) $ done !)))

      pub fills : (q : Share) (x : R.Denot) → ent 𝓤 (sep 𝓤 (A.obs γ (Sp.coded.code s₀)) (sep 𝓤 (A.bor κ Was) (sep 𝓤 ⟦ hold_owns R z x ⟧ (A.lft κ q)))) (H.⇛ (sep 𝓤 (A.obs γ (Sp.coded.code (F x))) (sep 𝓤 (A.bor κ Is) (A.lft κ q))))
      unfolding fseps
      fills q x = qed 𝓛 (‵ (fobs γ (Sp.coded.code s₀)) ∷ ‵ (fbor κ Was) ∷ ‵ (hold_owns R z x) ∷ ‵ (flft κ q) ∷ []) ∵ updating ! $ move ! (0 ∷ 1 ∷ 3 ∷ []) $ open_ref ! tt (mem Sp) $
          move ! (2 ∷ 3 ∷ []) $ name_set ! tt (Sp.coded.code (F x)) $ move ! (2 ∷ []) $
          use1 𝓛 (‵ (Mark b o) ⊛ ‵ (spare_owns R s₀.room_id s₀.deed s₀.value)) (part_out 𝓛 (spare.the_type R) full_share s₀ b o) $ split ! $
          move ! (0 ∷ 5 ∷ []) $ feq_i ! Sp.Denot (F x) (F x) refl $ fjoin3 ! $ fpack ! R.Denot (at b o (F x)) x $ move ! (0 ∷ 3 ∷ []) $ fjoin ! $
          fpack ! Sp.Denot (λ (u : Sp.Denot). fsep (Full.own_at u b o) (fauth γ (Sp.coded.code u))) (F x) $ nothing ! $ move ! (1 ∷ 0 ∷ []) $ fjoin ! $
          use0 𝓛 (‵ (fwand (fsep (fdead κ) (fseps (Is ∷ []))) (fupd Was))) way $ move ! (4 ∷ 1 ∷ 0 ∷ []) $ obor_alter ! tt (Is ∷ []) $
          use1 𝓛 (‵ (fbor κ Is) ⊛ ‵ ftrue) (id⊢ 𝓤 _) $ split ! $ now ! $ keep ! (4 ∷ 0 ∷ 2 ∷ []) $ done !
