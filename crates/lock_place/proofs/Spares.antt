-- A hold goes to a spare, and a ticket takes it out. Assumes `Logic`.
use Rattle.std.proofs.Common.{◌≡◌, ℕ, [], ◌∷◌, refl, sym, ap, ◌∙◌, Option, Some, None}
use native.Mathlib.Nat.{suc-ne-zero}
use base.Fraction.{full_share}
use base.Stored.{Gv, gnum, num}
use types.Tokens.{bor_open, name_set}
use seplogic.Ra.Ura.{Ura}
use mathlib.Core.Bool.{Bool, true, false}
use mathlib.Core.List.{not-mem-nil}
use base.Logic.{SProp, ent, sep, upd, upd_i, id⊢, emp}
use base.Before.{before}
use base.Fml.{Lft, GName, Share, Incl-refl, Fml, ftrue, fsep, fbor, flft, finv, fnamed, fobs, fauth}
use types.Logic.{Logic, sem, lfts}
use types.Kit.{‵, raw, ◌⊛◌, some, given, later, ◌$◌, ◌∵◌, !, qed, by, move, keep, rewrite, use0, use1, use2, split, fsplit, fjoin, fpick, fpack, pick, frame, assume, suffices, learn, await, updating, now, done}
use types.Na.{before-Incl, out_once}
use denote.RattleType.{RattleType}
use denote.Sharing.{ShrLaws, beside, ends, always}
use denote.SharingLaws.{some_shr_laws, beside_shr_laws, ends_shr_laws, always_shr_laws}
use denote.Struct.Lending.{Lends}
use Rattle.lock_place.specs.Held.{RoomId, age, hold_owns}
use Rattle.lock_place.specs.Rests.{rested_owns, IsRightAt}
use Rattle.lock_place.specs.Spared.{ticket_owns, is_spared_for, spare_owns, spare_shares}

pub spare_laws : (R : RattleType) (z : RoomId) (d : ℕ) (v : Option R.Denot) → ShrLaws (spare_shares R z d v)
spare_laws R z d v = let P : Fml = spare_owns R z d v in
    some_shr_laws Lft (λ κ₀. beside (ends κ₀) (always (fbor κ₀ P))) (λ κ₀. beside_shr_laws (ends κ₀) (always (fbor κ₀ P)) (ends_shr_laws κ₀) (always_shr_laws (fbor κ₀ P)))

module _ {M : Type 1} {𝓤 : Ura M} (𝓛 : Logic 𝓤) (R : RattleType) (z : RoomId) (d : ℕ) where
  open 𝓛 use {H, A}

  abbrev ⟦◌⟧ : Fml → SProp 𝓤
  ⟦ P ⟧ = sem 𝓛 P

  pub lends_spare : (v : Option R.Denot) (l : Lft) → Lends 𝓛 (spare_owns R z d v) (spare_shares R z d v) l
  lends_spare v l κ ts inc sp = let P : Fml = spare_owns R z d v in qed 𝓛 (‵ (fbor κ P) ∷ raw (lfts 𝓛 ts) ∷ []) {P = H.⇛ (sep 𝓤 (sem 𝓛 (spare_shares R z d v κ)) (lfts 𝓛 ts))} (updating ! $
      use1 𝓛 (later (‵ (finv (fbor κ P)))) (𝓛.invs.inv_new (fbor κ P)) $ await ! tt $ use0 𝓛 (‵ (before κ κ)) (before-Incl 𝓛 κ κ (Incl-refl κ)) $ fjoin ! $ fpack ! Lft (λ κ₀. fsep (before κ κ₀) (finv (fbor κ₀ P))) κ $ now ! $ done !)

  module _ (x : R.Denot) where
    abbrev P : Fml
    P = spare_owns R z d (Some x)

    abbrev Got : SProp 𝓤
    Got = sep 𝓤 ⟦ P ⟧ (sep 𝓤 (emp 𝓤) ⟦ hold_owns R z x ⟧)

    swaps : (y : Bool) → ent 𝓤 (sep 𝓤 ⟦ is_spared_for R z d x y ⟧ ⟦ ticket_owns d ⟧) (upd 𝓤 Got)
    swaps true = qed 𝓛 (‵ (hold_owns R z x) ∷ ‵ (ticket_owns d) ∷ []) ∵ suffices ! _ (upd_i 𝓤 Got) $ move ! (1 ∷ []) $ fpack ! Bool (is_spared_for R z d x) false $ frame ! $ use0 𝓛 (‵ ftrue) (id⊢ 𝓤 (emp 𝓤)) $ frame ! $ done !
    swaps false = out_once 𝓛 d Got

    -- the ticket stays behind
    pub redeems : (κ₀ : Lft) (s : Share) → ent 𝓤 (sep 𝓤 (A.inv (fbor κ₀ P)) (sep 𝓤 (A.lft κ₀ s) ⟦ ticket_owns d ⟧)) (H.⇛ (sep 𝓤 ⟦ hold_owns R z x ⟧ (A.lft κ₀ s)))
    redeems κ₀ s = let J : Fml = fbor κ₀ P in qed 𝓛 (‵ (finv J) ∷ ‵ (flft κ₀ s) ∷ ‵ (ticket_owns d) ∷ []) ∵ use1 𝓛 (some (λ (n : ℕ). ‵ (fnamed n J))) (𝓛.invs.inv_named J) $ pick ! (λ n.
        suffices ! _ (𝓛.invs.invs_bor_acc n κ₀ s P [] ⟦ hold_owns R z x ⟧ ((λ m. not-mem-nil m), tt)) $ use0 𝓛 (‵ ftrue) (id⊢ 𝓤 (emp 𝓤)) $ move ! (1 ∷ 0 ∷ []) $ fjoin ! $ frame ! $ frame ! $
        assume ! (‵ P ⊛ ‵ ftrue) $ split ! $ keep ! (0 ∷ 2 ∷ []) $ fpick ! (λ y. by ! (swaps y)))

    -- the value of the hold that comes out of where a right rests: the parked one's, or the one that waits in the spare
    abbrev pub woken : Option R.Denot → R.Denot
    woken (Some w) = w
    woken None = x

    -- a parked hold comes out as it is, and a ticket is redeemed
    pub wakes : (κ₀ : Lft) (s : Share) (z' : RoomId) (v : Option R.Denot) (d' : ℕ) (t : Bool) → IsRightAt z d z' v d' t → ent 𝓤 (sep 𝓤 (A.inv (fbor κ₀ P)) (sep 𝓤 (A.lft κ₀ s) ⟦ rested_owns R z' v d' t ⟧)) (H.⇛ (sep 𝓤 ⟦ hold_owns R z (woken v) ⟧ (A.lft κ₀ s)))
    wakes κ₀ s z' (Some w) d' t e = qed 𝓛 (‵ (finv (fbor κ₀ P)) ∷ ‵ (flft κ₀ s) ∷ ‵ (hold_owns R z' w) ∷ []) {P = H.⇛ (sep 𝓤 ⟦ hold_owns R z w ⟧ (A.lft κ₀ s))} (move ! (2 ∷ []) $
        rewrite ! 0 (λ (q : RoomId). ‵ (hold_owns R q w)) e refl $ updating ! $ now ! $ keep ! (0 ∷ 2 ∷ []) $ done !)
    wakes κ₀ s z' None d' true e = qed 𝓛 (‵ (finv (fbor κ₀ P)) ∷ ‵ (flft κ₀ s) ∷ ‵ (ticket_owns d') ∷ []) ∵ move ! (2 ∷ []) $ rewrite ! 0 (λ (n : ℕ). ‵ (ticket_owns n)) e refl $ move ! (1 ∷ 2 ∷ 0 ∷ []) $ by ! (redeems κ₀ s)
    wakes κ₀ s z' None d' false e = absurd e

-- two holds of one place are one too many
module _ {M : Type 1} {𝓤 : Ura M} (𝓛 : Logic 𝓤) (R : RattleType) (z : RoomId) where
  open 𝓛 use {H, A}

  pub one_hold : (x v : R.Denot) (X : SProp 𝓤) → ent 𝓤 (sep 𝓤 (sem 𝓛 (hold_owns R z x)) (sep 𝓤 (sem 𝓛 (hold_owns R z v)) (A.lft (age z) full_share))) (H.⇛ X)
  one_hold x v X = let γ : GName = z.name in let u : Gv = R.coded.code x in
      qed 𝓛 (‵ (hold_owns R z x) ∷ ‵ (hold_owns R z v) ∷ ‵ (flft (age z) full_share) ∷ []) {P = H.⇛ X} (updating ! $ fsplit ! $ move ! (2 ∷ []) $ fsplit ! $ move ! (1 ∷ 4 ∷ []) $
      bor_open ! tt $ move ! (1 ∷ []) $ fpick ! (λ w. fsplit ! $ move ! (3 ∷ 1 ∷ []) $ name_set ! tt (gnum 0) $ move ! (4 ∷ 1 ∷ []) $
      use2 𝓛 (given (u ≡ gnum 0) (‵ (fobs γ u) ⊛ ‵ (fauth γ (gnum 0)))) (𝓛.names.name_agree γ u (gnum 0)) $ learn ! (λ e. split ! $ move ! (2 ∷ 1 ∷ []) $ name_set ! tt (gnum 1) $ move ! (2 ∷ 1 ∷ []) $
      use2 𝓛 (given (u ≡ gnum 1) (‵ (fobs γ u) ⊛ ‵ (fauth γ (gnum 1)))) (𝓛.names.name_agree γ u (gnum 1)) $ learn ! (λ e'. absurd (suc-ne-zero 0 (ap num (sym e' ∙ e)))))))

  module _ (d : ℕ) (x v : R.Denot) where
    abbrev Out : SProp 𝓤
    Out = sep 𝓤 (sem 𝓛 (hold_owns R z v)) (sep 𝓤 (sem 𝓛 (ticket_owns d)) (A.lft (age z) full_share))

    finds : (y : Bool) → ent 𝓤 (sep 𝓤 (sem 𝓛 (is_spared_for R z d x y)) (sep 𝓤 (sem 𝓛 (hold_owns R z v)) (A.lft (age z) full_share))) (H.⇛ Out)
    finds true = one_hold x v Out
    finds false = qed 𝓛 (‵ (ticket_owns d) ∷ ‵ (hold_owns R z v) ∷ ‵ (flft (age z) full_share) ∷ []) {P = H.⇛ Out} (updating ! $ now ! $ move ! (1 ∷ 0 ∷ []) $ done !)

    -- whoever has the hold finds the ticket in the spare
    pub reissues : ent 𝓤 (sep 𝓤 (sem 𝓛 (spare_owns R z d (Some x))) (sep 𝓤 (sem 𝓛 (hold_owns R z v)) (A.lft (age z) full_share))) (H.⇛ Out)
    reissues = qed 𝓛 (‵ (spare_owns R z d (Some x)) ∷ ‵ (hold_owns R z v) ∷ ‵ (flft (age z) full_share) ∷ []) {P = H.⇛ Out} (fpick ! (λ y. by ! (finds y)))

pub known : {T : Type 0} (v : Option T) → Rattle.core.specs.Option.is_some v ≡ true → (x : T) × (v ≡ Some x)
known (Some x) e = (x, refl)
known None e = absurd (mathlib.Core.Bool.false≢true e)
