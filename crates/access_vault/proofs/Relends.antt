-- A `&mut` to a vault begins another age, and lends on what that age's hold lends. Assumes `Logic`.
use Rattle.std.proofs.Common.{◌≡◌, ℕ, [], ◌∷◌, refl, sym, ap, Option, Some, None}
use seplogic.Ra.Ura.{Ura}
use mathlib.Core.Bool.{Bool, true, false}
use base.Fraction.{full_share}
use base.Logic.{SProp, ent, sep, ex, emp, via, upd_i, id⊢}
use base.Stored.{Gv, gnum}
use base.Fml.{Lft, GName, Share, Fml, ftrue, feq, fsep, fseps, fex, fwand, fupd, fdead, fauth, fobs, fbor, flft, flent, finv}
use types.Logic.{Logic, sem}
use types.SemTy.{SemTy, Body, cells as cells_of}
use types.Kit.{group, ‵, ◌⊛◌, some, later, ◌$◌, ◌∵◌, !, qed, move, keep, drop, use0, use1, use2, split, split3, fsplit, fsplit3, fjoin, fjoin3, fpick, fpack, pick, show, assume, suffices, await, rewrite, feq_l, feq_i, updating, now, done}
use types.Keyed.{entries_new}
use types.Owned.{basic}
use types.Tokens.{lft_new, name_new, bor_new, obor_alter, name_set, bor_fracture}
use types.Mut.{open_ref}
use denote.RattleType.{RattleType}
use denote.Memory.{mem, part_at}
use denote.RawPtr.{Ptr, block_of, count_of}
use denote.Steps.{nothing}
use denote.Struct.OwningLaws.{part_out, part_in}
use Rattle.atomic_table.specs.Seated.{TableId, strip, halved, unused}
use Rattle.atomic_table.specs.Seated as table
use Rattle.lock_place.specs.Held.{RoomId, age, place, held, Placed, common, room_owns, hold_owns}
use Rattle.lock_place.proofs.Ages.{gathers}
use Rattle.words_access.specs.declared.view.View.{View}
use Rattle.access_vault.specs.Vault.{Cell}
use Rattle.access_vault.specs.Kept.{VaultId, body, known, known_with, blank, form, vault_owns, renewal_owns}
use Rattle.access_vault.specs.Lent.{vault_with}
use Rattle.access_vault.specs.contracts.vault.Vault as vault
use Rattle.access_vault.proofs.Fields.{VaultData}
use Rattle.access_vault.proofs.Deals.{cells, idle}

abbrev or_else : {T : Type 0} → T → Option T → T
or_else y (Some x) = x
or_else y None = y

module _ {M : Type 1} {𝓤 : Ura M} (𝓛 : Logic 𝓤) (R : RattleType) (z : VaultId) where
  open 𝓛 use {H, A}

  -- the table's invariant, in either form
  pub knows : (b : Bool) → ent 𝓤 (sem 𝓛 (form R z b)) (sem 𝓛 (known z.table))
  knows true = qed 𝓛 (‵ (form R z true) ∷ []) ∵ fsplit3 ! $ keep ! (2 ∷ []) $ done !
  knows false = qed 𝓛 (‵ (form R z false) ∷ []) ∵ fpick ! (λ x. let J : Fml = fbor (table.age z.table) (body z.table x.0) in fsplit3 ! $ keep ! (1 ∷ []) $
      use1 𝓛 (‵ (finv J)) (𝓛.invs.named_inv x.1.0 J) $ fpack ! (Ptr × Ptr) (known_with z.table) x.0 $ done !)

module _ (R : RattleType) (s₀ : (vault.the_row R).Denot) (id : VaultId) (tables : id.table ≡ s₀.vault_id.table) where
  abbrev Vt : RattleType
  Vt = vault.the_row R

  abbrev pub F : R.Denot → Vt.Denot
  F w = vault_with s₀ id w

  pub F_inj : (v w : R.Denot) → F v ≡ F w → v ≡ w
  F_inj v w e = ap (λ (s : Vt.Denot). or_else v s.value) e

  abbrev pub Mark : ℕ → ℕ → Fml
  Mark b o = part_at (VaultData R) full_share (s₀.at, tt) b o

  abbrev at : ℕ → ℕ → Vt.Denot → R.Denot → Fml
  at b o s w = fsep (feq Vt.Denot s (F w)) (fsep (Mark b o) (hold_owns R id.room w))

  -- a vault whose hold is lent
  abbrev pub Full : SemTy
  Full = record { rep = Vt.Denot; coded = Vt.coded; size = (mem Vt).size; own_at = λ s b o. fex R.Denot (at b o s) }

  -- what it is made of again, with its hold and its age
  abbrev pub Spared : Fml
  Spared = fsep (fsep (common R s₀.at id.room) (flent (age id.room) (held R id.room))) (fsep (blank R id) (known id.table))

  module _ {M : Type 1} {𝓤 : Ura M} (𝓛 : Logic 𝓤) (b o : ℕ) where
    open 𝓛 use {H, A}

    abbrev ⟦◌⟧ : Fml → SProp 𝓤
    ⟦ P ⟧ = sem 𝓛 P

    pub cuts : (x : R.Denot) → ent 𝓤 ⟦ Full.own_at (F x) b o ⟧ (sep 𝓤 (A.obs id.room.name (R.coded.code x)) (sep 𝓤 (A.bor (age id.room) (held R id.room)) ⟦ Mark b o ⟧))
    cuts x = qed 𝓛 (‵ (Full.own_at (F x) b o) ∷ []) ∵ fpick ! (λ w. fsplit3 ! $ feq_l ! (λ e. rewrite ! 1 (λ (v : R.Denot). ‵ (hold_owns R id.room v)) (sym (F_inj x w e)) refl $ move ! (1 ∷ []) $ fsplit ! $ done !))

    pub backs : (w : R.Denot) → ent 𝓤 (sep 𝓤 (A.obs id.room.name (R.coded.code w)) (sep 𝓤 (A.bor (age id.room) (held R id.room)) ⟦ Mark b o ⟧)) ⟦ Full.own_at (F w) b o ⟧
    backs w = qed 𝓛 (‵ (fobs id.room.name (R.coded.code w)) ∷ ‵ (fbor (age id.room) (held R id.room)) ∷ ‵ (Mark b o) ∷ []) ∵ fjoin ! $ move ! (1 ∷ 0 ∷ []) $ feq_i ! Vt.Denot (F w) (F w) refl $ fjoin3 ! $ fpack ! R.Denot (at b o (F w)) w $ done !

    module _ (γ : GName) (κ : Lft) where
      abbrev pub Was : Fml
      Was = Body (mem Vt) b o γ

      abbrev pub Is : Fml
      Is = Body Full b o γ

      abbrev Tok : Fml
      Tok = flft (age id.room) full_share

      pub way : ent 𝓤 ⟦ Spared ⟧ ⟦ fwand (fsep (fdead κ) (fseps (Is ∷ Tok ∷ []))) (fupd Was) ⟧
      unfolding fseps
      way = qed 𝓛 (‵ Spared ∷ []) ∵ assume ! (‵ (fsep (fdead κ) (fsep Is (fsep Tok ftrue)))) $ suffices ! ⟦ Was ⟧ (upd_i 𝓤 ⟦ Was ⟧) $ fsplit3 ! $ move ! (1 ∷ []) $ fpick ! (λ s. fsplit ! $ fpick ! (λ w. fsplit3 ! $ feq_l ! (λ e.
          -- mark, hold, auth, dead, token and true, spared
          rewrite ! 2 (λ (v : Vt.Denot). ‵ (fauth γ (Vt.coded.code v))) e refl $ move ! (1 ∷ []) $ fpack ! R.Denot (hold_owns R id.room) w $ move ! (5 ∷ []) $ fsplit ! $ move ! (1 ∷ []) $ fsplit ! $
          -- blank, known, room's rest, hold, mark, auth, dead, token and true
          move ! (3 ∷ 0 ∷ 1 ∷ []) $ fjoin3 ! $ fpack ! Bool (form R id) true $ move ! (5 ∷ []) $ fsplit ! $ move ! (0 ∷ 3 ∷ []) $ fjoin ! $
          -- room, true, form, mark, auth, dead
          move ! (0 ∷ 2 ∷ []) $ fjoin ! $ move ! (2 ∷ 0 ∷ []) $
          use2 𝓛 (‵ (part_at Vt full_share (F w) b o)) (part_in 𝓛 (vault.the_type R) full_share (F w) b o) $ move ! (0 ∷ 2 ∷ []) $ fjoin ! $ fpack ! Vt.Denot (λ (v : Vt.Denot). fsep ((mem Vt).own_at v b o) (fauth γ (Vt.coded.code v))) (F w) $ keep ! (0 ∷ []) $ done !)))

-- another age begins, by marks that were made before
module _ {M : Type 1} {𝓤 : Ura M} (𝓛 : Logic 𝓤) (R : RattleType) (p : Ptr) (z : RoomId) (lies : p ≡ place z) where
  open 𝓛 use {H, A}

  pub deals_by : (x : R.Denot) → ent 𝓤 (sep 𝓤 (sem 𝓛 (strip R p (x ∷ []))) (sep 𝓤 (A.lft (age z) full_share) (sep 𝓤 (A.obs z.name (gnum 0)) (A.auth z.name (gnum 0))))) (H.⇛ (sep 𝓤 (sem 𝓛 (room_owns R p z)) (sem 𝓛 (hold_owns R z x))))
  deals_by x = let b : ℕ = z.block in let o : ℕ = z.offset in
      qed 𝓛 (‵ (strip R p (x ∷ [])) ∷ ‵ (flft (age z) full_share) ∷ ‵ (fobs z.name (gnum 0)) ∷ ‵ (fauth z.name (gnum 0)) ∷ []) {P = H.⇛ (sep 𝓤 (sem 𝓛 (room_owns R p z)) (sem 𝓛 (hold_owns R z x)))} (updating ! $ fsplit ! $ fpick ! (λ fp. drop ! $
      rewrite ! 0 (λ (q : Ptr). ‵ (cells_of (mem R) (x ∷ []) (block_of q) (count_of q))) lies refl $ fsplit ! $
      -- part, true, token, obs, auth
      move ! (3 ∷ 4 ∷ []) $ name_set ! tt (R.coded.code x) $ move ! (2 ∷ 1 ∷ []) $ fjoin ! $
      fpack ! R.Denot (λ y. fsep (part_at R full_share y b o) (fauth z.name (R.coded.code y))) x $ bor_new ! tt (age z) $
      -- bor, lent, obs, true, token
      move ! (2 ∷ 0 ∷ []) $ fjoin ! $ move ! (1 ∷ []) $ nothing ! $ fpack ! (Placed R p z) (λ _. ftrue) (lies, fp.1) $ fjoin ! $ move ! (3 ∷ 0 ∷ []) $ fjoin ! $
      now ! $ keep ! (0 ∷ 1 ∷ []) $ done !))

module _ {M : Type 1} {𝓤 : Ura M} (𝓛 : Logic 𝓤) (R : RattleType) (room : RoomId) (t : TableId) (ρ : RoomId) where
  open 𝓛 use {H, A}

  abbrev pub next_of : (ℕ × ℕ) × (ℕ × ℕ) → VaultId
  next_of u = record { room = record { block = room.block; offset = room.offset; atom = u.0.0; name = u.0.1 }; table = t; desk = u.1.0; memo = u.1.1; turn = ρ }

  abbrev pub Next : (ℕ × ℕ) × (ℕ × ℕ) → SProp 𝓤
  Next u = sem 𝓛 (renewal_owns R (next_of u))

  pub marks : ent 𝓤 (emp 𝓤) (H.⇛ (ex 𝓤 Next))
  marks = qed 𝓛 [] {P = H.⇛ (ex 𝓤 Next)} (updating ! $ lft_new ! tt (λ a. name_new ! tt (gnum 0) (λ n.
      use0 𝓛 (later (some (λ (δ : ℕ). ‵ (unused cells.code δ 0 idle)))) (via 𝓤 _ (entries_new halved 𝓛 0 (λ _. (full_share, cells.code idle))) (basic 𝓛 (ex 𝓤 (λ (δ : ℕ). sem 𝓛 (unused cells.code δ 0 idle))))) $ await ! tt $ pick ! (λ δ.
      fpack ! (Cell View) (unused cells.code δ 0) idle $ name_new ! tt (gnum 0) (λ μ. fjoin ! $ fpack ! Gv (λ u. fsep (fobs μ u) (fauth μ u)) (gnum 0) $ move ! (1 ∷ 0 ∷ []) $ fjoin ! $
      -- blank, sees, known, token
      move ! (1 ∷ 2 ∷ []) $ fjoin ! $ move ! (2 ∷ 0 ∷ 1 ∷ []) $ fjoin3 ! $ now ! $ show ! Next ((a, n), (δ, μ)) $ done !)))))

module _ {M : Type 1} {𝓤 : Ura M} (𝓛 : Logic 𝓤) (R : RattleType) (s₀ : (vault.the_row R).Denot) (id : VaultId) (tables : id.table ≡ s₀.vault_id.table) (lies : s₀.at ≡ place id.room) (b o : ℕ) (γ : GName) (κ : Lft) (q : Share) where
  open 𝓛 use {H, A}

  abbrev Row : RattleType
  Row = vault.the_row R

  abbrev G : R.Denot → Row.Denot
  G = F R s₀ id tables

  abbrev Is' : Fml
  Is' = Is R s₀ id tables 𝓛 b o γ κ

  abbrev pub Filled : R.Denot → SProp 𝓤
  Filled x = sep 𝓤 (A.shr_bor κ (λ r. flft (age id.room) r)) (sep 𝓤 (A.obs γ (Row.coded.code (G x))) (sep 𝓤 (A.bor κ Is') (A.lft κ q)))

  pub fills : ent 𝓤 (sep 𝓤 (A.obs γ (Row.coded.code s₀)) (sep 𝓤 (A.bor κ (Body (mem Row) b o γ)) (sep 𝓤 (A.lft κ q) (sem 𝓛 (renewal_owns R id))))) (H.⇛ (ex 𝓤 Filled))
  unfolding fseps
  fills = let z : VaultId = s₀.vault_id in let p : Ptr = s₀.at in
      qed 𝓛 (‵ (fobs γ (Row.coded.code s₀)) ∷ ‵ (fbor κ (Body (mem Row) b o γ)) ∷ ‵ (flft κ q) ∷ ‵ (renewal_owns R id) ∷ []) {P = H.⇛ (ex 𝓤 Filled)} (updating ! $ open_ref ! tt (mem Row) $
      use1 𝓛 (‵ (Mark R s₀ id tables b o) ⊛ ‵ (vault_owns R z p)) (part_out 𝓛 (vault.the_type R) full_share s₀ b o) $ split ! $ move ! (1 ∷ []) $ fsplit ! $ move ! (1 ∷ []) $ fpick ! (λ i.
      use1 𝓛 (‵ (known z.table)) (knows 𝓛 R z i) $ rewrite ! 0 (λ (t : TableId). ‵ (known t)) (sym tables) refl $ move ! (1 ∷ []) $
      -- room, known, mark, obor, obs, auth, renewal
      use1 𝓛 (later (some (λ (x : R.Denot). ‵ (strip R p (x ∷ []))))) (gathers 𝓛 R p z.room) $ await ! tt $ pick ! (λ x.
      move ! (6 ∷ []) $ fsplit3 ! $ move ! (1 ∷ []) $ fsplit ! $ move ! (4 ∷ 2 ∷ 0 ∷ 1 ∷ []) $ group ! 4 $
      use1 𝓛 (later (‵ (room_owns R p id.room) ⊛ ‵ (hold_owns R id.room x))) (deals_by 𝓛 R p id.room lies x) $ await ! tt $ split ! $
      -- room, hold, blank, known, mark, obor, obs, auth
      fsplit ! $ move ! (3 ∷ 4 ∷ []) $ fjoin ! $ move ! (2 ∷ 0 ∷ []) $ fjoin ! $
      -- spared, token, hold, mark, obor, obs, auth
      use1 𝓛 (‵ (fwand (fsep (fdead κ) (fseps (Is' ∷ flft (age id.room) full_share ∷ []))) (fupd (Was R s₀ id tables 𝓛 b o γ κ)))) (way R s₀ id tables 𝓛 b o γ κ) $
      move ! (5 ∷ 6 ∷ []) $ name_set ! tt (Row.coded.code (G x)) $
      -- obs, auth, way, token, hold, mark, obor
      move ! (5 ∷ 4 ∷ []) $ feq_i ! Row.Denot (G x) (G x) refl $ fjoin3 ! $ fpack ! R.Denot (λ v. fsep (feq Row.Denot (G x) (G v)) (fsep (Mark R s₀ id tables b o) (hold_owns R id.room v))) x $ move ! (0 ∷ 2 ∷ []) $ fjoin ! $
      fpack ! Row.Denot (λ (v : Row.Denot). fsep ((Full R s₀ id tables).own_at v b o) (fauth γ (Row.coded.code v))) (G x) $
      -- content, obs, way, token, obor
      nothing ! $ move ! (4 ∷ 0 ∷ []) $ fjoin ! $ move ! (1 ∷ 0 ∷ []) $ fjoin ! $ move ! (3 ∷ 0 ∷ 2 ∷ []) $ obor_alter ! tt (Is' ∷ flft (age id.room) full_share ∷ []) $
      use1 𝓛 (‵ (fbor κ Is') ⊛ ‵ (fbor κ (flft (age id.room) full_share)) ⊛ ‵ ftrue) (id⊢ 𝓤 _) $ split3 ! $ move ! (1 ∷ []) $ bor_fracture ! tt (λ r. flft (age id.room) r) full_share $
      -- shared token, borrow, true, token, obs
      now ! $ show ! Filled x $ keep ! (0 ∷ 4 ∷ 1 ∷ 3 ∷ []) $ done !)))
