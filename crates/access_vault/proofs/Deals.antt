-- A vault is made over a value in place: nothing was lent yet, and its desk is empty. Assumes `Logic`.
use Rattle.std.proofs.Common.{ℕ, [], ◌∷◌}
use mathlib.Core.Bool.{Bool, true}
use seplogic.Ra.Ura.{Ura}
use base.Fraction.{full_share}
use base.Logic.{SProp, ent, sep, ex, via}
use base.Stored.{Gv, Coded, gnum}
use base.Fml.{fsep, fobs, fauth}
use types.Logic.{Logic, sem}
use types.Tokens.{name_new}
use types.Kit.{‵, ◌⊛◌, some, later, ◌$◌, !, qed, move, use0, use1, split, fjoin, fjoin3, fpack, pick, show, updating, await, now, done}
use types.Keyed.{entries_new}
use types.Owned.{basic}
use denote.RattleType.{RattleType}
use denote.RawPtr.{Ptr}
use Rattle.atomic_table.specs.Seated.{TableId, strip, halved, unused}
use Rattle.lock_place.specs.Held.{RoomId, room_owns, hold_owns}
use Rattle.lock_place.proofs.Ages.{deals}
use Rattle.words_access.specs.Rule.{first_view}
use Rattle.words_access.specs.declared.view.View.{View}
use Rattle.access_vault.specs.Vault.{Cell, cell_coded, writing}
use Rattle.access_vault.specs.Kept.{VaultId, views, known, form, vault_owns}

abbrev pub cells : Coded (Cell View)
cells = cell_coded views

abbrev pub idle : Cell View
idle = writing 0 first_view

module _ {M : Type 1} {𝓤 : Ura M} (𝓛 : Logic 𝓤) (R : RattleType) (p : Ptr) (t : TableId) (ρ : RoomId) where
  open 𝓛 use {H, A}

  abbrev pub vault_of : RoomId × (ℕ × ℕ) → VaultId
  vault_of u = record { room = u.0; table = t; desk = u.1.0; memo = u.1.1; turn = ρ }

  abbrev pub Made : RoomId × (ℕ × ℕ) → SProp 𝓤
  Made u = sem 𝓛 (vault_owns R (vault_of u) p)

  pub makes : (x : R.Denot) → ent 𝓤 (sep 𝓤 (sem 𝓛 (strip R p (x ∷ []))) (sem 𝓛 (known t))) (H.⇛ (ex 𝓤 Made))
  makes x = qed 𝓛 (‵ (strip R p (x ∷ [])) ∷ ‵ (known t) ∷ []) {P = H.⇛ (ex 𝓤 Made)} (updating ! $
      use1 𝓛 (later (some (λ (z : RoomId). ‵ (room_owns R p z) ⊛ ‵ (hold_owns R z x)))) (deals 𝓛 R p x) $ await ! tt $ pick ! (λ z. split ! $
      use0 𝓛 (later (some (λ (δ : ℕ). ‵ (unused cells.code δ 0 idle)))) (via 𝓤 _ (entries_new halved 𝓛 0 (λ _. (full_share, cells.code idle))) (basic 𝓛 (ex 𝓤 (λ (δ : ℕ). sem 𝓛 (unused cells.code δ 0 idle))))) $ await ! tt $ pick ! (λ δ.
      fpack ! (Cell View) (unused cells.code δ 0) idle $ name_new ! tt (gnum 0) (λ n. fjoin ! $ fpack ! Gv (λ u. fsep (fobs n u) (fauth n u)) (gnum 0) $ move ! (1 ∷ 0 ∷ []) $ fjoin ! $
      -- blank, room, hold, known
      move ! (2 ∷ []) $ fpack ! R.Denot (hold_owns R z) x $ move ! (0 ∷ 1 ∷ 3 ∷ []) $ fjoin3 ! $ fpack ! Bool (form R (vault_of (z, (δ, n)))) true $ move ! (1 ∷ 0 ∷ []) $ fjoin ! $
      now ! $ show ! Made (z, (δ, n)) $ done !))))
