-- A `&` to a vault makes its invariant, the first time: its value is shared for a round from then on. Assumes `Logic`.
use Rattle.std.proofs.Common.{◌≡◌, ℕ, ◌+◌, ◌≤◌, [], ◌∷◌, refl, arith}
use mathlib.Core.Bool.{Bool, true, false}
use seplogic.Ra.Ura.{Ura}
use base.Share
use base.Fraction.{full_share}
use base.Logic.{SProp, ent, sep, wand, apply∗, snd∗}
use base.Fml.{Lft, Share, Incl, Incl-refl, Fml, ftrue, fex, fbor, flft, fnamed}
use base.Before.{before}
use ghost.Rules.{Toks, span}
use types.Logic.{Logic, sem, lfts}
use types.Tokens.{one_token}
use types.Tokens.{name_set}
use types.Kit.{‵, raw, ◌⊛◌, some, given, later, ◌$◌, ◌∵◌, !, qed, move, keep, drop, use1, use2, use3, split, split3, fsplit, fsplit3, fjoin, fjoin3, fpick, fpack, pick, learn, frame, updating, await, now, done}
use denote.RattleType.{RattleType, RowLaws}
use denote.RawPtr.{Ptr}
use denote.Shares.{Shares}
use denote.Sharing.{ShrLaws, said}
use denote.SharingLaws.{beside_shr_laws}
use denote.Steps.{nothing}
use denote.Struct.Lending.{Lends, Lends-first}
use types.Owned.{named_past}
use Rattle.atomic_table.specs.Seated as table
use Rattle.lock_place.specs.Held.{age, room_owns, room_shares}
use Rattle.lock_place.proofs.Ages.{room_laws, lends_room}
use Rattle.access_vault.specs.Rounds.{seen_owns}
use Rattle.access_vault.proofs.Rounds.{begins}
use Rattle.access_vault.proofs.Lending.{calm_account}
use Rattle.access_vault.specs.Vault.{memo, keeps, account}
use Rattle.access_vault.specs.Kept.{VaultId, rights, views, body, inside, live, live_with, form, vault_owns, vault_shares}

module _ {M : Type 1} {𝓤 : Ura M} (𝓛 : Logic 𝓤) (R : RattleType) (z : VaultId) where
  open 𝓛 use {H, A}

  pub live_twice : ent 𝓤 (sem 𝓛 (live R z)) (sep 𝓤 (sem 𝓛 (live R z)) (sem 𝓛 (live R z)))
  live_twice = let X : Type 0 = (Ptr × Ptr) × (ℕ × ℕ) in qed 𝓛 (‵ (live R z) ∷ []) ∵ fpick ! (λ x. fsplit3 ! $ fpick ! (λ ne. drop ! $ let F : Fml = fbor (table.age z.table) (body z.table x.0) in
      use1 𝓛 (‵ (fnamed x.1.0 F) ⊛ ‵ (fnamed x.1.0 F)) (𝓛.invs.named_dup x.1.0 F) $ split ! $ move ! (2 ∷ []) $
      use1 𝓛 (‵ (fnamed x.1.1 (inside R z)) ⊛ ‵ (fnamed x.1.1 (inside R z))) (𝓛.invs.named_dup x.1.1 (inside R z)) $ split ! $
      -- m, m, n, n
      nothing ! $ fpack ! (¬ (x.1.0 ≡ x.1.1)) (λ _. ftrue) ne $ move ! (0 ∷ 3 ∷ 1 ∷ []) $ fjoin3 ! $ fpack ! X (live_with R z) x $ frame ! $
      nothing ! $ fpack ! (¬ (x.1.0 ≡ x.1.1)) (λ _. ftrue) ne $ move ! (0 ∷ 2 ∷ 1 ∷ []) $ fjoin3 ! $ fpack ! X (live_with R z) x $ done !))

pub vault_laws : (R : RattleType) (z : VaultId) (p : Ptr) → ShrLaws (vault_shares R z p)
vault_laws R z p = beside_shr_laws (room_shares R p z.room) (said (live R z)) (room_laws R p z.room)
    record { contraction = λ M 𝓤 𝓛 ν. live_twice 𝓛 R z; mono = λ M 𝓤 𝓛 μ ν. snd∗ 𝓤 (sem 𝓛 (before μ ν)) (sem 𝓛 (live R z)) }

module _ {M : Type 1} {𝓤 : Ura M} (𝓛 : Logic 𝓤) (R : RattleType) (L : RowLaws R) (z : VaultId) (p : Ptr) (l : Lft) (shares : Shares 𝓛 R l) where
  open 𝓛 use {H, A}

  abbrev Pr : Type 2
  Pr = SProp 𝓤

  abbrev ◌⊢◌ : Pr → Pr → Type 1
  P ⊢ Q = ent 𝓤 P Q

  abbrev ◌∗◌ : Pr → Pr → Pr
  P ∗ Q = sep 𝓤 P Q

  abbrev ⟦◌⟧ : Fml → Pr
  ⟦ P ⟧ = sem 𝓛 P

  infix 26 ◌⊢◌
  infixr 35 ◌∗◌
  abbrev Room : Fml
  Room = room_owns R p z.room

  -- the vault's invariant is made, with its value shared for a first round
  goes_live : (τ : Lft) (r : Share) → Incl τ l → (b : Bool) → ⟦ Room ⟧ ∗ ⟦ form R z b ⟧ ∗ A.lft τ r ⊢ H.⇛ (⟦ live R z ⟧ ∗ ⟦ Room ⟧ ∗ A.lft τ r)
  goes_live τ r i false = qed 𝓛 (‵ Room ∷ ‵ (form R z false) ∷ ‵ (flft τ r) ∷ []) {P = H.⇛ (⟦ live R z ⟧ ∗ ⟦ Room ⟧ ∗ A.lft τ r)} (updating ! $ now ! $ move ! (1 ∷ 0 ∷ []) $ done !)
  goes_live τ r i true = let α : Lft = age z.room in let X : Type 0 = (Ptr × Ptr) × (ℕ × ℕ) in qed 𝓛 (‵ Room ∷ ‵ (form R z true) ∷ ‵ (flft τ r) ∷ []) {P = H.⇛ (⟦ live R z ⟧ ∗ ⟦ Room ⟧ ∗ A.lft τ r)} (updating ! $
      move ! (1 ∷ []) $ fsplit3 ! $ fpick ! (λ x.
      -- hold, blank, known, Room, τ
      move ! (3 ∷ []) $ fsplit ! $ move ! (2 ∷ 0 ∷ 5 ∷ []) $
      -- hold, age, τ, rest of the room, blank, known
      use3 𝓛 (later (‵ (seen_owns R z.room x) ⊛ ‵ (flft α full_share) ⊛ ‵ (flft τ r))) (begins 𝓛 R z.room x l shares α full_share τ r (Incl-refl α) i) $ await ! tt $ split3 ! $
      -- seen, age, τ, rest, blank, known
      move ! (1 ∷ 3 ∷ []) $ fjoin ! $ move ! (1 ∷ []) $ fsplit ! $ move ! (1 ∷ []) $ fpick ! (λ c. fsplit3 ! $
      -- token, sight, waits, obs, Room, τ, blank, known
      move ! (2 ∷ 3 ∷ []) $ fjoin ! $ move ! (2 ∷ 0 ∷ []) $ fjoin ! $ move ! (1 ∷ 0 ∷ []) $ fjoin ! $
      -- stock, Room, τ, blank, known
      move ! (3 ∷ []) $ fsplit ! $ move ! (1 ∷ []) $ fpick ! (λ u. fsplit ! $ name_set ! tt (R.coded.code x) $
      -- memo, seen, desk, stock, Room, τ, known
      fpack ! R.Denot (memo R z.memo) x $ fpack ! Bool (keeps R z.memo z.turn) true $ move ! (3 ∷ 1 ∷ []) $ fjoin ! $
      -- shared, memo, desk, Room, τ, known
      nothing ! $ move ! (3 ∷ 0 ∷ 1 ∷ []) $
      use3 𝓛 (‵ (account R z.room views rights z.table z.desk z.memo)) (calm_account 𝓛 R L z.room views rights z.table z.desk z.memo z.turn [] (c, (full_share, x)) refl refl) $
      move ! (0 ∷ 1 ∷ []) $ fjoin ! $
      -- inside, Room, τ, known
      move ! (3 ∷ []) $ fpick ! (λ u. let F : Fml = fbor (table.age z.table) (body z.table u) in
      use1 𝓛 (some (λ (n : ℕ). ‵ (fnamed n F))) (𝓛.invs.inv_named F) $ pick ! (λ n. move ! (1 ∷ []) $
      use1 𝓛 (later (some (λ (m : ℕ). given (n + 1 ≤ m) (‵ (fnamed m (inside R z)))))) (named_past 𝓛 (n + 1) (inside R z)) $ await ! tt $ pick ! (λ m. learn ! (λ far.
      nothing ! $ fpack ! (¬ (n ≡ m)) (λ _. ftrue) (λ e. omega arith) $ move ! (0 ∷ 2 ∷ 1 ∷ []) $ fjoin3 ! $ fpack ! X (live_with R z) (u, (n, m)) $ now ! $ done !))))))))

  abbrev P : Fml
  P = vault_owns R z p

  -- a borrow of the vault has it live
  wakes : (κ : Lft) (q : Share) → Incl κ κ → (τ : Lft) → Incl τ κ → Incl τ l → A.bor κ P ∗ A.lft τ q ⊢ H.⇛ (⟦ live R z ⟧ ∗ A.bor κ P ∗ A.lft τ q)
  wakes κ q same τ in_κ in_l = let ts : Toks = (τ, Share.left q) ∷ [] in let Back : Pr = wand 𝓤 ⟦ P ⟧ (H.⇛ (A.bor κ P ∗ A.lft τ (Share.left q))) in
      qed 𝓛 (‵ (fbor κ P) ∷ ‵ (flft τ q) ∷ []) {P = H.⇛ (⟦ live R z ⟧ ∗ A.bor κ P ∗ A.lft τ q)} (updating ! $ move ! (1 ∷ []) $
      use1 𝓛 (‵ (flft τ (Share.left q)) ⊛ ‵ (flft τ (Share.right q))) (𝓛.lfts.lft_split τ q) $ split ! $ move ! (2 ∷ 0 ∷ []) $
      use2 𝓛 (later (‵ P ⊛ raw Back)) (𝓛.more.bor_acc_by κ ts P in_κ) $ await ! tt $ split ! $
      -- P, back, right
      fsplit ! $ move ! (1 ∷ []) $ fpick ! (λ b. move ! (1 ∷ 0 ∷ 3 ∷ []) $
      use3 𝓛 (later (‵ (live R z) ⊛ ‵ Room ⊛ ‵ (flft τ (Share.right q)))) (goes_live τ (Share.right q) in_l b) $ await ! tt $ split3 ! $
      -- live, Room, right, back
      use1 𝓛 (‵ (live R z) ⊛ ‵ (live R z)) (live_twice 𝓛 R z) $ split ! $ fpack ! Bool (form R z) false $ move ! (2 ∷ 0 ∷ []) $ fjoin ! $ move ! (0 ∷ 3 ∷ []) $
      use2 𝓛 (later (‵ (fbor κ P) ⊛ ‵ (flft τ (Share.left q)))) (apply∗ 𝓤 ⟦ P ⟧ (H.⇛ (A.bor κ P ∗ A.lft τ (Share.left q)))) $ await ! tt $ split ! $
      -- borrow, left, live, right
      move ! (1 ∷ 3 ∷ []) $ use2 𝓛 (‵ (flft τ q)) (𝓛.lfts.lft_join τ q) $ now ! $ keep ! (2 ∷ 1 ∷ 0 ∷ []) $ done !))

  pub lends_vault : Lends 𝓛 P (vault_shares R z p) l
  lends_vault κ ts inc sp = qed 𝓛 (‵ (fbor κ P) ∷ raw (lfts 𝓛 ts) ∷ []) {P = H.⇛ (⟦ vault_shares R z p κ ⟧ ∗ lfts 𝓛 ts)} (updating ! $ move ! (1 ∷ []) $
      use1 𝓛 (some (λ (q : Share). ‵ (flft (span ts) q) ⊛ raw (wand 𝓤 (A.lft (span ts) q) (lfts 𝓛 ts)))) (one_token 𝓛 ts) $ pick ! (λ q. split ! $ move ! (2 ∷ 0 ∷ []) $
      use2 𝓛 (later (‵ (live R z) ⊛ ‵ (fbor κ P) ⊛ ‵ (flft (span ts) q))) (wakes κ q (Incl-refl κ) (span ts) sp inc) $ await ! tt $ split3 ! $
      -- live, borrow, token, back
      move ! (2 ∷ 3 ∷ []) $ use2 𝓛 (raw (lfts 𝓛 ts)) (apply∗ 𝓤 (A.lft (span ts) q) (lfts 𝓛 ts)) $ move ! (2 ∷ 0 ∷ []) $
      use2 𝓛 (later (‵ (room_shares R p z.room κ) ⊛ raw (lfts 𝓛 ts))) (Lends-first 𝓛 Room (fex Bool (form R z)) (room_shares R p z.room) l (lends_room 𝓛 R p z.room l) κ ts inc sp) $ await ! tt $ split ! $
      move ! (0 ∷ 2 ∷ []) $ fjoin ! $ now ! $ done !))
