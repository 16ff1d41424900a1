-- The right to write becomes one to read for a round, a lifetime of its own, and comes back when that ends. Assumes `Logic`.
use Rattle.std.proofs.Common.{ℕ, [], ◌∷◌, ◌++◌}
use seplogic.Ra.Ura.{Ura}
use base.Fraction.{full_share}
use base.Logic.{SProp, ent, sep}
use base.Fml.{Lft, Share, Incl, Incl-trans, Fml, fdead, fobs, fbor, flent, flft}
use contract.BorrowLft.{meet_⊑_left, meet_⊑_right, ⊑_meet}
use ghost.Rules.{Toks, span}
use types.Logic.{Logic, sem, lfts}
use types.Kit.{‵, raw, ◌⊛◌, later, ◌$◌, ◌∵◌, !, qed, move, keep, use1, use2, use3, split, split3, group, fsplit, fsplit3, fjoin, fjoin3, fpick, fpack, await, updating, now, done}
use types.Tokens.{lft_new, lft_end, lent_back}
use denote.RattleType.{RattleType}
use denote.Memory.{part_at, mem}
use denote.Shares.{Shares, settles}
use Rattle.lock_place.specs.Held.{RoomId, age, held, hold_owns, seen_at}
use Rattle.access_vault.specs.Rounds.{round, seen_owns}

module _ {M : Type 1} {𝓤 : Ura M} (𝓛 : Logic 𝓤) where
  open 𝓛 use {H, A}

  abbrev Pr : Type 2
  Pr = SProp 𝓤

  abbrev ◌⊢◌ : Pr → Pr → Type 1
  P ⊢ Q = ent 𝓤 P Q

  abbrev ◌∗◌ : Pr → Pr → Pr
  P ∗ Q = sep 𝓤 P Q

  abbrev ⟦◌⟧ : Fml → Pr
  ⟦ P ⟧ = sem 𝓛 P

  infix 26 ◌⊢◌
  infixr 35 ◌∗◌
  module _ (R : RattleType) (z : RoomId) (x : R.Denot) where
    abbrev V : Lft → Fml
    V = seen_at R z x

    abbrev Obs : Fml
    Obs = fobs z.name (R.coded.code x)

    abbrev Lent : ℕ → Fml
    Lent c = flent (c ∷ age z) (fbor (age z) (held R z))

    -- the value is shared for a round
    pub begins : (l : Lft) → Shares 𝓛 R l → (μ : Lft) (s : Share) (τ : Lft) (r : Share) → Incl μ (age z) → Incl τ l → ⟦ hold_owns R z x ⟧ ∗ A.lft μ s ∗ A.lft τ r ⊢ H.⇛ (⟦ seen_owns R z x ⟧ ∗ A.lft μ s ∗ A.lft τ r)
    begins l shares μ s τ r i j = let α : Lft = age z in
        qed 𝓛 (‵ (hold_owns R z x) ∷ ‵ (flft μ s) ∷ ‵ (flft τ r) ∷ []) ∵ updating ! $ lft_new ! tt (λ a.
        let ts : Toks = (a ∷ [], full_share) ∷ (μ, s) ∷ (τ, r) ∷ [] in let more : Lft = μ ++ τ in
        let sp : Incl (span ts) (a ∷ α) = ⊑_meet (a ∷ more) (a ∷ []) α (meet_⊑_left (a ∷ []) more) (Incl-trans (meet_⊑_right (a ∷ []) more) (Incl-trans (meet_⊑_left μ τ) i)) in
        move ! (1 ∷ []) $ fsplit ! $ move ! (1 ∷ []) $
        use1 𝓛 (later (‵ (fbor (a ∷ α) (held R z)) ⊛ ‵ (Lent a))) (𝓛.more.bor_reborrow α (a ∷ α) (held R z) (meet_⊑_right (a ∷ []) α)) $ await ! tt $ split ! $
        move ! (3 ∷ 4 ∷ 5 ∷ []) $ group ! 3 $ move ! (3 ∷ 1 ∷ 0 ∷ []) $
        use3 𝓛 (later (‵ Obs ⊛ ‵ (fbor (a ∷ α) (part_at R full_share x z.block z.offset)) ⊛ raw (lfts 𝓛 ts))) (settles 𝓛 (mem R) (a ∷ α) ts sp z.name x z.block z.offset) $ await ! tt $ split3 ! $ move ! (1 ∷ 2 ∷ []) $
        use2 𝓛 (later (‵ (V (a ∷ α)) ⊛ ‵ (flft (a ∷ []) full_share) ⊛ ‵ (flft μ s) ⊛ ‵ (flft τ r))) (shares x (a ∷ α) ts z.block z.offset (Incl-trans (meet_⊑_right (a ∷ []) more) (Incl-trans (meet_⊑_right μ τ) j)) sp) $ await ! tt $ split3 ! $
        move ! (1 ∷ 0 ∷ 4 ∷ []) $ fjoin3 ! $ fpack ! ℕ (round R z x) a $ move ! (2 ∷ 0 ∷ []) $ fjoin ! $ now ! $ done !)

    pub ends : ⟦ seen_owns R z x ⟧ ⊢ H.⇛ ⟦ hold_owns R z x ⟧
    ends = qed 𝓛 (‵ (seen_owns R z x) ∷ []) ∵ updating ! $ fsplit ! $ move ! (1 ∷ []) $ fpick ! (λ c. fsplit3 ! $ lft_end ! tt $
        use1 𝓛 (‵ (fdead (c ∷ age z))) (𝓛.lfts.dead-incl (c ∷ age z) (c ∷ []) (meet_⊑_left (c ∷ []) (age z))) $ move ! (0 ∷ 2 ∷ []) $ lent_back ! tt $ move ! (2 ∷ 0 ∷ []) $ fjoin ! $ now ! $ keep ! (0 ∷ []) $ done !)
