-- How soon a call ends that is decided, however others step. What all Worlds share.
use Rattle.std.specs.Prelude.{◌≡◌, ℕ, zero, suc, ◌+◌, ◌<◌, ◌⊎◌, true}
use Rattle.world_base.specs.declared.moves.Answer.{Answer}
use Rattle.world_base.specs.declared.moves.Answer.TheVariants.{Stepped, NotPossible}
use Rattle.world_base.specs.declared.moves.Move.{Move}
use Rattle.world_base.specs.Standings.{Standing, is_decided}

-- A World has legal steps, and tells how a party stands.
module _ {W : Type 0} (Steps : W → Move → Answer → W → Type 0) (standing_of : W → ℕ → Standing) where
  -- So many steps lead from w to v, whoever takes them; n of them are this party's own, and after each of these its call goes on.
  abbrev pub GoesOnFor : ℕ → ℕ → ℕ → W → W → Type 0
  GoesOnFor p zero n w v = (n ≡ 0) × (v ≡ w)
  GoesOnFor p (suc steps) n w v = (m : Move) × (a : Answer) × (mid : W) × Steps w m a mid × (k : ℕ) × GoesOnFor p steps k mid v × (((m.party ≡ p → a ≡ NotPossible) × (n ≡ k)) ⊎ ((m.party ≡ p) × (a ≡ Stepped) × (n ≡ k + 1)))

  -- Whoever's call is decided takes fewer steps than this without ending it, whatever the others do: by as many of its own it has ended.
  abbrev pub EndsWithin : ℕ → W → Type 0
  EndsWithin most w = (p steps n : ℕ) (v : W) → is_decided (standing_of w p) ≡ true → GoesOnFor p steps n w v → n < most
