-- Who hasn't waited for too long, and meets nobody that has, isn't counted as starved, however calls interleave. What all Worlds share.
use Rattle.std.specs.Prelude.{◌≡◌, ◌≢◌, ℕ, zero, suc, Bool, true, false, List}
use Rattle.lock_program.specs.declared.refusal.Refusal.TheVariants.{Starved}
use Rattle.world_base.specs.declared.moves.Answer.{Answer}
use Rattle.world_base.specs.declared.moves.Move.{Move}
use Rattle.world_base.specs.Rosters.{how_many, is_on}
use Rattle.world_base.specs.Standings.{Standing, is_outside, inputs_of, refused}

-- A World has legal steps, tells how a party stands, and who is starved.
module _ {W : Type 0} (Steps : W → Move → Answer → W → Type 0) (standing_of : W → ℕ → Standing) (starved : W → List Bool) where
  -- A move is the party's own only where nobody is starved, and its clock doesn't say that it has waited for too long.
  abbrev pub IsInPeace : ℕ → W → Move → Type 0
  IsInPeace p w m = m.party ≡ p → (how_many (starved w) ≡ 0) × ((inputs_of m.what).starving ≡ false)

  -- So many steps lead from w to v, whoever takes them; this party's own are in peace.
  abbrev pub StepsInPeace : ℕ → ℕ → W → W → Type 0
  StepsInPeace p zero w v = v ≡ w
  StepsInPeace p (suc steps) w v = (m : Move) × (a : Answer) × (mid : W) × Steps w m a mid × IsInPeace p w m × StepsInPeace p steps mid v

  -- Whoever is outside every call, and isn't starved, isn't starved after such steps, nor refused then as one too many of the starved.
  pub record Stays (p : ℕ) (v : W) : Type 0 where
    pub unstarved : is_on (starved v) p ≡ false
    pub patient : (m : Move) (a : Answer) (x : W) → Steps v m a x → m.party ≡ p → IsInPeace p v m → a ≢ refused Starved

  abbrev pub StarvesForCause : W → Type 0
  StarvesForCause w = (p steps : ℕ) (v : W) → is_outside (standing_of w p) ≡ true → is_on (starved w) p ≡ false → StepsInPeace p steps w v → Stays p v
