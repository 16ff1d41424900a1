-- Whole runs of any World.
use Rattle.std.specs.Prelude.{◌≡◌, List, [], ◌∷◌}
use Rattle.world_base.specs.declared.moves.Answer.{Answer}
use Rattle.world_base.specs.declared.moves.Move.{Move}

-- A World moves by legal steps; from each move and its answer one learns who has which right; and all may be well with what is known and the World.
module _ {W Known : Type 0} (Legal : W → Move → Answer → W → Type 0) (learn : Known → Move → Answer → Known) (IsWell : Known → W → Type 0) where
  -- A chain of legal steps, one answer a move, after each of which all is well.
  abbrev pub Runs : Known → W → List Move → List Answer → W → Type 0
  Runs known w [] [] v = v ≡ w
  Runs known w (m ∷ ms) (a ∷ more) v = (mid : W) × Legal w m a mid × IsWell (learn known m a) mid × Runs (learn known m a) mid ms more v
  Runs known w [] (a ∷ more) v = ⊥
  Runs known w (m ∷ ms) [] v = ⊥
