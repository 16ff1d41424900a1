-- What a contract sees of a book, and when a history replays.
use Rattle.std.specs.Prelude.{◌≡◌, ℕ, List, [], ◌∷◌}
use Rattle.world_base.specs.declared.moves.Answer.{Answer}
use Rattle.world_base.specs.declared.moves.Move.{Move}

-- A World, its moves with their answers, oldest first, and how many there may be before a record needs more memory.
pub record Pages (W : Type 0) : Type 0 where
  pub world : W
  pub history : List (Move × Answer)
  pub room : ℕ

module _ {W : Type 0} where
  -- A history replays from a first World to a last one if a chain of legal steps under its moves and answers leads from the one to the other.
  abbrev pub Replays : (W → Move → Answer → W → Type 0) → W → List (Move × Answer) → W → Type 0
  Replays legal first [] last = last ≡ first
  Replays legal first (e ∷ es) last = (next : W) × legal first e.0 e.1 next × Replays legal next es last
