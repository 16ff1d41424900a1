-- What all seats have together, by their views.
use Rattle.std.specs.Prelude.{ℕ, ◌+◌, Bool, true, false, List, [], ◌∷◌}

abbrev pub weight : Bool → ℕ
weight true = 1
weight false = 0

module _ {V : Type 0} where
  -- The number of views that have the flag.
  abbrev pub number : (V → Bool) → List V → ℕ
  number flag [] = 0
  number flag (v ∷ vs) = weight (flag v) + number flag vs

  -- The sum over all views.
  abbrev pub total : (V → ℕ) → List V → ℕ
  total f [] = 0
  total f (v ∷ vs) = f v + total f vs
