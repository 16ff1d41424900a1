-- A machine at rest, by where each of its parties is.
use Rattle.std.specs.Prelude.{◌≡◌, Bool, true, List, [], ◌∷◌}

-- Every party is where a party rests.
abbrev pub AreAtRest : {P : Type 0} → (P → Bool) → List P → Type 0
AreAtRest is_resting [] = Unit {0}
AreAtRest is_resting (x ∷ xs) = (is_resting x ≡ true) × AreAtRest is_resting xs
