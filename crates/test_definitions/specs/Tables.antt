-- What it is for rows to be those of a function: its value at each row's first entries is the row's last one.
use Rattle.std.specs.Prelude.{◌≡◌, List, map}

abbrev pub AreRowsOf : {A B : Type 0} → (A → B) → List (A × B) → Type 0
AreRowsOf f rows = map (λ r. f r.0) rows ≡ map (λ r. r.1) rows

abbrev pub AreRowsOfTwo : {A B C : Type 0} → (A → B → C) → List (A × B × C) → Type 0
AreRowsOfTwo f rows = map (λ r. f r.0 r.1) rows ≡ map (λ r. r.2) rows
