-- What is owed to a waiting list, whatever its parties wait for: here stands only what is the same for every list.
use Rattle.std.specs.Prelude.{◌≡◌, ℕ, ◌+◌, ◌<◌, List, [], ◌∷◌}

-- While the right is free and so many parties wait for it, some entry is marked, or somebody still owes the list a notification or another look.
abbrev pub IsOwed : Type 0 → ℕ → ℕ → ℕ → Type 0
IsOwed free waiting owing marked = free → 0 < waiting → 0 < owing + marked

-- The roles of a place in a program: whether a party there is listed, whether it waits for a notification, and whether it owes one or another look.
pub record Roles (P : Type 0) : Type 0 where
  pub listed : P → ℕ
  pub waits : P → ℕ
  pub owes : P → ℕ

-- A party that rests owes nothing, and waits where it is listed.
abbrev pub Rests : {P : Type 0} → Roles P → P → Type 0
Rests r x = (r.owes x ≡ 0) × (r.waits x ≡ r.listed x)

-- Every party rests.
abbrev pub AllRest : {P : Type 0} → Roles P → List P → Type 0
AllRest r [] = Unit {0}
AllRest r (x ∷ xs) = Rests r x × AllRest r xs
