-- The limits of a new World, by the numbers of a line.
use Rattle.std.specs.Prelude.{ℕ, min, Option, Some, None}

-- a limit: the number that is given, or the greatest where that is less or none is given
abbrev pub limit_of : Option ℕ → ℕ → ℕ
limit_of None most = most
limit_of (Some n) most = min n most
