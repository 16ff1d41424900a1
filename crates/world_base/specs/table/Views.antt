-- How callers see the parties of a table.
use Rattle.std.specs.Prelude.{ℕ, ◌+◌, List, [], ◌∷◌, Option}
use Rattle.world_base.specs.declared.moves.Answer.{Answer}
use Rattle.world_base.specs.declared.standing.Stage.{Stage}
use Rattle.world_base.specs.Standings.{Standing}
use Rattle.world_base.specs.table.Stages.{stands_as}

-- how each party stands, counted from n, by what its call is decided on
abbrev pub standings_from : ℕ → (ℕ → Option Answer) → List Stage → List Standing
standings_from n verdict [] = []
standings_from n verdict (s ∷ ss) = stands_as (verdict n) s ∷ standings_from (n + 1) verdict ss

abbrev pub standings : (ℕ → Option Answer) → List Stage → List Standing
standings verdict ss = standings_from 0 verdict ss
