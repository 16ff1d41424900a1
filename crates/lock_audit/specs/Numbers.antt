-- What is counted of moves and their answers.
use Rattle.std.specs.Prelude.{ℕ, ◌+◌, List, [], ◌∷◌}
use Rattle.world_base.specs.declared.moves.Answer.{Answer}
use Rattle.world_base.specs.declared.moves.Answer.TheVariants as answer
use Rattle.world_base.specs.declared.moves.Got.{Got}
use Rattle.world_base.specs.declared.moves.Got.TheVariants as got
use Rattle.world_base.specs.declared.moves.Move.{Move}
use Rattle.world_base.specs.declared.moves.What.{What}
use Rattle.world_base.specs.declared.moves.What.TheVariants.{Begin, Go}

-- The six numbers of an audit: how many moves were made, calls were begun, calls succeeded, were refused and gave back, and the sum of the values that were granted.
pub record Numbers : Type 0 where
  pub moves : ℕ
  pub calls : ℕ
  pub grants : ℕ
  pub refusals : ℕ
  pub gives_back : ℕ
  pub granted : ℕ

-- A call is begun where the move that begins it was possible.
abbrev pub calls_of : What → Answer → ℕ
calls_of (Begin call inputs) answer.NotPossible = 0
calls_of (Begin call inputs) a = 1
calls_of (Go inputs) a = 0

-- It succeeds by Ready or Granted,
abbrev pub grants_of : Answer → ℕ
grants_of (answer.Ready got) = 1
grants_of (answer.Granted got) = 1
grants_of a = 0

-- with the value that it got, if it got one;
abbrev pub value_of : Got → ℕ
value_of (got.Value v) = v
value_of g = 0

abbrev pub granted_of : Answer → ℕ
granted_of (answer.Ready got) = value_of got
granted_of (answer.Granted got) = value_of got
granted_of a = 0

-- it is refused by None or Refused,
abbrev pub refusals_of : Answer → ℕ
refusals_of answer.None = 1
refusals_of (answer.Refused n) = 1
refusals_of a = 0

-- and it gives back by GivenBack.
abbrev pub gives_back_of : Answer → ℕ
gives_back_of answer.GivenBack = 1
gives_back_of a = 0

-- What one move with this answer counts.
abbrev pub counted : Move → Answer → Numbers
counted m a = record { moves = 1; calls = calls_of m.what a; grants = grants_of a; refusals = refusals_of a; gives_back = gives_back_of a; granted = granted_of a }

abbrev pub nothing : Numbers
nothing = record { moves = 0; calls = 0; grants = 0; refusals = 0; gives_back = 0; granted = 0 }

-- Both together, number by number.
abbrev pub plus : Numbers → Numbers → Numbers
plus n m = record { moves = n.moves + m.moves; calls = n.calls + m.calls; grants = n.grants + m.grants; refusals = n.refusals + m.refusals; gives_back = n.gives_back + m.gives_back; granted = n.granted + m.granted }

-- The sums over a list of numbers.
abbrev pub sums : List Numbers → Numbers
sums [] = nothing
sums (n ∷ ns) = plus n (sums ns)

-- The numbers of a history: the sums of what its moves count.
abbrev pub numbers_of : List (Move × Answer) → Numbers
numbers_of [] = nothing
numbers_of (e ∷ es) = plus (counted e.0 e.1) (numbers_of es)
