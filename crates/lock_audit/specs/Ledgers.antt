-- The ledgers of one audit.
use Rattle.std.specs.Prelude.{ℕ}
use Rattle.lock_audit.specs.Numbers.{Numbers}

-- The names of the six ledgers, one for each number, and into how many parts each is cut.
pub record Names : Type 0 where
  pub moves : ℕ
  pub calls : ℕ
  pub grants : ℕ
  pub refusals : ℕ
  pub gives_back : ℕ
  pub granted : ℕ
  pub parts : ℕ

-- Some parts of each ledger, and the numbers that were counted on them.
pub record Cut : Type 0 where
  pub parts : ℕ
  pub numbers : Numbers
