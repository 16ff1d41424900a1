-- Whole runs of a mutex's World, and the rights that the answers alone tell of.
use Rattle.std.specs.Prelude.{◌≡◌, ℕ, ◌==◌, ◌↔◌, if◌then◌else◌, true, List, Option, Some, None}
use Rattle.world_base.specs.declared.moves.Answer.{Answer}
use Rattle.world_base.specs.declared.moves.Move.{Move}
use Rattle.world_base.specs.Accounts.{Account, accounts_after, HasByAnswers}
use Rattle.world_base.specs.Rights.{Right, hold, excludes}
use Rattle.world_base.specs.Runs as runs
use Rattle.world_base.specs.Standings.{is_outside}
use Rattle.world_base.specs.table.Rights.{account_by, sought_by, TellsAccounts}
use Rattle.world_mutex.specs.State.{World, standing_of}
use Rattle.world_mutex.specs.Steps.{Steps}
use Rattle.world_mutex.specs.Laws.{HasRight, IsSound, IsAwake, is_at_rest}

-- ---- Rights by answers

-- The right that a party has in the state, by who the holder is.
abbrev pub right_by : Option ℕ → ℕ → Option Right
right_by None p = None
right_by (Some q) p = if q == p then Some hold else None

-- What is known of all parties where a run begins.
abbrev pub accounts_of : World → ℕ → Account
accounts_of w p = account_by (standing_of w p) (sought_by hold (standing_of w p)) (right_by w.state.holder p)

-- ---- What holds after each step

-- A party outside every call, also one that is forgotten, holds the lock in the state exactly if it does by its answers.
abbrev pub HasItsRights : (ℕ → Account) → World → Type 0
HasItsRights known w = (p : ℕ) → is_outside (standing_of w p) ≡ true → (w.state.holder ≡ Some p) ↔ HasByAnswers (known p) hold

-- What holds after each step of a run: the rights by the answers are the state's, rights that exclude each other never coexist, in the state or by the answers, and at rest no notification is lost.
pub record HoldsWell (known : ℕ → Account) (w : World) : Type 0 where
  pub rights : HasItsRights known w
  pub told : (p : ℕ) (r : Right) → HasByAnswers (known p) r → HasRight w p r
  pub exclusion : (p q : ℕ) (r s : Right) → HasByAnswers (known p) r → HasByAnswers (known q) s → excludes r s ≡ true → p ≡ q
  pub sound : IsSound w
  pub awake : is_at_rest w ≡ true → IsAwake w

-- A chain of legal steps, one answer a move, after each of which all is well; `known` tells the rights by the answers so far.
abbrev pub Runs : (ℕ → Account) → World → List Move → List Answer → World → Type 0
Runs = runs.Runs Steps accounts_after HoldsWell

-- What is known tells each party's right.
abbrev pub TellsRights : (ℕ → Account) → World → Type 0
TellsRights = TellsAccounts accounts_of

-- A run in which the rights are known as the World has them where it begins.
abbrev pub RunsOn : World → List Move → List Answer → World → Type 0
RunsOn w = Runs (accounts_of w) w
