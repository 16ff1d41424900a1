-- Whole runs of a read-write lock's World, and the rights that the answers alone tell of.
use Rattle.std.specs.Prelude.{◌≡◌, ℕ, ◌==◌, ◌↔◌, ◌⊎◌, if◌then◌else◌, Bool, true, List, Option, Some, None}
use Rattle.world_base.specs.declared.moves.Answer.{Answer}
use Rattle.world_base.specs.declared.moves.Move.{Move}
use Rattle.world_base.specs.Accounts.{Account, accounts_after, HasByAnswers}
use Rattle.world_base.specs.Rights.{Right, read, upgradable, write, excludes}
use Rattle.world_base.specs.Runs as runs
use Rattle.world_base.specs.Standings.{is_outside}
use Rattle.world_base.specs.table.Rights.{account_by, TellsAccounts}
use Rattle.world_rwlock.specs.State.{Turn, is_upgradable, writes, World, standing_of, sought_by, reads}
use Rattle.world_rwlock.specs.Steps.{Steps}
use Rattle.world_rwlock.specs.Laws.{HasRight, IsSound, IsAwake, is_at_rest}

-- ---- Where a run begins

-- The right that a party has in the state, by who has the turn and by whether the party reads.
abbrev pub right_by : Turn → Bool → ℕ → Option Right
right_by (is_upgradable q) reading p = if q == p then Some upgradable else if reading then Some read else None
right_by (writes q) reading p = if q == p then Some write else if reading then Some read else None
right_by t reading p = if reading then Some read else None

abbrev pub right_in : World → ℕ → Option Right
right_in w p = right_by w.state.turn (reads w p) p

-- What is known of all parties where a run begins.
abbrev pub accounts_of : World → ℕ → Account
accounts_of w p = account_by (standing_of w p) (sought_by w p) (right_in w p)

-- ---- What holds after each step

-- The party has in the state exactly its rights by the answers; upgradable has read with it. So its answers tell of no right but these three.
pub record HasJustItsRights (k : Account) (w : World) (p : ℕ) : Type 0 where
  pub reading : (reads w p ≡ true) ↔ (HasByAnswers k read ⊎ HasByAnswers k upgradable)
  pub upgrading : (w.state.turn ≡ is_upgradable p) ↔ HasByAnswers k upgradable
  pub writing : (w.state.turn ≡ writes p) ↔ HasByAnswers k write
  pub told : (r : Right) → HasByAnswers k r → HasRight w p r

-- So it is for each party outside every call, also for one that is forgotten.
abbrev pub HasItsRights : (ℕ → Account) → World → Type 0
HasItsRights known w = (p : ℕ) → is_outside (standing_of w p) ≡ true → HasJustItsRights (known p) w p

-- What holds after each step of a run: the rights by the answers are the state's, rights that exclude each other never coexist, in the state or by the answers, and at rest no notification is lost.
pub record HoldsWell (known : ℕ → Account) (w : World) : Type 0 where
  pub rights : HasItsRights known w
  pub exclusion : (p q : ℕ) (r s : Right) → HasByAnswers (known p) r → HasByAnswers (known q) s → excludes r s ≡ true → p ≡ q
  pub sound : IsSound w
  pub awake : is_at_rest w ≡ true → IsAwake w

-- A chain of legal steps, one answer a move, after each of which all is well; `known` tells the rights by the answers so far.
abbrev pub Runs : (ℕ → Account) → World → List Move → List Answer → World → Type 0
Runs = runs.Runs Steps accounts_after HoldsWell

-- What is known tells each party's right.
abbrev pub TellsRights : (ℕ → Account) → World → Type 0
TellsRights = TellsAccounts accounts_of

-- A run in which the rights are known as the World has them where it begins.
abbrev pub RunsOn : World → List Move → List Answer → World → Type 0
RunsOn w = Runs (accounts_of w) w
