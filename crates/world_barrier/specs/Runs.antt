-- Whole runs of a barrier's World, and what the moves and answers alone tell.
use Rattle.std.specs.Prelude.{◌≡◌, ℕ, ◌+◌, if◌then◌else◌, Bool, true, false, List, [], ◌∷◌, Option, Some, None}
use Rattle.world_base.specs.declared.moves.Answer.{Answer}
use Rattle.world_base.specs.declared.moves.Answer.TheVariants as answer
use Rattle.world_base.specs.declared.moves.Got.TheVariants as got
use Rattle.world_base.specs.declared.moves.Move.{Move}
use Rattle.world_base.specs.Accounts.{Account, accounts_after, HasByAnswers}
use Rattle.world_base.specs.Rights.{Right}
use Rattle.world_base.specs.Runs as runs
use Rattle.world_base.specs.Standings.{Standing, is_decided, decision}
use Rattle.world_barrier.specs.State.{World, standing_of}
use Rattle.world_barrier.specs.Steps.{Steps}
use Rattle.world_barrier.specs.Laws.{IsSound, IsAwake, is_at_rest}

-- A party that seeks no right by its answers and has none.
abbrev pub no_account : Account
no_account = record { seeks = None; has = false }

abbrev pub known_of : World → ℕ → Account
known_of w p = no_account

-- No answer of a barrier gives a right.
abbrev pub TellsNoRights : (ℕ → Account) → World → Type 0
TellsNoRights known w = (p : ℕ) → known p ≡ no_account

-- What holds after each step of a run: no party has a right by its answers, all is sound, and at rest no notification is lost.
pub record HoldsWell (known : ℕ → Account) (w : World) : Type 0 where
  pub no_rights : (p : ℕ) (r : Right) → HasByAnswers (known p) r → ⊥
  pub sound : IsSound w
  pub awake : is_at_rest w ≡ true → IsAwake w

-- A chain of legal steps, one answer a move, after each of which all is well.
abbrev pub Runs : (ℕ → Account) → World → List Move → List Answer → World → Type 0
Runs = runs.Runs Steps accounts_after HoldsWell

-- A run in which is known what the World has where it begins.
abbrev pub RunsOn : World → List Move → List Answer → World → Type 0
RunsOn w = Runs (known_of w) w

-- ---- Leaders

abbrev pub is_leaders : Option Answer → Bool
is_leaders (Some (answer.Ready (got.Leader true))) = true
is_leaders _ = false

-- How many calls a step decides to be ready as a leader's, and how many are so decided along a run.
abbrev pub leaders_in : Standing → Answer → Standing → ℕ
leaders_in before a after = if is_decided before then 0 else (if is_leaders (decision a after) then 1 else 0)

abbrev pub leaders : (known : ℕ → Account) (w : World) (moves : List Move) (answers : List Answer) (v : World) → Runs known w moves answers v → ℕ
leaders known w [] [] v run = 0
leaders known w (m ∷ ms) (a ∷ more) v run = leaders_in (standing_of w m.party) a (standing_of run.0 m.party) + leaders (accounts_after known m a) run.0 ms more v run.3
leaders known w [] (a ∷ more) v run = 0
leaders known w (m ∷ ms) [] v run = 0
