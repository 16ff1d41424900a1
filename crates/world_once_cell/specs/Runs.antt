-- Whole runs of a once-cell's World, and what the moves and answers alone tell.
use Rattle.std.specs.Prelude.{◌≡◌, ℕ, ◌+◌, if◌then◌else◌, true, false, List, [], ◌∷◌, Option, Some, None}
use Rattle.world_base.specs.declared.moves.Answer.{Answer}
use Rattle.world_base.specs.declared.moves.Answer.TheVariants as answer
use Rattle.world_base.specs.declared.moves.Got.TheVariants as got
use Rattle.world_base.specs.declared.moves.Move.{Move}
use Rattle.world_base.specs.Accounts.{Account, accounts_after, HasByAnswers}
use Rattle.world_base.specs.Rights.{Right}
use Rattle.world_base.specs.Runs as runs
use Rattle.world_once_cell.specs.declared.program.words.Content.{Content}
use Rattle.world_once_cell.specs.declared.program.words.Content.TheVariants.{Full}
use Rattle.world_once_cell.specs.program.Words.{value_in}
use Rattle.world_once_cell.specs.State.{World, is_full}
use Rattle.world_once_cell.specs.Steps.{Steps}
use Rattle.world_once_cell.specs.Laws.{IsSound, IsAwake, is_at_rest}

-- What is known of each party's rights by the answers, and the value that some answer told to be in the cell.
pub record Known : Type 0 where
  pub accounts : ℕ → Account
  pub value : Option ℕ

-- A party that seeks no right by its answers and has none.
abbrev pub no_account : Account
no_account = record { seeks = None; has = false }

abbrev pub known_of : World → Known
known_of w = record { accounts = λ p. no_account; value = value_in w.cell }

-- Ready with the cell's value tells it.
abbrev pub value_after : Option ℕ → Answer → Option ℕ
value_after told (answer.Ready (got.Value v)) = Some v
value_after told a = told

abbrev pub learn : Known → Move → Answer → Known
learn k m a = record { accounts = accounts_after k.accounts m a; value = value_after k.value a }

-- No answer gives a right for longer than its call; and the value once told is in the cell.
pub record Tells (k : Known) (w : World) : Type 0 where
  pub rights : (p : ℕ) → k.accounts p ≡ no_account
  pub value : (v : ℕ) → k.value ≡ Some v → w.cell ≡ Full v

-- What holds after each step of a run: no party has a right by its answers; the value that the cell had where the run began, or that any answer told since, is in it still; and at rest no notification is lost.
pub record HoldsWell (k : Known) (w : World) : Type 0 where
  pub no_rights : (p : ℕ) (r : Right) → HasByAnswers (k.accounts p) r → ⊥
  pub value : (v : ℕ) → k.value ≡ Some v → w.cell ≡ Full v
  pub sound : IsSound w
  pub awake : is_at_rest w ≡ true → IsAwake w

-- A chain of legal steps, one answer a move, after each of which all is well.
abbrev pub Runs : Known → World → List Move → List Answer → World → Type 0
Runs = runs.Runs Steps learn HoldsWell

-- A run in which is known what the World has where it begins.
abbrev pub RunsOn : World → List Move → List Answer → World → Type 0
RunsOn w = Runs (known_of w) w

-- How many values enter in a step, and along a run.
abbrev pub enters : Content → Content → ℕ
enters before after = if is_full before then 0 else (if is_full after then 1 else 0)

abbrev pub entered : (k : Known) (w : World) (moves : List Move) (answers : List Answer) (v : World) → Runs k w moves answers v → ℕ
entered k w [] [] v run = 0
entered k w (m ∷ ms) (a ∷ more) v run = enters w.cell run.0.cell + entered (learn k m a) run.0 ms more v run.3
entered k w [] (a ∷ more) v run = 0
entered k w (m ∷ ms) [] v run = 0
