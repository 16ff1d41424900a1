-- Whole runs of a semaphore's World, and what the moves and answers alone tell.
use Rattle.std.specs.Prelude.{◌≡◌, ℕ, ◌+◌, ◌↔◌, ◌==◌, if◌then◌else◌, true, List, Some, None}
use Rattle.world_base.specs.declared.moves.Answer.{Answer}
use Rattle.world_base.specs.declared.moves.Answer.TheVariants as answer
use Rattle.world_base.specs.declared.moves.Call.TheVariants as call
use Rattle.world_base.specs.declared.moves.Move.{Move}
use Rattle.world_base.specs.declared.moves.What.{What}
use Rattle.world_base.specs.declared.moves.What.TheVariants.{Begin}
use Rattle.world_base.specs.Accounts.{Account, accounts_after, HasByAnswers}
use Rattle.world_base.specs.Rights.{Right, permit}
use Rattle.world_base.specs.Runs as runs
use Rattle.world_base.specs.Standings.{is_outside}
use Rattle.world_base.specs.table.Rights.{account_by, sought_by, TellsAccounts}
use Rattle.world_semaphore.specs.State.{World, share_at, has_permits, standing_of, size_of}
use Rattle.world_semaphore.specs.Legal.{size_after}
use Rattle.world_semaphore.specs.Steps.{Steps}
use Rattle.world_semaphore.specs.Laws.{IsSound, IsAwake, is_at_rest}

-- ---- Rights by answers

-- What is known of all parties where a run begins.
abbrev pub accounts_of : World → ℕ → Account
accounts_of w p = account_by (standing_of w p) (sought_by permit (standing_of w p)) None

-- ---- What is known by moves and answers

-- Each party's right, and for how many permits its future or guard is; the limit where the run began; and how many permits were added and forgotten since.
pub record Known : Type 0 where
  pub accounts : ℕ → Account
  pub sizes : ℕ → ℕ
  pub start : ℕ
  pub added : ℕ
  pub forgotten : ℕ

-- The sizes after one more move.
abbrev pub sizes_after : (ℕ → ℕ) → Move → Answer → ℕ → ℕ
sizes_after sizes m a p = if m.party == p then size_after m.what a (sizes p) else sizes p

-- An add counts from its first step on, unless it is refused; so does a forget, for as many permits as the guard was for.
abbrev pub added_by : What → Answer → ℕ
added_by (Begin (call.AddPermits n) inputs) (answer.Refused r) = 0
added_by (Begin (call.AddPermits n) inputs) answer.NotPossible = 0
added_by (Begin (call.AddPermits n) inputs) a = n
added_by what a = 0

abbrev pub forgotten_by : What → Answer → ℕ → ℕ
forgotten_by (Begin call.Forget inputs) answer.NotPossible size = 0
forgotten_by (Begin call.Forget inputs) a size = size
forgotten_by what a size = 0

abbrev pub known_of : World → Known
known_of w = record { accounts = accounts_of w; sizes = size_of w; start = w.state.limit; added = 0; forgotten = 0 }

abbrev pub learn : Known → Move → Answer → Known
learn k m a = record {
  accounts = accounts_after k.accounts m a;
  sizes = sizes_after k.sizes m a;
  start = k.start;
  added = k.added + added_by m.what a;
  forgotten = k.forgotten + forgotten_by m.what a (k.sizes m.party);
}

-- The limit is what it was, and what was added, less what was forgotten.
abbrev pub CountsLimit : Known → World → Type 0
CountsLimit k w = w.state.limit + k.forgotten ≡ k.start + k.added

-- What is known tells each party's right, its size, and the limit.
pub record Tells (k : Known) (w : World) : Type 0 where
  pub rights : TellsAccounts accounts_of k.accounts w
  pub sizes : (p : ℕ) → k.sizes p ≡ size_of w p
  pub limit : CountsLimit k w

-- What holds after each step of a run: outside every call a party has a guard in the state exactly if it does by the answers, which tell of no other right, and it has as many permits as its acquire said; the limit is counted; and at rest no notification is lost.
pub record HoldsWell (k : Known) (w : World) : Type 0 where
  pub rights : (p : ℕ) → is_outside (standing_of w p) ≡ true → (has_permits w.state p ≡ true) ↔ HasByAnswers (k.accounts p) permit
  pub told : (p : ℕ) (r : Right) → HasByAnswers (k.accounts p) r → (r ≡ permit) × ((share_at w.state p).held ≡ Some (k.sizes p))
  pub limit : CountsLimit k w
  pub sound : IsSound w
  pub awake : is_at_rest w ≡ true → IsAwake w

-- A chain of legal steps, one answer a move, after each of which all is well.
abbrev pub Runs : Known → World → List Move → List Answer → World → Type 0
Runs = runs.Runs Steps learn HoldsWell

-- A run in which is known what the World has where it begins.
abbrev pub RunsOn : World → List Move → List Answer → World → Type 0
RunsOn w = Runs (known_of w) w
