-- How far a future is, what it has meanwhile, and what its polls answer.
use Rattle.std.specs.Prelude.{◌≡◌, ℕ, true, ⊤, IsSomeAnd, Option, Some}
use Rattle.async_driver.specs.Stages.{IsOf}
use Rattle.async_driver.specs.declared.turn.Turn.{Turn}
use Rattle.async_driver.specs.declared.turn.Turn.TheVariants.{Pending, Ready, Refused}
use Rattle.async_semaphore.specs.Guards.{Held}
use Rattle.async_semaphore.specs.declared.semaphore.Semaphore.{Semaphore}
use Rattle.async_driver.specs.declared.stage.Stage.{Stage}
use Rattle.async_driver.specs.declared.stage.Stage.TheVariants.{Waits}
use Rattle.futures.specs.declared.task.context.Context.{Context}
use Rattle.lock_program.specs.declared.refusal.Refusal.TheVariants.{Memory}
use Rattle.semaphore_core.specs.Outcomes.{WaitsFor, IsJoining, IsLooking}
use Rattle.lock_queue.specs.Receipts.{IsReceipt}
use Rattle.semaphore_core.specs.Semaphores.{Seated, IsSameSeat, Holds}
use Rattle.semaphore_core.specs.declared.turn.Outcome.{Outcome}
use Rattle.semaphore_core.specs.declared.turn.Outcome.TheVariants as outcome
use Rattle.semaphore_core.specs.declared.turn.Tried.{Tried}
use Rattle.semaphore_core.specs.declared.turn.Tried.TheVariants as tried
use Rattle.semaphore_core.specs.declared.turn.Waiting.{Waiting}

-- what contracts see of a future: how far it is, for how many permits it is, and its party at the semaphore, with its entry
pub record Future (O : Type 0) : Type 0 where
  pub stage : Stage O
  pub permits : ℕ
  pub waiting : Option Waiting

abbrev pub future : {O : Type 0} → Stage O → ℕ → Option Waiting → Future O
future stage permits waiting = record { stage = stage; permits = permits; waiting = waiting }

-- a guard has as many permits as it is for, of the semaphore that it waits for
abbrev pub Gives : {O R : Type 0} → (O → Semaphore R) → Stage O → ℕ → Held R → Type 0
Gives semaphore_of stage k guard = IsOf semaphore_of stage guard.semaphore × (guard.permits ≡ k)

-- the sources at which it waits: its semaphore's own
abbrev pub WaitsAt : {O R : Type 0} → (O → Semaphore R) → Stage O → ℕ → Type 0
WaitsAt semaphore_of (Waits owner) s = s ≡ (semaphore_of owner).raw.source
WaitsAt semaphore_of _ s = ⊥

-- its party waits at its semaphore between two polls
abbrev pub WaitsAs : {O R : Type 0} → (O → Semaphore R) → Stage O → ℕ → Waiting → Type 0
WaitsAs semaphore_of (Waits owner) k w = WaitsFor (semaphore_of owner).raw k w
WaitsAs semaphore_of _ k w = ⊥

-- its party has an entry in the semaphore's list for as many permits as it is for, which keeps a waker of the task that the context polls; and the task
-- has registered with the semaphore's source
abbrev pub HasReceiptAt : {O R : Type 0} → (O → Semaphore R) → Stage O → ℕ → Context → Option Waiting → Type 0
HasReceiptAt semaphore_of (Waits owner) k cx waiting = IsSomeAnd waiting (λ w. WaitsFor (semaphore_of owner).raw k w × (w.seat.listed ≡ true) × IsReceipt (semaphore_of owner).raw.source cx w.whose)
HasReceiptAt semaphore_of _ k cx waiting = ⊥

-- a seat got the permits that it is for
abbrev pub GotAt : {O R : Type 0} → (O → Semaphore R) → Stage O → ℕ → Seated → Type 0
GotAt semaphore_of (Waits owner) k seat = Holds (semaphore_of owner).raw k seat
GotAt semaphore_of _ k seat = ⊥

-- a seat of a first look found fewer permits than it is for, and is to join
abbrev pub ShortAt : {O R : Type 0} → (O → Semaphore R) → Stage O → ℕ → Seated → Type 0
ShortAt semaphore_of (Waits owner) k seat = IsJoining (semaphore_of owner).raw k seat
ShortAt semaphore_of _ k seat = ⊥

-- a seat of a first look, whose word changed meanwhile, is still to take what it is for
abbrev pub ChangedAt : {O R : Type 0} → (O → Semaphore R) → Stage O → ℕ → Seated → Type 0
ChangedAt semaphore_of (Waits owner) k seat = IsLooking (semaphore_of owner).raw k seat
ChangedAt semaphore_of _ k seat = ⊥

-- what a first look came to: the permits that it is for, or a seat without any, which found fewer or whose word changed
abbrev pub OnTriedAt : {O R : Type 0} → (O → Semaphore R) → Stage O → ℕ → Tried → Type 0
OnTriedAt semaphore_of stage k (tried.Got seat) = GotAt semaphore_of stage k seat
OnTriedAt semaphore_of stage k (tried.Short seat) = ShortAt semaphore_of stage k seat
OnTriedAt semaphore_of stage k (tried.Changed seat) = ChangedAt semaphore_of stage k seat

-- how a poll by who has the semaphore went
abbrev pub OnPolled : {O R : Type 0} → (O → Semaphore R) → Stage O → ℕ → Context → Outcome → Type 0
OnPolled semaphore_of stage k cx (outcome.Got seat) = GotAt semaphore_of stage k seat
OnPolled semaphore_of stage k cx (outcome.Waits w) = WaitsAs semaphore_of stage k w × HasReceiptAt semaphore_of stage k cx (Some w)
OnPolled semaphore_of stage k cx (outcome.Refused refusal) = refusal ≡ Memory

-- the seat of a first look
abbrev pub looking_seat : Tried → Seated
looking_seat (tried.Got seat) = seat
looking_seat (tried.Short seat) = seat
looking_seat (tried.Changed seat) = seat

-- Whoever waited by this seat goes on by it: the guard has it, or it waits still.
abbrev pub GoesOnBy : {R : Type 0} → Seated → Turn (Held R) → Option Waiting → Type 0
GoesOnBy seat (Ready guard) waiting = IsSameSeat seat guard.seat
GoesOnBy seat Pending waiting = IsSomeAnd waiting (λ w. IsSameSeat seat w.seat)
GoesOnBy seat (Refused refusal) waiting = ⊤
