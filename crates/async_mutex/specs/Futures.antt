-- What contracts see of a mutex's future, and what a poll answers.
use Rattle.std.specs.Prelude.{◌≡◌, ℕ, true, false, ⊤, Option, Some, None, IsSomeAnd}
use Rattle.std.specs.declared.time.Instant.{Instant}
use Rattle.futures.specs.Task.{Covers}
use Rattle.futures.specs.declared.task.context.Context.{Context}
use Rattle.async_driver.specs.declared.turn.Turn.{Turn}
use Rattle.async_driver.specs.declared.turn.Turn.TheVariants.{Pending, Ready, Refused}
use Rattle.async_mutex.specs.declared.mutex.Mutex.{Mutex}
use Rattle.async_driver.specs.declared.stage.Stage.{Stage}
use Rattle.async_driver.specs.declared.stage.Stage.TheVariants as stages
use Rattle.lock_program.specs.declared.end.Next.TheVariants.{Do}
use Rattle.lock_program.specs.declared.mutex.Place.TheVariants as at
use Rattle.mutex_core.specs.Courses.{pending}
use Rattle.mutex_core.specs.Locks.{IsOf, IsSameSeat, Seated}
use Rattle.mutex_core.specs.Outcomes.{IsGivenUp, IsHeldOf, IsStillKnown as IsStill}
use Rattle.lock_queue.specs.Receipts.{IsWakerFor}
use Rattle.mutex_core.specs.declared.turn.Held.{Held}
use Rattle.mutex_core.specs.declared.turn.Outcome.{Outcome}
use Rattle.mutex_core.specs.declared.turn.Outcome.TheVariants as outcome
use Rattle.mutex_core.specs.declared.turn.Vain.{Vain}
use Rattle.mutex_core.specs.declared.turn.Waiting.{Waiting}
use Rattle.lock_queue.specs.declared.whose.Whose.{Whose}

-- an entry in a mutex's list: the seat whose it is, whose waker it keeps, and since when it waits
pub record Listed : Type 0 where
  pub seat : Seated
  pub keeps : Whose
  pub since : Option Instant

-- how far it is, and its entry in the mutex's list
pub record Future (O : Type 0) : Type 0 where
  pub stage : Stage O
  pub entry : Option Listed

abbrev pub future : {O : Type 0} → Stage O → Option Listed → Future O
future stage entry = record { stage = stage; entry = entry }

-- the entry of what waits
abbrev pub entry_of : {T : Type 0} → Option (Waiting T) → Option Listed
entry_of None = None
entry_of (Some q) = Some (record { seat = q.seat; keeps = q.whose; since = q.since })

abbrev pub OnWaits : {T : Type 0} → Outcome T → (Waiting T → Type 0) → Type 0
OnWaits (outcome.Waits q) fact = fact q
OnWaits _ fact = ⊤

module _ {O T R : Type 0} (lock_of : O → Mutex T R) where
  -- the sources at which it waits: its mutex's own
  abbrev pub WaitsAt : Stage O → ℕ → Type 0
  WaitsAt (stages.Waits owner) s = s ≡ (lock_of owner).words.source
  WaitsAt _ s = ⊥

  -- Its entry is one of its mutex's list, and keeps a waker of the task that the context polls; its party stands where its program ends a
  -- poll as pending; and the task has registered with the mutex's source.
  abbrev pub HasReceipt : Stage O → Context → Option Listed → Type 0
  HasReceipt (stages.Waits owner) cx entry = IsSomeAnd entry (λ e. IsOf (lock_of owner).words e.seat × (e.seat.listed ≡ true) × (e.seat.course ≡ pending e.seat.starved) × IsWakerFor cx e.keeps) × Covers cx (λ s. s ≡ (lock_of owner).words.source)
  HasReceipt _ cx entry = ⊥

  -- its party waits at its mutex between two polls
  abbrev pub WaitsAs : Stage O → Waiting T → Type 0
  WaitsAs (stages.Waits owner) q = IsOf (lock_of owner).words q.seat
  WaitsAs _ q = ⊥

  -- it got the lock that it waits for, with the right to its value
  abbrev pub GotAt : Stage O → Held T → Type 0
  GotAt (stages.Waits owner) held = IsHeldOf (lock_of owner).words held
  GotAt _ held = ⊥

  -- it looked in vain at the lock that it waits for, and is about to join its list
  abbrev pub LooksInVain : Stage O → Vain T → Type 0
  LooksInVain (stages.Waits owner) vain = IsOf (lock_of owner).words vain.seat × (vain.seat.course ≡ Do (at.Join false))
  LooksInVain _ vain = ⊥

  -- how its poll went
  abbrev pub OnPolled : Stage O → Outcome T → Type 0
  OnPolled stage (outcome.Got held) = GotAt stage held
  OnPolled stage (outcome.Waits q) = WaitsAs stage q
  OnPolled stage (outcome.Refused refusal) = IsGivenUp refusal

-- a poll that went so answers that, by the same seat, and leaves this of its party
abbrev pub IsAnswer : {T G : Type 0} → (G → ℕ) → Outcome T → Turn G → Option (Waiting T) → Type 0
IsAnswer seat_of (outcome.Got held) (Ready got) left = (seat_of got ≡ held.seat.id) × (left ≡ None)
IsAnswer seat_of (outcome.Waits q) Pending left = left ≡ Some q
IsAnswer seat_of (outcome.Refused r) (Refused refusal) left = (refusal ≡ r) × (left ≡ None)
IsAnswer seat_of _ _ left = ⊥

-- Whoever waited by this seat goes on by it: the guard has it, or it waits still.
abbrev pub GoesOnBy : {G : Type 0} → (G → ℕ) → Seated → Turn G → Option Listed → Type 0
GoesOnBy seat_of seat (Ready got) entry = seat_of got ≡ seat.id
GoesOnBy seat_of seat Pending entry = IsSomeAnd entry (λ e. IsSameSeat seat e.seat)
GoesOnBy seat_of seat (Refused refusal) entry = ⊤

-- Whoever waits on, and isn't counted as starved, waits since then.
abbrev pub WaitsSinceThen : {G : Type 0} → Option Instant → Turn G → Option Listed → Type 0
WaitsSinceThen then Pending entry = IsSomeAnd entry (λ e. e.seat.starved ≡ false → IsStill then e.since)
WaitsSinceThen then _ entry = ⊤
