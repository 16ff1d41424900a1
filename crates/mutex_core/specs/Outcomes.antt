-- How a poll went.
use Rattle.std.specs.Prelude.{◌≡◌, ⊤, false, Option, Some, None}
use Rattle.std.specs.declared.time.Instant.{Instant}
use Rattle.futures.specs.Task.{Keeps}
use Rattle.futures.specs.declared.task.context.Context.{Context}
use Rattle.lock_place.specs.declared.room.Hold.{Hold}
use Rattle.lock_program.specs.declared.refusal.Refusal.{Refusal}
use Rattle.lock_program.specs.declared.refusal.Refusal.TheVariants as refusals
use Rattle.mutex_core.specs.Locks.{Lock, Seated, IsOf, IsSameSeat, IsHolding}
use Rattle.lock_queue.specs.Receipts.{IsReceipt}
use Rattle.mutex_core.specs.declared.turn.Held.{Held}
use Rattle.mutex_core.specs.declared.turn.Outcome.{Outcome}
use Rattle.mutex_core.specs.declared.turn.Outcome.TheVariants.{Got, Waits, Refused}

-- It is the right to this lock's value, which lies where it lay when the lock was made.
abbrev pub IsRightOf : {T : Type 0} → Lock → Hold T → Type 0
IsRightOf lock hold = (hold.room_id ≡ lock.room) × (lock.room ≡ lock.right.room)

-- Its seat is one of this lock, and it has the right to this lock's value.
abbrev pub IsHeldOf : {T : Type 0} → Lock → Held T → Type 0
IsHeldOf lock held = IsOf lock held.seat × IsRightOf lock held.hold

-- The seat holds this lock, and it is the right to the lock's value.
abbrev pub Holds : {T : Type 0} → Lock → Seated → Hold T → Type 0
Holds lock seat hold = IsOf lock seat × IsHolding seat × IsRightOf lock hold

-- A poll is refused for memory, or for too many starved waiters.
abbrev pub IsGivenUp : Refusal → Type 0
IsGivenUp refusals.Memory = ⊤
IsGivenUp refusals.Starved = ⊤
IsGivenUp _ = ⊥

-- Whoever has the lock, or waits, does so at this one. Who waits has an entry that keeps a waker of the task that polls, which has registered
-- with the lock's source.
abbrev pub IsOutcomeOf : {T : Type 0} → Lock → Context → Outcome T → Type 0
IsOutcomeOf lock cx (Got held) = IsHeldOf lock held
IsOutcomeOf lock cx (Waits waiting) = IsOf lock waiting.seat × IsReceipt lock.source cx waiting.whose
IsOutcomeOf lock cx (Refused refusal) = IsGivenUp refusal

-- Whoever has the lock, or waits, does so by this seat.
abbrev pub IsBySeat : {T : Type 0} → Seated → Outcome T → Type 0
IsBySeat seat (Got held) = IsSameSeat seat held.seat
IsBySeat seat (Waits waiting) = IsSameSeat seat waiting.seat
IsBySeat seat (Refused refusal) = ⊤

-- What was known of when a party first waited is known still.
abbrev pub IsStillKnown : Option Instant → Option Instant → Type 0
IsStillKnown None since = ⊤
IsStillKnown (Some then) since = since ≡ Some then

-- Whoever waits, and isn't counted as starved, waits since then.
abbrev pub WaitsSince : {T : Type 0} → Option Instant → Outcome T → Type 0
WaitsSince then (Waits waiting) = waiting.is_starved ≡ false → IsStillKnown then waiting.since
WaitsSince then outcome = ⊤

-- A poll by this seat went so, and the task's context was kept.
abbrev pub IsPolled : {T : Type 0} → Lock → Context → Context → Seated → Outcome T → Type 0
IsPolled lock before after seat outcome = IsOutcomeOf lock after outcome × IsBySeat seat outcome × Keeps before after
