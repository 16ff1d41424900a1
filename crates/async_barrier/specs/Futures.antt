-- What contracts see of a barrier's future, and what a poll answers.
use Rattle.std.specs.Prelude.{◌≡◌, ℕ, ⊤, Bool, Option, Some, None, IfSome, IsSomeAnd}
use Rattle.async_barrier.specs.declared.barrier.Barrier.{Barrier}
use Rattle.async_barrier.specs.declared.result.BarrierWaitResult.{BarrierWaitResult}
use Rattle.async_driver.specs.declared.turn.Turn.{Turn}
use Rattle.async_driver.specs.declared.turn.Turn.TheVariants.{Pending, Ready, Refused}
use Rattle.barrier_core.specs.Barriers.{Barrier as RawBarrier, Seated, HasEnded, IsOf, IsSameSeat}
use Rattle.barrier_core.specs.Outcomes.{HasReceipt, LocksBy, RestsAt, RestsBy, counted_in}
use Rattle.barrier_core.specs.declared.turn.Aim.TheVariants as aim
use Rattle.barrier_core.specs.declared.turn.Resting.{Resting}
use Rattle.barrier_core.specs.declared.turn.Resting.TheVariants as resting
use Rattle.futures.specs.declared.task.context.Context.{Context}

-- its barrier, whether it was ready before, what it has between two polls, and the seat by which it has ended
pub record Future (R : Type 0) : Type 0 where
  pub barrier : Barrier R
  pub is_over : Bool
  pub waiting : Option Resting
  pub ended : Option Seated

abbrev pub future : {R : Type 0} → Barrier R → Bool → Option Resting → Option Seated → Future R
future barrier over waiting ended = record { barrier = barrier; is_over = over; waiting = waiting; ended = ended }

-- in which generation its arrival was counted, if it was
abbrev pub counted_of : Option Resting → Option ℕ
counted_of None = None
counted_of (Some r) = counted_in r

-- It has an entry in the barrier's list or in the inner lock's, which keeps a waker of the task that the context polls, and the task has registered with
-- the barrier's source.
abbrev pub IsReceipt : RawBarrier → Context → Option Resting → Type 0
IsReceipt raw cx waiting = IsSomeAnd waiting (λ r. RestsAt raw r × HasReceipt raw cx r)

-- it has an entry in no list: it has nothing at the barrier, or an arrival that was counted
abbrev pub IsInNoList : Option Resting → Type 0
IsInNoList None = ⊤
IsInNoList (Some (resting.Counted arrival)) = ⊤
IsInNoList (Some r) = ⊥

-- The wait has ended by a seat of this barrier: it leads by one that has finished a generation, and follows by one whose arrival was counted, and that has
-- found that arrival's generation finished.
abbrev pub IsResultAt : RawBarrier → BarrierWaitResult → Type 0
IsResultAt raw result = IsOf raw result.by.seat × HasEnded result.is_leader result.by.seat

-- Such a result, and its seat is the one by which the future has ended.
abbrev pub IsEndOf : RawBarrier → Option Seated → BarrierWaitResult → Type 0
IsEndOf raw ended result = IsResultAt raw result × (ended ≡ Some result.by.seat)

-- a fact of a poll after which the future goes on
abbrev pub OnAgain : Turn BarrierWaitResult → Type 0 → Type 0
OnAgain (Ready got) fact = ⊤
OnAgain Pending fact = fact
OnAgain (Refused refusal) fact = fact

-- An arrival that was counted goes on by this seat, or its wait has ended by it.
abbrev pub GoesBy : Seated → Turn BarrierWaitResult → Option Resting → Option Seated → Type 0
GoesBy seat (Ready got) waiting ended = IsSomeAnd ended (IsSameSeat seat)
GoesBy seat Pending waiting ended = IsSomeAnd waiting (RestsBy seat)
GoesBy seat (Refused refusal) waiting ended = IsSomeAnd waiting (RestsBy seat)

-- A wait goes on by the seat that it has: of the barrier, once its arrival was counted, and of the inner lock, until then.
abbrev pub GoesOnBy : Resting → Turn BarrierWaitResult → Option Resting → Option Seated → Type 0
GoesOnBy (resting.Counted arrival) turn waiting ended = GoesBy arrival.seat turn waiting ended
GoesOnBy (resting.Locking (aim.Arrive course) lock) turn waiting ended = OnAgain turn (IfSome waiting (LocksBy lock.seat))
GoesOnBy (resting.Locking (aim.Check arrival) lock) turn waiting ended = GoesBy arrival.seat turn waiting ended
GoesOnBy (resting.Waiting w) turn waiting ended = GoesBy w.seat turn waiting ended
