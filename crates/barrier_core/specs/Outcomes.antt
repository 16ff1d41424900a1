-- How a poll went.
use Rattle.std.specs.Prelude.{◌≡◌, ℕ, ⊤, Option, Some, None, IfSome}
use Rattle.futures.specs.declared.task.context.Context.{Context}
use Rattle.lock_place.specs.declared.room.Hold.{Hold}
use Rattle.lock_program.specs.declared.refusal.Refusal.{Refusal}
use Rattle.lock_program.specs.declared.refusal.Refusal.TheVariants as refusals
use Rattle.lock_program.specs.declared.end.Next.TheVariants.{Do}
use Rattle.sync_program.specs.declared.barrier.Aim.{Aim as ProgramAim}
use Rattle.sync_program.specs.declared.barrier.Aim.TheVariants as aims
use Rattle.sync_program.specs.declared.barrier.Place.TheVariants.{EnterLock}
use Rattle.mutex_core.specs.Locks as lock
use Rattle.mutex_core.specs.Outcomes as locked
use Rattle.barrier_core.specs.Barriers.{Barrier, Seated, IsOf, IsSameSeat}
use Rattle.barrier_core.specs.Counts.{IsFoundAt, IsOfThis, seat_by}
use Rattle.barrier_core.specs.Courses.{Course, IsCounted, locking, refused}
use Rattle.lock_queue.specs.Receipts.{IsReceipt}
use Rattle.barrier_core.specs.declared.arrivals.Arrivals.{Arrivals}
use Rattle.barrier_core.specs.declared.turn.Aim.{Aim}
use Rattle.barrier_core.specs.declared.turn.Aim.TheVariants as aim
use Rattle.barrier_core.specs.declared.turn.Arrival.{Arrival}
use Rattle.barrier_core.specs.declared.turn.Checking.{Checking}
use Rattle.barrier_core.specs.declared.turn.Checking.TheVariants as checking
use Rattle.barrier_core.specs.declared.turn.Outcome.{Outcome}
use Rattle.barrier_core.specs.declared.turn.Outcome.TheVariants.{Ready, Pending, Refused}
use Rattle.barrier_core.specs.declared.turn.Resting.{Resting}
use Rattle.barrier_core.specs.declared.turn.Resting.TheVariants as resting

-- it is the right to the count of this barrier
abbrev pub IsRightOf : Barrier → Hold Arrivals → Type 0
IsRightOf barrier hold = locked.IsRightOf barrier.inner hold

-- the seat holds this barrier's inner lock, and it is the right to the count
abbrev pub HasLock : Barrier → lock.Seated → Hold Arrivals → Type 0
HasLock barrier seat hold = locked.Holds barrier.inner seat hold

-- the arrival that was counted, if one was
abbrev pub counted_by : Aim → Option Arrival
counted_by (aim.Arrive course) = None
counted_by (aim.Check arrival) = Some arrival

-- what its program says of that
abbrev pub aim_of : Aim → ProgramAim
aim_of (aim.Arrive course) = aims.Arrive
aim_of (aim.Check arrival) = aims.Check

-- where it is in its program
abbrev pub course_of : Aim → Course
course_of (aim.Arrive course) = course
course_of (aim.Check arrival) = arrival.seat.course

-- in which generation it was counted, if it was
abbrev pub generation_of : Option Arrival → Option ℕ
generation_of None = None
generation_of (Some arrival) = Some arrival.generation

abbrev pub counted_in : Resting → Option ℕ
counted_in (resting.Counted arrival) = Some arrival.generation
counted_in (resting.Locking a waiting) = generation_of (counted_by a)
counted_in (resting.Waiting waiting) = Some waiting.generation

-- its arrival is one at this barrier, if it was counted
abbrev pub IsAimAt : Barrier → Aim → Type 0
IsAimAt barrier a = IfSome (counted_by a) (IsOfThis barrier)

-- it waits at this barrier: in no list, in that of the inner lock, or in the barrier's
abbrev pub RestsAt : Barrier → Resting → Type 0
RestsAt barrier (resting.Counted arrival) = IsOfThis barrier arrival × IsCounted arrival.seat.course
RestsAt barrier (resting.Locking a waiting) = lock.IsOf barrier.inner waiting.seat × IsAimAt barrier a × (course_of a ≡ locking (aim_of a))
RestsAt barrier (resting.Waiting waiting) = IsOf barrier waiting.seat

-- a poll is refused for memory, for too many starved waiters at the inner lock, or for too many generations
abbrev pub IsGivenUp : Refusal → Type 0
IsGivenUp refusals.Memory = ⊤
IsGivenUp refusals.Starved = ⊤
IsGivenUp refusals.Generations = ⊤
IsGivenUp _ = ⊥

-- The receipt of who waits: its entry in the barrier's list, or in the inner lock's, keeps a waker of the task that the context polls; and the task has
-- registered with the barrier's source.
abbrev pub HasReceipt : Barrier → Context → Resting → Type 0
HasReceipt barrier cx (resting.Counted arrival) = ⊥
HasReceipt barrier cx (resting.Locking a waiting) = IsReceipt barrier.inner.source cx waiting.whose
HasReceipt barrier cx (resting.Waiting waiting) = IsReceipt barrier.inner.source cx waiting.whose

-- an arrival that was counted stays counted, in the same generation
abbrev pub StaysCounted : Option ℕ → Option ℕ → Type 0
StaysCounted before after = IfSome before (λ g. after ≡ Some g)

-- How a poll went of a wait that was counted in this generation before, or wasn't: what shows how the wait has ended was found at this barrier; one that
-- waits does so there, with a receipt; one that is refused is refused so by its program; and an arrival that was counted stays so unless the wait is over.
abbrev pub IsOutcomeOf : Barrier → Context → Option ℕ → Outcome → Type 0
IsOutcomeOf barrier cx before (Ready verdict) = IsFoundAt barrier verdict
IsOutcomeOf barrier cx before (Pending r) = RestsAt barrier r × HasReceipt barrier cx r × StaysCounted before (counted_in r)
IsOutcomeOf barrier cx before (Refused refusal a) = IsGivenUp refusal × IsAimAt barrier a × (course_of a ≡ refused refusal (aim_of a)) × StaysCounted before (generation_of (counted_by a))

-- the same of a check, by an arrival that may have to begin anew
abbrev pub IsCheckingOf : Barrier → Context → ℕ → Checking → Type 0
IsCheckingOf barrier cx generation (checking.Over outcome) = IsOutcomeOf barrier cx (Some generation) outcome
IsCheckingOf barrier cx generation (checking.Told arrival) = IsOfThis barrier arrival × (arrival.generation ≡ generation) × (arrival.seat.course ≡ Do (EnterLock aims.Check))

-- an arrival that was counted has this seat
abbrev pub IsAimBy : Seated → Aim → Type 0
IsAimBy seat (aim.Arrive course) = ⊥
IsAimBy seat (aim.Check arrival) = IsSameSeat seat arrival.seat

abbrev pub RestsBy : Seated → Resting → Type 0
RestsBy seat (resting.Counted arrival) = IsSameSeat seat arrival.seat
RestsBy seat (resting.Locking a waiting) = IsAimBy seat a
RestsBy seat (resting.Waiting waiting) = IsSameSeat seat waiting.seat

-- an arrival that was counted goes on by this seat, or its wait has ended by it
abbrev pub IsBySeat : Seated → Outcome → Type 0
IsBySeat seat (Ready verdict) = IsSameSeat seat (seat_by verdict)
IsBySeat seat (Pending r) = RestsBy seat r
IsBySeat seat (Refused refusal a) = IsAimBy seat a

abbrev pub IsCheckingBy : Seated → Checking → Type 0
IsCheckingBy seat (checking.Over outcome) = IsBySeat seat outcome
IsCheckingBy seat (checking.Told arrival) = IsSameSeat seat arrival.seat

-- one that isn't counted, and waits for the inner lock, waits by this seat of that lock
abbrev pub LocksBy : lock.Seated → Resting → Type 0
LocksBy seat (resting.Counted arrival) = ⊤
LocksBy seat (resting.Locking (aim.Arrive course) waiting) = lock.IsSameSeat seat waiting.seat
LocksBy seat (resting.Locking (aim.Check arrival) waiting) = ⊤
LocksBy seat (resting.Waiting waiting) = ⊤

abbrev pub IsByLock : lock.Seated → Outcome → Type 0
IsByLock seat (Ready verdict) = ⊤
IsByLock seat (Pending r) = LocksBy seat r
IsByLock seat (Refused refusal a) = ⊤

-- A wait goes on by the seat that it has: of the barrier, once its arrival was counted, and of the inner lock, until then.
abbrev pub GoesOn : Resting → Outcome → Type 0
GoesOn (resting.Counted arrival) outcome = IsBySeat arrival.seat outcome
GoesOn (resting.Locking (aim.Arrive course) waiting) outcome = IsByLock waiting.seat outcome
GoesOn (resting.Locking (aim.Check arrival) waiting) outcome = IsBySeat arrival.seat outcome
GoesOn (resting.Waiting waiting) outcome = IsBySeat waiting.seat outcome
