-- How a try and a poll went.
use Rattle.std.specs.Prelude.{◌≡◌, ⊤, ℕ, true, false, None}
use Rattle.futures.specs.declared.task.context.Context.{Context}
use Rattle.lock_program.specs.declared.end.Next.TheVariants.{Do}
use Rattle.lock_program.specs.declared.refusal.Refusal.TheVariants.{Memory}
use Rattle.lock_queue.specs.Receipts.{IsReceipt}
use Rattle.semaphore_core.specs.Courses.{vain}
use Rattle.semaphore_core.specs.Semaphores.{Semaphore, Seated, IsSameSeat, Has, Holds, IsShort}
use Rattle.semaphore_core.specs.declared.turn.Notifies.{Notifies}
use Rattle.semaphore_core.specs.declared.turn.Outcome.{Outcome}
use Rattle.semaphore_core.specs.declared.turn.Outcome.TheVariants as outcome
use Rattle.semaphore_core.specs.declared.turn.Tried.{Tried}
use Rattle.semaphore_core.specs.declared.turn.Tried.TheVariants as tried
use Rattle.semaphore_core.specs.declared.turn.Waiting.{Waiting}
use Rattle.sync_program.specs.Permits.{next_of}
use Rattle.sync_program.specs.declared.permits.Found.TheVariants.{Left, Short}
use Rattle.sync_program.specs.declared.permits.Place.{Place}
use Rattle.sync_program.specs.declared.permits.Place.TheVariants.{Take, Try, Join, Ask, Remove, FitGivenBack}

module _ (s : Semaphore) (k : ℕ) where
  -- A try, whose word changed meanwhile, is still to take.
  abbrev pub IsTrying : Seated → Type 0
  IsTrying seat = Has s 0 seat × (seat.course ≡ Do (Try k))

  -- A try has ended, whose last look found fewer.
  abbrev pub IsVain : Seated → Type 0
  IsVain seat = IsShort s k seat × (seat.course ≡ vain)

  -- A first poll, whose word changed meanwhile, is still to take.
  abbrev pub IsLooking : Seated → Type 0
  IsLooking seat = Has s 0 seat × (seat.course ≡ Do (Take k false false))

  -- A first poll, whose last look found fewer, is to join.
  abbrev pub IsJoining : Seated → Type 0
  IsJoining seat = IsShort s k seat × (seat.course ≡ Do (Join k None))

  -- How the first action of a call went, at this place. A seat that got so many permits has exactly these; one whose word changed has none, and stays
  -- there; and one that is in vain found fewer.
  abbrev pub OnFirst : Place → Tried → Type 0
  OnFirst at (tried.Got seat) = Has s k seat × (seat.course ≡ next_of at (Left seat.found))
  OnFirst at (tried.Short seat) = IsShort s k seat × (seat.course ≡ next_of at (Short seat.found))
  OnFirst at (tried.Changed seat) = Has s 0 seat × (seat.course ≡ Do at)

  -- How the action of a try went.
  abbrev pub OnTried : Tried → Type 0
  OnTried (tried.Got seat) = Holds s k seat
  OnTried (tried.Short seat) = IsVain seat
  OnTried (tried.Changed seat) = IsTrying seat

  -- How the first look of a poll went.
  abbrev pub OnLooked : Tried → Type 0
  OnLooked (tried.Got seat) = Holds s k seat
  OnLooked (tried.Short seat) = IsJoining seat
  OnLooked (tried.Changed seat) = IsLooking seat

-- At this place whoever stands in the list and wasn't told looks: it leaves the list then, or asks.
abbrev pub IsLook : ℕ → Place → Type 0
IsLook k at = ((a : ℕ) → next_of at (Left a) ≡ Do (Remove k None)) × ((a : ℕ) → next_of at (Short a) ≡ Do (Ask k None))

-- It waits at this semaphore for so many permits.
abbrev pub WaitsFor : Semaphore → ℕ → Waiting → Type 0
WaitsFor s k w = (w.seat.table ≡ s.word.table) × (w.seat.weight ≡ k)

-- Its seat has given what the receipt names, and owes a notification of as many as were available then.
abbrev pub Owes : Semaphore → Notifies → Type 0
Owes s n =
    (n.seat.table ≡ s.word.table)
    × (n.seat.permits ≡ 0)
    × (n.seat.under_way ≡ 0)
    × (n.seat.listed ≡ false)
    × (n.seat.fresh ≡ false)
    × (n.seat.seen ≡ true)
    × (n.given.available ≡ n.seat.found)
    × (n.seat.course ≡ Do (FitGivenBack n.given.available))

-- How a poll went. Who got the permits has exactly these. One that waits does so at this semaphore for as many, and its entry keeps a waker of
-- the task that polls, which has registered with the semaphore's source. One is refused for memory alone.
abbrev pub OnOutcome : Semaphore → ℕ → Context → Outcome → Type 0
OnOutcome s k cx (outcome.Got seat) = Holds s k seat
OnOutcome s k cx (outcome.Waits waiting) = WaitsFor s k waiting × IsReceipt s.source cx waiting.whose
OnOutcome s k cx (outcome.Refused refusal) = refusal ≡ Memory

-- Whoever has the permits, or waits, does so by this seat.
abbrev pub IsBySeat : Seated → Outcome → Type 0
IsBySeat seat (outcome.Got got) = IsSameSeat seat got
IsBySeat seat (outcome.Waits waiting) = IsSameSeat seat waiting.seat
IsBySeat seat (outcome.Refused refusal) = ⊤
