-- What an arrival finds of how far the barrier is, and how a wait has ended.
use Rattle.std.specs.Prelude.{ℕ, ◌+◌, ◌<◌, ◌≤◌, Bool, true, false}
use Rattle.sync_program.specs.declared.barrier.Found.{Found}
use Rattle.sync_program.specs.declared.barrier.Found.TheVariants as finds
use Rattle.barrier_core.specs.Barriers.{Barrier, Seated, IsOf}
use Rattle.barrier_core.specs.declared.arrivals.Arrivals.{Arrivals}
use Rattle.barrier_core.specs.declared.arrivals.Looked.{Looked}
use Rattle.barrier_core.specs.declared.arrivals.Looked.TheVariants.{MustWait, Leads, Past}
use Rattle.barrier_core.specs.declared.turn.Arrival.{Arrival}
use Rattle.barrier_core.specs.declared.turn.Verdict.{Verdict}
use Rattle.barrier_core.specs.declared.turn.Verdict.TheVariants as verdict

-- At a barrier of this size and limit, of which so many generations are finished: more have to come; or it finishes its generation; or that would pass
-- the limit.
abbrev pub FindsLook : Barrier → ℕ → Looked → Arrivals → Type 0
FindsLook barrier finished MustWait w = w.count + 1 < barrier.size
FindsLook barrier finished Leads w = (barrier.size ≤ w.count + 1) × (finished < barrier.most)
FindsLook barrier finished Past w = (barrier.size ≤ w.count + 1) × (barrier.most ≤ finished)

-- what its program says of that
abbrev pub looked : Looked → Found
looked MustWait = finds.MustWait
looked Leads = finds.Leads
looked Past = finds.Past

-- The arrival's seat is one of this barrier.
abbrev pub IsOfThis : Barrier → Arrival → Type 0
IsOfThis barrier arrival = IsOf barrier arrival.seat

abbrev pub leads : Verdict → Bool
leads (verdict.Led led) = true
leads (verdict.Followed followed) = false

-- by which seat
abbrev pub seat_by : Verdict → Seated
seat_by (verdict.Led led) = led.seat
seat_by (verdict.Followed followed) = followed.seat

-- It was found at this barrier.
abbrev pub IsFoundAt : Barrier → Verdict → Type 0
IsFoundAt barrier v = IsOf barrier (seat_by v)
