-- What a party has and knows where it stands.
use Rattle.std.specs.Prelude.{◌≡◌, ℕ, ◌+◌, ◌<◌, ◌≤◌, Bool, true, false}
use Rattle.world_mutex.specs.machine.Course.{Course, is_out, is_holding, is_waiting, is_taking, is_releasing, is_cancelling}
use Rattle.sync_program.specs.declared.barrier.Aim.{Aim}
use Rattle.sync_program.specs.declared.barrier.Aim.TheVariants as aim
use Rattle.sync_program.specs.declared.barrier.Ending.{Ending}
use Rattle.sync_program.specs.declared.barrier.Ending.TheVariants as ending
use Rattle.sync_program.specs.declared.barrier.Place.{Place}
use Rattle.sync_program.specs.declared.barrier.Place.TheVariants.{EnterLock, WaitLock, TakeLock, Look, Join, Arrive, Complete, NotifyAll, Check, JoinAgain, ReleaseLock, ReleasingLock, Ask, CancelLock, CancellingLock, CancelLeave, Abandon}
use Rattle.sync_program.specs.declared.barrier.Position.{Position}
use Rattle.sync_program.specs.declared.barrier.Position.TheVariants.{Out, Made, Locking, Waiting, At}
use Rattle.world_barrier.specs.declared.program.words.Progress.{Progress}
use Rattle.world_barrier.specs.declared.program.words.Words.{Words}
use Rattle.world_barrier.specs.program.Words.{IsFollower}

-- How a party stands in the inner lock.
pub data InLock : Type 0 where
  outside : InLock
  waits : InLock
  takes : InLock
  holds : InLock
  releases : InLock
  cancels : InLock

abbrev pub fits_lock : InLock → Course → Bool
fits_lock outside c = is_out c
fits_lock waits c = is_waiting c
fits_lock takes c = is_taking c
fits_lock holds c = is_holding c
fits_lock releases c = is_releasing c
fits_lock cancels c = is_cancelling c

-- How many entries a party has in the barrier's list, how it stands in the inner lock, and whether it is a counted follower whose wait isn't over.
pub record Seat : Type 0 where
  pub listed : ℕ
  pub lock : InLock
  pub follows : Bool

abbrev pub seat : ℕ → InLock → Bool → Seat
seat listed lock follows = record { listed = listed; lock = lock; follows = follows }

-- a wait that takes the inner lock for this is counted
abbrev pub is_counted : Aim → Bool
is_counted aim.Arrive = false
is_counted aim.Check = true

-- a party that comes to this once it has released the inner lock
abbrev pub ending_listed : Ending → ℕ
ending_listed ending.Wait = 1
ending_listed e = 0

abbrev pub ending_follows : Ending → Bool
ending_follows ending.Wait = true
ending_follows (ending.RefuseMemory a) = is_counted a
ending_follows e = false

abbrev pub seat_of : Place → Seat
seat_of (EnterLock a) = seat 0 outside (is_counted a)
seat_of (WaitLock a) = seat 0 waits (is_counted a)
seat_of (TakeLock a) = seat 0 takes (is_counted a)
seat_of Look = seat 0 holds false
seat_of Join = seat 0 holds false
seat_of Arrive = seat 1 holds false
seat_of Complete = seat 0 holds false
seat_of NotifyAll = seat 0 holds false
seat_of Check = seat 0 holds true
seat_of JoinAgain = seat 0 holds true
seat_of (ReleaseLock e) = seat (ending_listed e) holds (ending_follows e)
seat_of (ReleasingLock e) = seat (ending_listed e) releases (ending_follows e)
seat_of Ask = seat 1 outside true
seat_of CancelLock = seat 0 waits false
seat_of CancellingLock = seat 0 cancels false
seat_of CancelLeave = seat 1 outside true
seat_of Abandon = seat 0 outside false

abbrev pub seated : Position → Seat
seated Out = seat 0 outside false
seated (Made a) = seat 0 outside (is_counted a)
seated (Locking a) = seat 0 waits (is_counted a)
seated Waiting = seat 1 outside true
seated (At place) = seat_of place

-- each of these by itself
abbrev pub listed : Position → ℕ
listed x = (seated x).listed

abbrev pub in_lock : Position → InLock
in_lock x = (seated x).lock

abbrev pub follows : Position → Bool
follows x = (seated x).follows

-- a listed party that isn't counted yet
abbrev pub is_late : Position → Bool
is_late (At Arrive) = true
is_late x = false

-- a party that has finished a generation, and still has to notify all
abbrev pub will_tell : Position → Bool
will_tell (At NotifyAll) = true
will_tell x = false

-- What a party is sure of that has looked with the inner lock: that more have to arrive, that it may finish the generation, or that the one of its arrival isn't finished.
abbrev pub Sure : Position → Progress → Words → Type 0
Sure (At Join) a w = w.progress.count + 1 < w.size
Sure (At Arrive) a w = w.progress.count + 1 < w.size
Sure (At Complete) a w = (w.size ≤ w.progress.count + 1) × (w.progress.generation < w.most)
Sure (At JoinAgain) a w = a.generation ≡ w.progress.generation
Sure x a w = Unit {0}

-- What a party whose wait is over knows of its arrival: it finished its generation, or another that did came since.
abbrev pub Outcome : Ending → Progress → Words → Type 0
Outcome ending.Lead a w = (a.count ≡ 0) × (0 < a.generation)
Outcome ending.Follow a w = IsFollower w.size a × (a.generation < w.progress.generation)
Outcome e a w = Unit {0}

abbrev pub HasOutcome : Position → Progress → Words → Type 0
HasOutcome (At NotifyAll) a w = Outcome ending.Lead a w
HasOutcome (At (ReleaseLock e)) a w = Outcome e a w
HasOutcome (At (ReleasingLock e)) a w = Outcome e a w
HasOutcome x a w = Unit {0}

-- outside every program
abbrev pub is_resting : Position → Bool
is_resting (At place) = false
is_resting x = true
