-- What a party has where it stands: how its calls on the semaphore and on the list's lock are there, and whether it has a lease.
use Rattle.std.specs.Prelude.{◌==◌, ◌&&◌, Bool, true, false}
use Rattle.world_mutex.specs.machine.Course.{Course, is_out, is_holding, is_waiting, is_taking, is_releasing, is_cancelling}
use Rattle.world_semaphore.specs.machine.Course as permit
use Rattle.world_pool.specs.declared.program.places.Aim.{Aim}
use Rattle.world_pool.specs.declared.program.places.Aim.TheVariants as aim
use Rattle.world_pool.specs.declared.program.places.Ending.TheVariants as ending
use Rattle.world_pool.specs.declared.program.places.Place.{Place}
use Rattle.world_pool.specs.declared.program.places.Place.TheVariants.{Acquire, WaitPermit, TakePermit, TryPermit, TryLock, EnterLock, WaitLock, TakeLock, Pop, Push, ReleaseLock, ReleasingLock, ReturnPermit, ReturningPermit, CancelPermit, CancellingPermit, CancelLock, CancellingLock, Lose, Abandon}
use Rattle.world_pool.specs.declared.program.places.Position.{Position}
use Rattle.world_pool.specs.declared.program.places.Position.TheVariants.{Out, Made, Acquiring, Locking, Leased, At}
use Rattle.world_pool.specs.declared.program.places.Return.TheVariants as why

-- How a party stands in the semaphore: with nothing; with an acquire for one permit; inside its poll; with one permit; or inside a drop.
pub data InPermits : Type 0 where
  without : InPermits
  wants : InPermits
  polls : InPermits
  has : InPermits
  returns : InPermits

-- How a party stands in the list's lock.
pub data InLock : Type 0 where
  outside : InLock
  waits : InLock
  takes : InLock
  holds : InLock
  releases : InLock
  cancels : InLock

-- a future for one permit, in the list or not
abbrev pub is_wanting : permit.Course → Bool
is_wanting (permit.unlisted k) = k == 1
is_wanting (permit.waiting k) = k == 1
is_wanting c = false

abbrev pub is_out_there : permit.Course → Bool
is_out_there permit.out = true
is_out_there c = false

abbrev pub is_having : permit.Course → Bool
is_having (permit.holding k) = k == 1
is_having c = false

abbrev pub fits_permits : InPermits → permit.Course → Bool
fits_permits without c = is_out_there c
fits_permits wants c = is_wanting c
fits_permits polls c = permit.is_polling c && (permit.size c == 1)
fits_permits has c = is_having c
fits_permits returns c = permit.is_dropping c

abbrev pub fits_lock : InLock → Course → Bool
fits_lock outside c = is_out c
fits_lock waits c = is_waiting c
fits_lock takes c = is_taking c
fits_lock holds c = is_holding c
fits_lock releases c = is_releasing c
fits_lock cancels c = is_cancelling c

-- How a party stands in the semaphore and in the list's lock, and whether it has a lease.
pub record Seat : Type 0 where
  pub permits : InPermits
  pub lock : InLock
  pub leased : Bool

abbrev pub seat : InPermits → InLock → Bool → Seat
seat permits lock leased = record { permits = permits; lock = lock; leased = leased }

-- who acquires the lock to give has a lease
abbrev pub is_to_give : Aim → Bool
is_to_give aim.Take = false
is_to_give aim.Give = true

abbrev pub seat_of : Place → Seat
seat_of Acquire = seat without outside false
seat_of WaitPermit = seat wants outside false
seat_of TakePermit = seat polls outside false
seat_of TryPermit = seat without outside false
seat_of TryLock = seat has outside false
seat_of (EnterLock a) = seat has outside (is_to_give a)
seat_of (WaitLock a) = seat has waits (is_to_give a)
seat_of (TakeLock a) = seat has takes (is_to_give a)
seat_of (Pop t) = seat has holds false
seat_of Push = seat has holds true
seat_of (ReleaseLock (ending.Leased t)) = seat has holds true
seat_of (ReleaseLock ending.Given) = seat has holds false
seat_of (ReleasingLock (ending.Leased t)) = seat has releases true
seat_of (ReleasingLock ending.Given) = seat has releases false
seat_of (ReturnPermit r) = seat has outside false
seat_of (ReturningPermit r) = seat returns outside false
seat_of CancelPermit = seat wants outside false
seat_of CancellingPermit = seat returns outside false
seat_of (CancelLock a) = seat has waits (is_to_give a)
seat_of (CancellingLock a) = seat has cancels (is_to_give a)
seat_of Lose = seat has outside true
seat_of Abandon = seat without outside false

abbrev pub made_seat : Aim → Seat
made_seat aim.Take = seat without outside false
made_seat aim.Give = seat has outside true

abbrev pub seat_at : Position → Seat
seat_at Out = seat without outside false
seat_at (Made a) = made_seat a
seat_at Acquiring = seat wants outside false
seat_at (Locking a) = seat has waits (is_to_give a)
seat_at Leased = seat has outside true
seat_at (At place) = seat_of place

abbrev pub in_permits : Position → InPermits
in_permits x = (seat_at x).permits

abbrev pub in_lock : Position → InLock
in_lock x = (seat_at x).lock

abbrev pub is_leased : Position → Bool
is_leased x = (seat_at x).leased

-- It is inside no call.
abbrev pub is_resting : Position → Bool
is_resting (At place) = false
is_resting x = true

-- A pending take that has a permit, and waits for the list's lock.
abbrev pub is_taking_out : Position → Bool
is_taking_out (Locking aim.Take) = true
is_taking_out x = false

-- A give, pending or inside a poll, until its permit is given back.
abbrev pub is_giving_at : Place → Bool
is_giving_at (EnterLock aim.Give) = true
is_giving_at (WaitLock aim.Give) = true
is_giving_at (TakeLock aim.Give) = true
is_giving_at Push = true
is_giving_at (ReleaseLock ending.Given) = true
is_giving_at (ReleasingLock ending.Given) = true
is_giving_at (ReturnPermit why.Given) = true
is_giving_at (ReturningPermit why.Given) = true
is_giving_at x = false

abbrev pub is_giving : Position → Bool
is_giving (Made aim.Give) = true
is_giving (Locking aim.Give) = true
is_giving (At place) = is_giving_at place
is_giving x = false
