-- The programs of a pool's calls: where each begins, what is done at a place, and what comes next by what was found.
use Rattle.std.specs.Prelude.{ℕ, Option, Some, None}
use Rattle.lock_program.specs.declared.end.End.TheVariants as ended
use Rattle.lock_program.specs.declared.end.Next.{Next as TableNext}
use Rattle.lock_program.specs.declared.end.Next.TheVariants as next
use Rattle.lock_program.specs.declared.mutex.LockCall.TheVariants as lock_call
use Rattle.lock_program.specs.declared.mutex.Step.TheVariants as step
use Rattle.lock_program.specs.declared.refusal.Refusal.{Refusal}
use Rattle.lock_program.specs.declared.refusal.Refusal.TheVariants as refusal
use Rattle.sync_program.specs.declared.permits.SemaphoreCall.TheVariants as permit_call
use Rattle.world_base.specs.declared.moves.Call.{Call}
use Rattle.world_base.specs.declared.moves.Call.TheVariants as call
use Rattle.world_base.specs.declared.moves.Got.{Got}
use Rattle.world_base.specs.declared.moves.Got.TheVariants as got
use Rattle.world_base.specs.declared.moves.What.{What}
use Rattle.world_base.specs.declared.moves.What.TheVariants.{Begin, Go}
use Rattle.world_pool.specs.declared.program.places.Action.{Action}
use Rattle.world_pool.specs.declared.program.places.Action.TheVariants as act
use Rattle.world_pool.specs.declared.program.places.Aim.{Aim}
use Rattle.world_pool.specs.declared.program.places.Aim.TheVariants as aim
use Rattle.world_pool.specs.declared.program.places.Ending.{Ending}
use Rattle.world_pool.specs.declared.program.places.Ending.TheVariants as ending
use Rattle.world_pool.specs.declared.program.places.Found.{Found}
use Rattle.world_pool.specs.declared.program.places.Found.TheVariants as found
use Rattle.world_pool.specs.declared.program.places.Place.{Place}
use Rattle.world_pool.specs.declared.program.places.Place.TheVariants.{Acquire, WaitPermit, TakePermit, TryPermit, TryLock, EnterLock, WaitLock, TakeLock, Pop, Push, ReleaseLock, ReleasingLock, ReturnPermit, ReturningPermit, CancelPermit, CancellingPermit, CancelLock, CancellingLock, Lose, Abandon}
use Rattle.world_pool.specs.declared.program.places.PoolCall.{PoolCall}
use Rattle.world_pool.specs.declared.program.places.PoolCall.TheVariants as asks
use Rattle.world_pool.specs.declared.program.places.Position.{Position}
use Rattle.world_pool.specs.declared.program.places.Position.TheVariants as stands
use Rattle.world_pool.specs.declared.program.places.Return.{Return}
use Rattle.world_pool.specs.declared.program.places.Return.TheVariants as why
use Rattle.world_pool.specs.declared.program.places.Taker.TheVariants as taker

-- what comes next after a place
abbrev pub Next : Type 0
Next = TableNext Place Position

-- the place at which a call begins
abbrev pub start_of : PoolCall → Position → Option Place
start_of asks.Take stands.Out = Some Acquire
start_of asks.TryTake stands.Out = Some TryPermit
start_of asks.Give stands.Leased = Some (EnterLock aim.Give)
start_of asks.Poll (stands.Made aim.Take) = Some Acquire
start_of asks.Poll (stands.Made aim.Give) = Some (EnterLock aim.Give)
start_of asks.Poll stands.Acquiring = Some WaitPermit
start_of asks.Poll (stands.Locking a) = Some (WaitLock a)
start_of asks.Drop (stands.Made aim.Take) = Some Abandon
start_of asks.Drop (stands.Made aim.Give) = Some Lose
start_of asks.Drop stands.Acquiring = Some CancelPermit
start_of asks.Drop (stands.Locking a) = Some (CancelLock a)
start_of asks.Drop stands.Leased = Some Lose
start_of _ x = None

abbrev pub action_of : Place → Action
action_of Acquire = act.Permit (permit_call.Acquire 1)
action_of WaitPermit = act.Permit permit_call.Poll
action_of TryPermit = act.Permit (permit_call.TryAcquire 1)
action_of (ReturnPermit r) = act.Permit permit_call.Drop
action_of CancelPermit = act.Permit permit_call.Drop
action_of TakePermit = act.GoPermit
action_of (ReturningPermit r) = act.GoPermit
action_of CancellingPermit = act.GoPermit
action_of TryLock = act.Lock lock_call.Try
action_of (EnterLock a) = act.Lock lock_call.Lock
action_of (WaitLock a) = act.Lock lock_call.Poll
action_of (ReleaseLock e) = act.Lock lock_call.Release
action_of (CancelLock a) = act.Lock lock_call.Cancel
action_of (TakeLock a) = act.GoLock
action_of (ReleasingLock e) = act.GoLock
action_of (CancellingLock a) = act.GoLock
action_of (Pop t) = act.Pop
action_of Push = act.Push
action_of Lose = act.Lose
action_of Abandon = act.Nothing

-- ---- What comes next

-- after a step of a poll that acquires a permit
abbrev pub after_permit : Found → Next
after_permit (found.Permit step.More) = next.Do TakePermit
after_permit (found.Permit (step.End ended.Got)) = next.Do (EnterLock aim.Take)
after_permit (found.Permit (step.End (ended.Refused r))) = next.End (ended.Refused r) stands.Acquiring
after_permit _ = next.End ended.Pending stands.Acquiring

-- why a take gives its permit back that the list's lock refused
abbrev pub without_permit : Refusal → Return
without_permit refusal.Starved = why.Starved
without_permit _ = why.NoMemory

abbrev pub with_lock : Aim → Next
with_lock aim.Take = next.Do (Pop taker.Poll)
with_lock aim.Give = next.Do Push

abbrev pub lock_refused : Aim → Refusal → Next
lock_refused aim.Take r = next.Do (ReturnPermit (without_permit r))
lock_refused aim.Give r = next.End (ended.Refused r) (stands.Made aim.Give)

-- after a step of a poll that acquires the list's lock
abbrev pub after_lock : Aim → Found → Next
after_lock a (found.Lock step.More) = next.Do (TakeLock a)
after_lock a (found.Lock (step.End ended.Got)) = with_lock a
after_lock a (found.Lock (step.End (ended.Refused r))) = lock_refused a r
after_lock a _ = next.End ended.Pending (stands.Locking a)

abbrev pub after_try_permit : Found → Next
after_try_permit (found.Permit (step.End ended.Granted)) = next.Do TryLock
after_try_permit _ = next.End ended.NotFree stands.Out

abbrev pub after_try_lock : Found → Next
after_try_lock (found.Lock (step.End ended.Got)) = next.Do (Pop taker.Try)
after_try_lock _ = next.Do (ReturnPermit why.InVain)

abbrev pub released : Ending → Next
released (ending.Leased taker.Poll) = next.End ended.Got stands.Leased
released (ending.Leased taker.Try) = next.End ended.Granted stands.Leased
released ending.Given = next.Do (ReturnPermit why.Given)

abbrev pub after_release : Ending → Found → Next
after_release e (found.Lock step.More) = next.Do (ReleasingLock e)
after_release e _ = released e

abbrev pub returned : Return → Next
returned why.Given = next.End ended.GivenBack stands.Out
returned why.Dropped = next.End ended.GivenBack stands.Out
returned why.InVain = next.End ended.NotFree stands.Out
returned why.NoMemory = next.End (ended.Refused refusal.Memory) (stands.Made aim.Take)
returned why.Starved = next.End (ended.Refused refusal.Starved) (stands.Made aim.Take)

abbrev pub after_return : Return → Found → Next
after_return r (found.Permit step.More) = next.Do (ReturningPermit r)
after_return r _ = returned r

abbrev pub after_cancel_permit : Found → Next
after_cancel_permit (found.Permit step.More) = next.Do CancellingPermit
after_cancel_permit _ = next.End ended.GivenBack stands.Out

-- a dropped take gives its permit back, and a dropped give loses its item
abbrev pub cancelled : Aim → Next
cancelled aim.Take = next.Do (ReturnPermit why.Dropped)
cancelled aim.Give = next.Do Lose

abbrev pub after_cancel : Aim → Found → Next
after_cancel a (found.Lock step.More) = next.Do (CancellingLock a)
after_cancel a _ = cancelled a

abbrev pub next_of : Place → Found → Next
next_of Acquire f = after_permit f
next_of WaitPermit f = after_permit f
next_of TakePermit f = after_permit f
next_of TryPermit f = after_try_permit f
next_of TryLock f = after_try_lock f
next_of (EnterLock a) f = after_lock a f
next_of (WaitLock a) f = after_lock a f
next_of (TakeLock a) f = after_lock a f
next_of (Pop t) f = next.Do (ReleaseLock (ending.Leased t))
next_of Push f = next.Do (ReleaseLock ending.Given)
next_of (ReleaseLock e) f = after_release e f
next_of (ReleasingLock e) f = after_release e f
next_of (ReturnPermit r) f = after_return r f
next_of (ReturningPermit r) f = after_return r f
next_of CancelPermit f = after_cancel_permit f
next_of CancellingPermit f = after_cancel_permit f
next_of (CancelLock a) f = after_cancel a f
next_of (CancellingLock a) f = after_cancel a f
next_of Lose f = next.End ended.GivenBack stands.Out
next_of Abandon f = next.End ended.GivenBack stands.Out

-- ---- Moves

-- what a World's call asks of the programs; nothing, if it is none of theirs
abbrev pub asked_of : Call → Option PoolCall
asked_of call.Take = Some asks.Take
asked_of call.TryTake = Some asks.TryTake
asked_of call.Give = Some asks.Give
asked_of call.Poll = Some asks.Poll
asked_of call.Drop = Some asks.Drop
asked_of _ = None

abbrev pub started : Option PoolCall → Position → Option Place
started (Some c) x = start_of c x
started None x = None

-- the place whose action a move carries out
abbrev pub place_for : What → Position → Option Place
place_for (Begin c inputs) x = started (asked_of c) x
place_for (Go inputs) (stands.At place) = Some place
place_for (Go inputs) _ = None

-- where a party stands after this
abbrev pub position_after : Next → Position
position_after (next.Do place) = stands.At place
position_after (next.End e x) = x

-- what a call got whose party has this item, or none
abbrev pub got_with : Option ℕ → Got
got_with (Some i) = got.Value i
got_with None = got.Plain
