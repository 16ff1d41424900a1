-- The places of a pool's programs, row by row.
use Rattle.std.specs.Prelude.{List, [], ◌∷◌, Option, Some, None}
use Rattle.lock_program.specs.declared.end.End.TheVariants as ended
use Rattle.lock_program.specs.declared.end.Next.{Next}
use Rattle.lock_program.specs.declared.end.Next.TheVariants as next
use Rattle.lock_program.specs.declared.mutex.LockCall.TheVariants as lock_call
use Rattle.lock_program.specs.declared.mutex.Step.TheVariants as step
use Rattle.lock_program.specs.declared.refusal.Refusal.TheVariants as refusal
use Rattle.sync_program.specs.declared.permits.SemaphoreCall.TheVariants as permit_call
use Rattle.world_pool.specs.declared.program.places.Action.{Action}
use Rattle.world_pool.specs.declared.program.places.Action.TheVariants as act
use Rattle.world_pool.specs.declared.program.places.Aim.TheVariants as aim
use Rattle.world_pool.specs.declared.program.places.Ending.TheVariants as ending
use Rattle.world_pool.specs.declared.program.places.Found.{Found}
use Rattle.world_pool.specs.declared.program.places.Found.TheVariants as found
use Rattle.world_pool.specs.declared.program.places.Place.{Place}
use Rattle.world_pool.specs.declared.program.places.Place.TheVariants as place
use Rattle.world_pool.specs.declared.program.places.PoolCall.{PoolCall}
use Rattle.world_pool.specs.declared.program.places.PoolCall.TheVariants as call
use Rattle.world_pool.specs.declared.program.places.Position.{Position}
use Rattle.world_pool.specs.declared.program.places.Position.TheVariants as position
use Rattle.world_pool.specs.declared.program.places.Return.TheVariants as why
use Rattle.world_pool.specs.declared.program.places.Taker.TheVariants as taker

-- Where a call begins for a party that stands there; None where it can't.
abbrev pub beginnings : List (PoolCall × Position × Option Place)
beginnings =
    (call.Take, position.Out, Some place.Acquire) ∷
    (call.TryTake, position.Out, Some place.TryPermit) ∷
    (call.Give, position.Leased, Some (place.EnterLock aim.Give)) ∷
    (call.Poll, position.Made aim.Take, Some place.Acquire) ∷
    (call.Poll, position.Made aim.Give, Some (place.EnterLock aim.Give)) ∷
    (call.Poll, position.Acquiring, Some place.WaitPermit) ∷
    (call.Poll, position.Locking aim.Take, Some (place.WaitLock aim.Take)) ∷
    (call.Poll, position.Locking aim.Give, Some (place.WaitLock aim.Give)) ∷
    (call.Drop, position.Made aim.Take, Some place.Abandon) ∷
    (call.Drop, position.Made aim.Give, Some place.Lose) ∷
    (call.Drop, position.Acquiring, Some place.CancelPermit) ∷
    (call.Drop, position.Locking aim.Take, Some (place.CancelLock aim.Take)) ∷
    (call.Drop, position.Locking aim.Give, Some (place.CancelLock aim.Give)) ∷
    (call.Drop, position.Leased, Some place.Lose) ∷
    (call.Take, position.Made aim.Take, None) ∷
    (call.Take, position.Made aim.Give, None) ∷
    (call.Take, position.Acquiring, None) ∷
    (call.Take, position.Locking aim.Take, None) ∷
    (call.Take, position.Locking aim.Give, None) ∷
    (call.Take, position.Leased, None) ∷
    (call.Take, position.At place.Push, None) ∷
    (call.TryTake, position.Made aim.Take, None) ∷
    (call.TryTake, position.Made aim.Give, None) ∷
    (call.TryTake, position.Acquiring, None) ∷
    (call.TryTake, position.Locking aim.Take, None) ∷
    (call.TryTake, position.Locking aim.Give, None) ∷
    (call.TryTake, position.Leased, None) ∷
    (call.TryTake, position.At place.Push, None) ∷
    (call.Give, position.Out, None) ∷
    (call.Give, position.Made aim.Take, None) ∷
    (call.Give, position.Made aim.Give, None) ∷
    (call.Give, position.Acquiring, None) ∷
    (call.Give, position.Locking aim.Take, None) ∷
    (call.Give, position.Locking aim.Give, None) ∷
    (call.Give, position.At place.Push, None) ∷
    (call.Poll, position.Out, None) ∷
    (call.Poll, position.Leased, None) ∷
    (call.Poll, position.At place.Push, None) ∷
    (call.Drop, position.Out, None) ∷
    (call.Drop, position.At place.Push, None) ∷
    []

-- What is done at a place.
abbrev pub actions : List (Place × Action)
actions =
    (place.Acquire, act.Permit (permit_call.Acquire 1)) ∷
    (place.WaitPermit, act.Permit permit_call.Poll) ∷
    (place.TakePermit, act.GoPermit) ∷
    (place.TryPermit, act.Permit (permit_call.TryAcquire 1)) ∷
    (place.TryLock, act.Lock lock_call.Try) ∷
    (place.EnterLock aim.Take, act.Lock lock_call.Lock) ∷
    (place.EnterLock aim.Give, act.Lock lock_call.Lock) ∷
    (place.WaitLock aim.Take, act.Lock lock_call.Poll) ∷
    (place.WaitLock aim.Give, act.Lock lock_call.Poll) ∷
    (place.TakeLock aim.Take, act.GoLock) ∷
    (place.TakeLock aim.Give, act.GoLock) ∷
    (place.Pop taker.Poll, act.Pop) ∷
    (place.Pop taker.Try, act.Pop) ∷
    (place.Push, act.Push) ∷
    (place.ReleaseLock (ending.Leased taker.Poll), act.Lock lock_call.Release) ∷
    (place.ReleaseLock (ending.Leased taker.Try), act.Lock lock_call.Release) ∷
    (place.ReleaseLock ending.Given, act.Lock lock_call.Release) ∷
    (place.ReleasingLock (ending.Leased taker.Poll), act.GoLock) ∷
    (place.ReleasingLock (ending.Leased taker.Try), act.GoLock) ∷
    (place.ReleasingLock ending.Given, act.GoLock) ∷
    (place.ReturnPermit why.Given, act.Permit permit_call.Drop) ∷
    (place.ReturnPermit why.Dropped, act.Permit permit_call.Drop) ∷
    (place.ReturnPermit why.InVain, act.Permit permit_call.Drop) ∷
    (place.ReturnPermit why.NoMemory, act.Permit permit_call.Drop) ∷
    (place.ReturnPermit why.Starved, act.Permit permit_call.Drop) ∷
    (place.ReturningPermit why.Given, act.GoPermit) ∷
    (place.ReturningPermit why.Dropped, act.GoPermit) ∷
    (place.ReturningPermit why.InVain, act.GoPermit) ∷
    (place.ReturningPermit why.NoMemory, act.GoPermit) ∷
    (place.ReturningPermit why.Starved, act.GoPermit) ∷
    (place.CancelPermit, act.Permit permit_call.Drop) ∷
    (place.CancellingPermit, act.GoPermit) ∷
    (place.CancelLock aim.Take, act.Lock lock_call.Cancel) ∷
    (place.CancelLock aim.Give, act.Lock lock_call.Cancel) ∷
    (place.CancellingLock aim.Take, act.GoLock) ∷
    (place.CancellingLock aim.Give, act.GoLock) ∷
    (place.Lose, act.Lose) ∷
    (place.Abandon, act.Nothing) ∷
    []

-- What comes after a place whose action found this: each place, with each finding that its action can make.
abbrev pub followings : List (Place × Found × Next Place Position)
followings =
    (place.Acquire, found.Permit step.More, next.Do place.TakePermit) ∷
    (place.Acquire, found.Permit (step.End ended.Pending), next.End ended.Pending position.Acquiring) ∷
    (place.Acquire, found.Permit (step.End ended.Got), next.Do (place.EnterLock aim.Take)) ∷
    (place.Acquire, found.Permit (step.End (ended.Refused refusal.Memory)), next.End (ended.Refused refusal.Memory) position.Acquiring) ∷
    (place.WaitPermit, found.Permit step.More, next.Do place.TakePermit) ∷
    (place.WaitPermit, found.Permit (step.End ended.Pending), next.End ended.Pending position.Acquiring) ∷
    (place.WaitPermit, found.Permit (step.End ended.Got), next.Do (place.EnterLock aim.Take)) ∷
    (place.WaitPermit, found.Permit (step.End (ended.Refused refusal.Memory)), next.End (ended.Refused refusal.Memory) position.Acquiring) ∷
    (place.TakePermit, found.Permit step.More, next.Do place.TakePermit) ∷
    (place.TakePermit, found.Permit (step.End ended.Pending), next.End ended.Pending position.Acquiring) ∷
    (place.TakePermit, found.Permit (step.End ended.Got), next.Do (place.EnterLock aim.Take)) ∷
    (place.TakePermit, found.Permit (step.End (ended.Refused refusal.Memory)), next.End (ended.Refused refusal.Memory) position.Acquiring) ∷
    (place.TryPermit, found.Permit (step.End ended.Granted), next.Do place.TryLock) ∷
    (place.TryPermit, found.Permit (step.End ended.NotFree), next.End ended.NotFree position.Out) ∷
    (place.TryLock, found.Lock (step.End ended.Got), next.Do (place.Pop taker.Try)) ∷
    (place.TryLock, found.Lock (step.End ended.NotFree), next.Do (place.ReturnPermit why.InVain)) ∷
    (place.EnterLock aim.Take, found.Lock step.More, next.Do (place.TakeLock aim.Take)) ∷
    (place.EnterLock aim.Take, found.Lock (step.End ended.Pending), next.End ended.Pending (position.Locking aim.Take)) ∷
    (place.EnterLock aim.Take, found.Lock (step.End ended.Got), next.Do (place.Pop taker.Poll)) ∷
    (place.EnterLock aim.Take, found.Lock (step.End (ended.Refused refusal.Memory)), next.Do (place.ReturnPermit why.NoMemory)) ∷
    (place.EnterLock aim.Take, found.Lock (step.End (ended.Refused refusal.Starved)), next.Do (place.ReturnPermit why.Starved)) ∷
    (place.EnterLock aim.Give, found.Lock step.More, next.Do (place.TakeLock aim.Give)) ∷
    (place.EnterLock aim.Give, found.Lock (step.End ended.Pending), next.End ended.Pending (position.Locking aim.Give)) ∷
    (place.EnterLock aim.Give, found.Lock (step.End ended.Got), next.Do place.Push) ∷
    (place.EnterLock aim.Give, found.Lock (step.End (ended.Refused refusal.Memory)), next.End (ended.Refused refusal.Memory) (position.Made aim.Give)) ∷
    (place.EnterLock aim.Give, found.Lock (step.End (ended.Refused refusal.Starved)), next.End (ended.Refused refusal.Starved) (position.Made aim.Give)) ∷
    (place.WaitLock aim.Take, found.Lock step.More, next.Do (place.TakeLock aim.Take)) ∷
    (place.WaitLock aim.Take, found.Lock (step.End ended.Pending), next.End ended.Pending (position.Locking aim.Take)) ∷
    (place.WaitLock aim.Take, found.Lock (step.End ended.Got), next.Do (place.Pop taker.Poll)) ∷
    (place.WaitLock aim.Take, found.Lock (step.End (ended.Refused refusal.Memory)), next.Do (place.ReturnPermit why.NoMemory)) ∷
    (place.WaitLock aim.Take, found.Lock (step.End (ended.Refused refusal.Starved)), next.Do (place.ReturnPermit why.Starved)) ∷
    (place.WaitLock aim.Give, found.Lock step.More, next.Do (place.TakeLock aim.Give)) ∷
    (place.WaitLock aim.Give, found.Lock (step.End ended.Pending), next.End ended.Pending (position.Locking aim.Give)) ∷
    (place.WaitLock aim.Give, found.Lock (step.End ended.Got), next.Do place.Push) ∷
    (place.WaitLock aim.Give, found.Lock (step.End (ended.Refused refusal.Memory)), next.End (ended.Refused refusal.Memory) (position.Made aim.Give)) ∷
    (place.WaitLock aim.Give, found.Lock (step.End (ended.Refused refusal.Starved)), next.End (ended.Refused refusal.Starved) (position.Made aim.Give)) ∷
    (place.TakeLock aim.Take, found.Lock step.More, next.Do (place.TakeLock aim.Take)) ∷
    (place.TakeLock aim.Take, found.Lock (step.End ended.Pending), next.End ended.Pending (position.Locking aim.Take)) ∷
    (place.TakeLock aim.Take, found.Lock (step.End ended.Got), next.Do (place.Pop taker.Poll)) ∷
    (place.TakeLock aim.Take, found.Lock (step.End (ended.Refused refusal.Memory)), next.Do (place.ReturnPermit why.NoMemory)) ∷
    (place.TakeLock aim.Take, found.Lock (step.End (ended.Refused refusal.Starved)), next.Do (place.ReturnPermit why.Starved)) ∷
    (place.TakeLock aim.Give, found.Lock step.More, next.Do (place.TakeLock aim.Give)) ∷
    (place.TakeLock aim.Give, found.Lock (step.End ended.Pending), next.End ended.Pending (position.Locking aim.Give)) ∷
    (place.TakeLock aim.Give, found.Lock (step.End ended.Got), next.Do place.Push) ∷
    (place.TakeLock aim.Give, found.Lock (step.End (ended.Refused refusal.Memory)), next.End (ended.Refused refusal.Memory) (position.Made aim.Give)) ∷
    (place.TakeLock aim.Give, found.Lock (step.End (ended.Refused refusal.Starved)), next.End (ended.Refused refusal.Starved) (position.Made aim.Give)) ∷
    (place.Pop taker.Poll, found.Done, next.Do (place.ReleaseLock (ending.Leased taker.Poll))) ∷
    (place.Pop taker.Try, found.Done, next.Do (place.ReleaseLock (ending.Leased taker.Try))) ∷
    (place.Push, found.Done, next.Do (place.ReleaseLock ending.Given)) ∷
    (place.ReleaseLock (ending.Leased taker.Poll), found.Lock step.More, next.Do (place.ReleasingLock (ending.Leased taker.Poll))) ∷
    (place.ReleaseLock (ending.Leased taker.Poll), found.Lock (step.End ended.GivenBack), next.End ended.Got position.Leased) ∷
    (place.ReleaseLock (ending.Leased taker.Try), found.Lock step.More, next.Do (place.ReleasingLock (ending.Leased taker.Try))) ∷
    (place.ReleaseLock (ending.Leased taker.Try), found.Lock (step.End ended.GivenBack), next.End ended.Granted position.Leased) ∷
    (place.ReleaseLock ending.Given, found.Lock step.More, next.Do (place.ReleasingLock ending.Given)) ∷
    (place.ReleaseLock ending.Given, found.Lock (step.End ended.GivenBack), next.Do (place.ReturnPermit why.Given)) ∷
    (place.ReleasingLock (ending.Leased taker.Poll), found.Lock step.More, next.Do (place.ReleasingLock (ending.Leased taker.Poll))) ∷
    (place.ReleasingLock (ending.Leased taker.Poll), found.Lock (step.End ended.GivenBack), next.End ended.Got position.Leased) ∷
    (place.ReleasingLock (ending.Leased taker.Try), found.Lock step.More, next.Do (place.ReleasingLock (ending.Leased taker.Try))) ∷
    (place.ReleasingLock (ending.Leased taker.Try), found.Lock (step.End ended.GivenBack), next.End ended.Granted position.Leased) ∷
    (place.ReleasingLock ending.Given, found.Lock step.More, next.Do (place.ReleasingLock ending.Given)) ∷
    (place.ReleasingLock ending.Given, found.Lock (step.End ended.GivenBack), next.Do (place.ReturnPermit why.Given)) ∷
    (place.ReturnPermit why.Given, found.Permit step.More, next.Do (place.ReturningPermit why.Given)) ∷
    (place.ReturnPermit why.Given, found.Permit (step.End ended.GivenBack), next.End ended.GivenBack position.Out) ∷
    (place.ReturnPermit why.Dropped, found.Permit step.More, next.Do (place.ReturningPermit why.Dropped)) ∷
    (place.ReturnPermit why.Dropped, found.Permit (step.End ended.GivenBack), next.End ended.GivenBack position.Out) ∷
    (place.ReturnPermit why.InVain, found.Permit step.More, next.Do (place.ReturningPermit why.InVain)) ∷
    (place.ReturnPermit why.InVain, found.Permit (step.End ended.GivenBack), next.End ended.NotFree position.Out) ∷
    (place.ReturnPermit why.NoMemory, found.Permit step.More, next.Do (place.ReturningPermit why.NoMemory)) ∷
    (place.ReturnPermit why.NoMemory, found.Permit (step.End ended.GivenBack), next.End (ended.Refused refusal.Memory) (position.Made aim.Take)) ∷
    (place.ReturnPermit why.Starved, found.Permit step.More, next.Do (place.ReturningPermit why.Starved)) ∷
    (place.ReturnPermit why.Starved, found.Permit (step.End ended.GivenBack), next.End (ended.Refused refusal.Starved) (position.Made aim.Take)) ∷
    (place.ReturningPermit why.Given, found.Permit step.More, next.Do (place.ReturningPermit why.Given)) ∷
    (place.ReturningPermit why.Given, found.Permit (step.End ended.GivenBack), next.End ended.GivenBack position.Out) ∷
    (place.ReturningPermit why.Dropped, found.Permit step.More, next.Do (place.ReturningPermit why.Dropped)) ∷
    (place.ReturningPermit why.Dropped, found.Permit (step.End ended.GivenBack), next.End ended.GivenBack position.Out) ∷
    (place.ReturningPermit why.InVain, found.Permit step.More, next.Do (place.ReturningPermit why.InVain)) ∷
    (place.ReturningPermit why.InVain, found.Permit (step.End ended.GivenBack), next.End ended.NotFree position.Out) ∷
    (place.ReturningPermit why.NoMemory, found.Permit step.More, next.Do (place.ReturningPermit why.NoMemory)) ∷
    (place.ReturningPermit why.NoMemory, found.Permit (step.End ended.GivenBack), next.End (ended.Refused refusal.Memory) (position.Made aim.Take)) ∷
    (place.ReturningPermit why.Starved, found.Permit step.More, next.Do (place.ReturningPermit why.Starved)) ∷
    (place.ReturningPermit why.Starved, found.Permit (step.End ended.GivenBack), next.End (ended.Refused refusal.Starved) (position.Made aim.Take)) ∷
    (place.CancelPermit, found.Permit step.More, next.Do place.CancellingPermit) ∷
    (place.CancelPermit, found.Permit (step.End ended.GivenBack), next.End ended.GivenBack position.Out) ∷
    (place.CancellingPermit, found.Permit step.More, next.Do place.CancellingPermit) ∷
    (place.CancellingPermit, found.Permit (step.End ended.GivenBack), next.End ended.GivenBack position.Out) ∷
    (place.CancelLock aim.Take, found.Lock step.More, next.Do (place.CancellingLock aim.Take)) ∷
    (place.CancelLock aim.Take, found.Lock (step.End ended.GivenBack), next.Do (place.ReturnPermit why.Dropped)) ∷
    (place.CancelLock aim.Give, found.Lock step.More, next.Do (place.CancellingLock aim.Give)) ∷
    (place.CancelLock aim.Give, found.Lock (step.End ended.GivenBack), next.Do place.Lose) ∷
    (place.CancellingLock aim.Take, found.Lock step.More, next.Do (place.CancellingLock aim.Take)) ∷
    (place.CancellingLock aim.Take, found.Lock (step.End ended.GivenBack), next.Do (place.ReturnPermit why.Dropped)) ∷
    (place.CancellingLock aim.Give, found.Lock step.More, next.Do (place.CancellingLock aim.Give)) ∷
    (place.CancellingLock aim.Give, found.Lock (step.End ended.GivenBack), next.Do place.Lose) ∷
    (place.Lose, found.Done, next.End ended.GivenBack position.Out) ∷
    (place.Abandon, found.Done, next.End ended.GivenBack position.Out) ∷
    []
