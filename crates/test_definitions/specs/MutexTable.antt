-- The places of a mutex's programs, row by row.
use Rattle.std.specs.Prelude.{true, false, List, [], ◌∷◌, Option, Some, None}
use Rattle.lock_program.specs.declared.refusal.Refusal.TheVariants as refusal
use Rattle.lock_program.specs.declared.mutex.Action.TheVariants as act
use Rattle.lock_program.specs.declared.mutex.Action.{Action}
use Rattle.lock_program.specs.declared.end.End.TheVariants as ended
use Rattle.lock_program.specs.declared.mutex.Found.TheVariants as found
use Rattle.lock_program.specs.declared.mutex.Found.{Found}
use Rattle.lock_program.specs.declared.mutex.LockCall.TheVariants as call
use Rattle.lock_program.specs.declared.mutex.LockCall.{LockCall}
use Rattle.lock_program.specs.declared.end.Next.TheVariants as next
use Rattle.lock_program.specs.declared.end.Next.{Next}
use Rattle.lock_program.specs.declared.mutex.Place.TheVariants as place
use Rattle.lock_program.specs.declared.mutex.Place.{Place}

-- Where a call begins for a party that stands there; None where it can't.
abbrev pub beginnings : List (LockCall × Place × Option Place)
beginnings =
    (call.Lock, place.Out, Some place.Enter) ∷
    (call.Try, place.Out, Some place.Try) ∷
    (call.Poll, place.Out, Some place.Enter) ∷
    (call.Poll, place.Ask, Some place.Ask) ∷
    (call.Poll, place.AskStarved, Some place.AskStarved) ∷
    (call.Poll, place.Holding, None) ∷
    (call.Release, place.Holding, Some place.Clear) ∷
    (call.Release, place.Out, None) ∷
    (call.Cancel, place.Out, Some place.Out) ∷
    (call.Cancel, place.Ask, Some place.CancelLeave) ∷
    (call.Cancel, place.AskStarved, Some place.CancelUncount) ∷
    (call.Cancel, place.Holding, None) ∷
    []

-- What is done at a place.
abbrev pub actions : List (Place × Action)
actions =
    (place.Out, act.Nothing) ∷
    (place.Holding, act.Nothing) ∷
    (place.Enter, act.Take) ∷
    (place.Join false, act.Join) ∷
    (place.Join true, act.Join) ∷
    (place.Look false, act.Take) ∷
    (place.Look true, act.Take) ∷
    (place.Ask, act.Ask) ∷
    (place.Retry, act.Take) ∷
    (place.PassOn, act.Notify) ∷
    (place.Count true false, act.Count) ∷
    (place.Count true true, act.Count) ∷
    (place.Count false false, act.Count) ∷
    (place.Count false true, act.Count) ∷
    (place.JoinStarved, act.Join) ∷
    (place.LookAlone, act.TakeAlone) ∷
    (place.PassOnListed, act.Notify) ∷
    (place.AskStarved, act.Ask) ∷
    (place.Seize, act.Set) ∷
    (place.Uncount true, act.Uncount) ∷
    (place.Uncount false, act.Uncount) ∷
    (place.Leave, act.Leave) ∷
    (place.RefuseUncount, act.Uncount) ∷
    (place.RefuseLeave false, act.Leave) ∷
    (place.RefuseLeave true, act.Leave) ∷
    (place.RefuseNotifyMemory, act.Notify) ∷
    (place.RefuseNotifyStarved, act.Notify) ∷
    (place.Try, act.Take) ∷
    (place.Clear, act.Clear) ∷
    (place.ReleaseNotify, act.Notify) ∷
    (place.CancelUncount, act.Uncount) ∷
    (place.CancelLeave, act.Leave) ∷
    []

-- What comes after a place whose action found this.
abbrev pub followings : List (Place × Found × Next Place Place)
followings =
    (place.Out, found.Done, next.End ended.GivenBack place.Out) ∷
    (place.Holding, found.Done, next.End ended.Got place.Holding) ∷
    (place.Enter, found.Free, next.End ended.Got place.Holding) ∷
    (place.Enter, found.Held false, next.Do (place.Join false)) ∷
    (place.Enter, found.Held true, next.Do (place.Join false)) ∷
    (place.Enter, found.SomeStarved, next.Do (place.Join false)) ∷
    (place.Try, found.Free, next.End ended.Got place.Holding) ∷
    (place.Try, found.Held false, next.End ended.NotFree place.Out) ∷
    (place.Try, found.Held true, next.End ended.NotFree place.Out) ∷
    (place.Try, found.SomeStarved, next.End ended.NotFree place.Out) ∷
    (place.Clear, found.Done, next.Do place.ReleaseNotify) ∷
    (place.CancelUncount, found.Done, next.Do place.CancelLeave) ∷
    (place.CancelLeave, found.Done, next.End ended.GivenBack place.Out) ∷
    (place.Join false, found.Done, next.Do (place.Look false)) ∷
    (place.Join true, found.Done, next.Do (place.Look true)) ∷
    (place.Join false, found.NoMemory, next.End (ended.Refused refusal.Memory) place.Out) ∷
    (place.Join true, found.NoMemory, next.Do place.RefuseNotifyMemory) ∷
    (place.Look false, found.Free, next.Do place.Leave) ∷
    (place.Look true, found.Free, next.Do place.Leave) ∷
    (place.Look false, found.Held false, next.Do place.Ask) ∷
    (place.Look false, found.Held true, next.Do place.Ask) ∷
    (place.Look false, found.SomeStarved, next.Do (place.Count true false)) ∷
    (place.Look true, found.Held false, next.Do place.Ask) ∷
    (place.Look true, found.Held true, next.Do place.Ask) ∷
    (place.Look true, found.SomeStarved, next.Do (place.Count true true)) ∷
    (place.Ask, found.No, next.End ended.Pending place.Ask) ∷
    (place.Ask, found.Yes, next.Do place.Retry) ∷
    (place.Retry, found.Free, next.End ended.Got place.Holding) ∷
    (place.Retry, found.Held false, next.Do (place.Join true)) ∷
    (place.Retry, found.Held true, next.Do (place.Count false true)) ∷
    (place.Retry, found.SomeStarved, next.Do place.PassOn) ∷
    (place.PassOn, found.Done, next.Do (place.Count false true)) ∷
    (place.Count true false, found.AtLimit, next.Do (place.RefuseLeave false)) ∷
    (place.Count true true, found.AtLimit, next.Do (place.RefuseLeave true)) ∷
    (place.Count false true, found.AtLimit, next.Do place.RefuseNotifyStarved) ∷
    (place.Count false false, found.AtLimit, next.End (ended.Refused refusal.Starved) place.Out) ∷
    (place.Count true false, found.Done, next.Do place.AskStarved) ∷
    (place.Count true true, found.Done, next.Do place.AskStarved) ∷
    (place.Count false false, found.Done, next.Do place.JoinStarved) ∷
    (place.Count false true, found.Done, next.Do place.JoinStarved) ∷
    (place.JoinStarved, found.NoMemory, next.Do place.RefuseUncount) ∷
    (place.JoinStarved, found.Done, next.Do place.LookAlone) ∷
    (place.LookAlone, found.Free, next.Do (place.Uncount true)) ∷
    (place.LookAlone, found.Held false, next.Do place.AskStarved) ∷
    (place.LookAlone, found.Held true, next.Do place.AskStarved) ∷
    (place.LookAlone, found.SomeStarved, next.Do place.PassOnListed) ∷
    (place.PassOnListed, found.Done, next.Do place.AskStarved) ∷
    (place.AskStarved, found.No, next.End ended.Pending place.AskStarved) ∷
    (place.AskStarved, found.Yes, next.Do place.Seize) ∷
    (place.Seize, found.Free, next.Do (place.Uncount false)) ∷
    (place.Seize, found.Held false, next.Do place.JoinStarved) ∷
    (place.Seize, found.Held true, next.Do place.JoinStarved) ∷
    (place.Uncount true, found.Done, next.Do place.Leave) ∷
    (place.Uncount false, found.Done, next.End ended.Got place.Holding) ∷
    (place.Leave, found.Done, next.End ended.Got place.Holding) ∷
    (place.RefuseUncount, found.Done, next.Do place.RefuseNotifyMemory) ∷
    (place.RefuseLeave false, found.Done, next.End (ended.Refused refusal.Starved) place.Out) ∷
    (place.RefuseLeave true, found.Done, next.Do place.RefuseNotifyStarved) ∷
    (place.RefuseNotifyMemory, found.Done, next.End (ended.Refused refusal.Memory) place.Out) ∷
    (place.RefuseNotifyStarved, found.Done, next.End (ended.Refused refusal.Starved) place.Out) ∷
    (place.ReleaseNotify, found.Done, next.End ended.GivenBack place.Out) ∷
    []
