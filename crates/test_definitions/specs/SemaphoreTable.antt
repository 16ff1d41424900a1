-- The places of a semaphore's programs, row by row.
use Rattle.std.specs.Prelude.{true, false, List, [], ◌∷◌, Option, Some, None}
use Rattle.lock_program.specs.declared.end.End.TheVariants as ended
use Rattle.world_base.specs.declared.moves.Call.TheVariants as call
use Rattle.world_base.specs.declared.moves.Call.{Call}
use Rattle.lock_program.specs.declared.refusal.Refusal.TheVariants as refusal
use Rattle.sync_program.specs.declared.permits.Action.TheVariants as act
use Rattle.sync_program.specs.declared.permits.Action.{Action}
use Rattle.sync_program.specs.declared.permits.Found.TheVariants as found
use Rattle.sync_program.specs.declared.permits.Found.{Found}
use Rattle.lock_program.specs.declared.end.Next.TheVariants as next
use Rattle.lock_program.specs.declared.end.Next.{Next}
use Rattle.sync_program.specs.declared.permits.Place.TheVariants as place
use Rattle.sync_program.specs.declared.permits.Place.{Place}
use Rattle.sync_program.specs.declared.permits.Position.TheVariants as position
use Rattle.sync_program.specs.declared.permits.Position.{Position}

-- Where a call begins for a party that stands there; None where it can't.
abbrev pub beginnings : List (Call × Position × Option Place)
beginnings =
    (call.Acquire 5, position.Out, Some (place.Take 5 false false)) ∷
    (call.Acquire 0, position.Out, Some (place.Take 0 false false)) ∷
    (call.Poll, position.Unlisted 5, Some (place.Take 5 false false)) ∷
    (call.Poll, position.Waiting 5, Some (place.Retake 5)) ∷
    (call.TryAcquire 5, position.Out, Some (place.Try 5)) ∷
    (call.AddPermits 7, position.Out, Some (place.Raise 7)) ∷
    (call.Drop, position.Unlisted 5, Some place.Abandon) ∷
    (call.Drop, position.Waiting 5, Some place.CancelRemove) ∷
    (call.Drop, position.Holding 5, Some (place.GiveBack 5)) ∷
    (call.Forget, position.Holding 5, Some (place.Lower 5)) ∷
    (call.Acquire 5, position.Unlisted 3, None) ∷
    (call.Acquire 5, position.Waiting 3, None) ∷
    (call.Acquire 5, position.Holding 3, None) ∷
    (call.Poll, position.Out, None) ∷
    (call.Poll, position.Holding 5, None) ∷
    (call.Poll, position.At (place.Ask 5 None), None) ∷
    (call.TryAcquire 5, position.Waiting 5, None) ∷
    (call.TryAcquire 5, position.Holding 5, None) ∷
    (call.AddPermits 7, position.Waiting 5, None) ∷
    (call.AddPermits 7, position.Holding 5, None) ∷
    (call.Drop, position.Out, None) ∷
    (call.Drop, position.At (place.Ask 5 None), None) ∷
    (call.Forget, position.Out, None) ∷
    (call.Forget, position.Waiting 5, None) ∷
    (call.Lock, position.Out, None) ∷
    []

-- What is done at a place.
abbrev pub actions : List (Place × Action)
actions =
    (place.Take 5 false false, act.Take 5) ∷
    (place.Take 5 false true, act.Take 5) ∷
    (place.Take 5 true false, act.Take 5) ∷
    (place.Take 5 true true, act.Take 5) ∷
    (place.Retake 5, act.Take 5) ∷
    (place.Join 5 None, act.Join 5) ∷
    (place.Join 5 (Some 2), act.Join 5) ∷
    (place.Ask 5 None, act.Ask) ∷
    (place.Ask 5 (Some 2), act.Ask) ∷
    (place.Remove 5 None, act.Remove) ∷
    (place.Remove 5 (Some 2), act.Remove) ∷
    (place.Load 5, act.Load) ∷
    (place.HandOn 5 2, act.Fit 2) ∷
    (place.PassOn 5 2, act.Fit 2) ∷
    (place.RefuseFit 5 2, act.Fit 2) ∷
    (place.Try 5, act.Take 5) ∷
    (place.Lower 5, act.Lower 5) ∷
    (place.GiveBack 5, act.GiveBack 5) ∷
    (place.Raise 3, act.Raise 3) ∷
    (place.GiveAdded 3, act.Give 3) ∷
    (place.FitAdded 2, act.Fit 2) ∷
    (place.CancelRemove, act.Remove) ∷
    (place.CancelLoad, act.Load) ∷
    (place.FitGivenBack 2, act.Fit 2) ∷
    (place.Abandon, act.Nothing) ∷
    []

-- What comes after a place whose action found this.
abbrev pub followings : List (Place × Found × Next Place Position)
followings =
    (place.Take 5 false false, found.Left 2, next.End ended.Got (position.Holding 5)) ∷
    (place.Take 5 false false, found.Left 0, next.End ended.Got (position.Holding 5)) ∷
    (place.Take 5 true false, found.Left 2, next.Do (place.Remove 5 None)) ∷
    (place.Take 5 true false, found.Left 0, next.Do (place.Remove 5 None)) ∷
    (place.Take 5 false false, found.Short 2, next.Do (place.Join 5 None)) ∷
    (place.Take 5 false true, found.Short 2, next.Do (place.Join 5 (Some 2))) ∷
    (place.Take 5 false true, found.Short 0, next.Do (place.Join 5 (Some 0))) ∷
    (place.Take 5 true false, found.Short 2, next.Do (place.Ask 5 None)) ∷
    (place.Take 5 true true, found.Short 2, next.Do (place.Ask 5 (Some 2))) ∷
    (place.Take 5 false true, found.Left 2, next.Do (place.HandOn 5 2)) ∷
    (place.Take 5 false true, found.Left 0, next.End ended.Got (position.Holding 5)) ∷
    (place.Take 5 true true, found.Left 2, next.Do (place.Remove 5 (Some 2))) ∷
    (place.Take 5 true true, found.Left 0, next.Do (place.Remove 5 None)) ∷
    (place.Retake 5, found.Left 2, next.Do (place.Remove 5 None)) ∷
    (place.Retake 5, found.Left 0, next.Do (place.Remove 5 None)) ∷
    (place.Retake 5, found.Short 2, next.Do (place.Ask 5 None)) ∷
    (place.Join 5 None, found.Done, next.Do (place.Take 5 true false)) ∷
    (place.Join 5 (Some 2), found.Done, next.Do (place.Take 5 true true)) ∷
    (place.Join 5 None, found.NoMemory, next.End (ended.Refused refusal.Memory) (position.Unlisted 5)) ∷
    (place.Join 5 (Some 2), found.NoMemory, next.Do (place.RefuseFit 5 2)) ∷
    (place.Ask 5 None, found.Yes, next.Do (place.Take 5 false true)) ∷
    (place.Ask 5 (Some 2), found.Yes, next.Do (place.Take 5 false true)) ∷
    (place.Ask 5 None, found.No, next.End ended.Pending (position.Waiting 5)) ∷
    (place.Ask 5 (Some 2), found.No, next.Do (place.PassOn 5 2)) ∷
    (place.Remove 5 None, found.Yes, next.Do (place.Load 5)) ∷
    (place.Remove 5 (Some 2), found.Yes, next.Do (place.Load 5)) ∷
    (place.Remove 5 None, found.No, next.End ended.Got (position.Holding 5)) ∷
    (place.Remove 5 (Some 2), found.No, next.Do (place.HandOn 5 2)) ∷
    (place.Load 5, found.Available 3, next.Do (place.HandOn 5 3)) ∷
    (place.HandOn 5 2, found.Done, next.End ended.Got (position.Holding 5)) ∷
    (place.PassOn 5 2, found.Done, next.End ended.Pending (position.Waiting 5)) ∷
    (place.RefuseFit 5 2, found.Done, next.End (ended.Refused refusal.Memory) (position.Unlisted 5)) ∷
    (place.Try 5, found.Left 2, next.End ended.Granted (position.Holding 5)) ∷
    (place.Try 5, found.Left 0, next.End ended.Granted (position.Holding 5)) ∷
    (place.Try 5, found.Short 2, next.End ended.NotFree position.Out) ∷
    (place.Lower 5, found.Done, next.End ended.GivenBack position.Out) ∷
    (place.GiveBack 5, found.Available 6, next.Do (place.FitGivenBack 6)) ∷
    (place.FitGivenBack 6, found.Done, next.End ended.GivenBack position.Out) ∷
    (place.Raise 2, found.Done, next.Do (place.GiveAdded 2)) ∷
    (place.Raise 2, found.PastLimit, next.End (ended.Refused refusal.Permits) position.Out) ∷
    (place.GiveAdded 2, found.Available 4, next.Do (place.FitAdded 4)) ∷
    (place.FitAdded 4, found.Done, next.End ended.Granted position.Out) ∷
    (place.CancelRemove, found.Yes, next.Do place.CancelLoad) ∷
    (place.CancelRemove, found.No, next.End ended.GivenBack position.Out) ∷
    (place.CancelLoad, found.Available 4, next.Do (place.FitGivenBack 4)) ∷
    (place.Abandon, found.Done, next.End ended.GivenBack position.Out) ∷
    []
