-- The places of a semaphore's calls: the action at each, and what comes after what it finds.
use Rattle.std.specs.Prelude.{ℕ, ◌&&◌, Bool, true, false, Option, Some, None, nat_lt, if◌then◌else◌}
use Rattle.sync_program.specs.declared.permits.SemaphoreCall.{SemaphoreCall}
use Rattle.sync_program.specs.declared.permits.SemaphoreCall.TheVariants as call
use Rattle.lock_program.specs.declared.refusal.Refusal.TheVariants as refusal
use Rattle.lock_program.specs.declared.end.End.TheVariants.{Got, Granted, Pending, NotFree, GivenBack, Refused}
use Rattle.sync_program.specs.declared.permits.Action.{Action}
use Rattle.sync_program.specs.declared.permits.Action.TheVariants as act
use Rattle.sync_program.specs.declared.permits.Found.{Found}
use Rattle.sync_program.specs.declared.permits.Found.TheVariants.{Done, Left, Short, Available, Yes}
use Rattle.lock_program.specs.declared.end.Next.{Next}
use Rattle.lock_program.specs.declared.end.Next.TheVariants as next
use Rattle.sync_program.specs.declared.permits.Place.{Place}
use Rattle.sync_program.specs.declared.permits.Place.TheVariants.{Take, Retake, Join, Ask, Remove, Load, HandOn, PassOn, RefuseFit, Try, Lower, GiveBack, Raise, GiveAdded, FitAdded, CancelRemove, CancelLoad, FitGivenBack, Abandon}
use Rattle.sync_program.specs.declared.permits.Position.{Position}
use Rattle.sync_program.specs.declared.permits.Position.TheVariants.{Out, Unlisted, Waiting, Holding}

-- the place at which a call begins
abbrev pub start_of : SemaphoreCall → Position → Option Place
start_of (call.Acquire k) Out = Some (Take k false false)
start_of call.Poll (Unlisted k) = Some (Take k false false)
start_of call.Poll (Waiting k) = Some (Retake k)
start_of (call.TryAcquire k) Out = Some (Try k)
start_of (call.AddPermits n) Out = Some (Raise n)
start_of call.Drop (Unlisted k) = Some Abandon
start_of call.Drop (Waiting k) = Some CancelRemove
start_of call.Drop (Holding k) = Some (GiveBack k)
start_of call.Forget (Holding k) = Some (Lower k)
start_of _ _ = None

-- the action at a place
abbrev pub action_of : Place → Action
action_of (Take k listed told) = act.Take k
action_of (Retake k) = act.Take k
action_of (Join k told) = act.Join k
action_of (Ask k told) = act.Ask
action_of (Remove k more) = act.Remove
action_of (Load k) = act.Load
action_of (HandOn k a) = act.Fit a
action_of (PassOn k a) = act.Fit a
action_of (RefuseFit k a) = act.Fit a
action_of (Try k) = act.Take k
action_of (Lower k) = act.Lower k
action_of (GiveBack k) = act.GiveBack k
action_of (Raise n) = act.Raise n
action_of (GiveAdded n) = act.Give n
action_of (FitAdded a) = act.Fit a
action_of CancelRemove = act.Remove
action_of CancelLoad = act.Load
action_of (FitGivenBack a) = act.Fit a
action_of Abandon = act.Nothing

-- how many permits an action found available
abbrev pub available_in : Found → ℕ
available_in (Left a) = a
available_in (Short a) = a
available_in (Available a) = a
available_in _ = 0

-- how many permits are left for the next one, where the party was told and some are left
abbrev pub told_more : Bool → ℕ → Option ℕ
told_more told a = if told && nat_lt 0 a then Some a else None

-- after a look that took the permits and left a: of a party that is listed or not, and has to hand on what is left or not
abbrev pub after_taking_with : ℕ → Bool → Option ℕ → Next Place Position
after_taking_with k true more = next.Do (Remove k more)
after_taking_with k false (Some a) = next.Do (HandOn k a)
after_taking_with k false None = next.End Got (Holding k)

abbrev pub after_taking : ℕ → Bool → Bool → ℕ → Next Place Position
after_taking k listed told a = after_taking_with k listed (told_more told a)

-- after a look that found too few
abbrev pub too_few : ℕ → Bool → Bool → Found → Next Place Position
too_few k true told found = next.Do (Ask k (if told then Some (available_in found) else None))
too_few k false told found = next.Do (Join k (if told then Some (available_in found) else None))

abbrev pub is_told : Option ℕ → Bool
is_told (Some a) = true
is_told None = false

-- what comes after a place where this was found
abbrev pub next_of : Place → Found → Next Place Position
next_of (Take k listed told) (Left a) = after_taking k listed told a
next_of (Take k listed told) found = too_few k listed told found
next_of (Retake k) (Left a) = next.Do (Remove k None)
next_of (Retake k) _ = next.Do (Ask k None)
next_of (Join k told) Done = next.Do (Take k true (is_told told))
next_of (Join k (Some a)) _ = next.Do (RefuseFit k a)
next_of (Join k None) _ = next.End (Refused refusal.Memory) (Unlisted k)
next_of (Ask k told) Yes = next.Do (Take k false true)
next_of (Ask k (Some a)) _ = next.Do (PassOn k a)
next_of (Ask k None) _ = next.End Pending (Waiting k)
next_of (Remove k more) Yes = next.Do (Load k)
next_of (Remove k (Some a)) _ = next.Do (HandOn k a)
next_of (Remove k None) _ = next.End Got (Holding k)
next_of (Load k) found = next.Do (HandOn k (available_in found))
next_of (HandOn k a) _ = next.End Got (Holding k)
next_of (PassOn k a) _ = next.End Pending (Waiting k)
next_of (RefuseFit k a) _ = next.End (Refused refusal.Memory) (Unlisted k)
next_of (Try k) (Left a) = next.End Granted (Holding k)
next_of (Try k) _ = next.End NotFree Out
next_of (Lower k) _ = next.End GivenBack Out
next_of (GiveBack k) found = next.Do (FitGivenBack (available_in found))
next_of (Raise n) Done = next.Do (GiveAdded n)
next_of (Raise n) _ = next.End (Refused refusal.Permits) Out
next_of (GiveAdded n) found = next.Do (FitAdded (available_in found))
next_of (FitAdded a) _ = next.End Granted Out
next_of CancelRemove Yes = next.Do CancelLoad
next_of CancelRemove _ = next.End GivenBack Out
next_of CancelLoad found = next.Do (FitGivenBack (available_in found))
next_of (FitGivenBack a) _ = next.End GivenBack Out
next_of Abandon _ = next.End GivenBack Out
