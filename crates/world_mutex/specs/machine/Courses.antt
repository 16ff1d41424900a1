-- What a caller can tell of a party's calls without the program's places.
use Rattle.std.specs.Prelude.{◌≡◌, Bool, true, false}
use Rattle.lock_program.specs.declared.mutex.Place.{Place}
use Rattle.lock_program.specs.declared.mutex.Place.TheVariants.{Out, Holding, CancelUncount, CancelLeave, Join, Look, Ask, Retry, PassOn, Count, JoinStarved, LookAlone, PassOnListed, AskStarved, Seize, Uncount, Leave, RefuseUncount, RefuseLeave, RefuseNotifyMemory, RefuseNotifyStarved, ReleaseNotify}
use Rattle.lock_program.specs.declared.mutex.LockCall.{LockCall}
use Rattle.lock_program.specs.declared.mutex.LockCall.TheVariants as call
use Rattle.lock_program.specs.declared.refusal.Refusal.TheVariants.{Memory, Starved}
use Rattle.world_mutex.specs.declared.program.led.Next.{Next}
use Rattle.world_mutex.specs.declared.program.led.Next.TheVariants as next
use Rattle.lock_program.specs.declared.end.End.TheVariants.{Got, Pending, NotFree, GivenBack, Refused}
use Rattle.std.specs.Prelude.{if◌then◌else◌}

-- it is outside every call, without the lock
abbrev pub is_out : Place → Bool
is_out Out = true
is_out _ = false

-- it is outside every call, with the lock
abbrev pub is_holding : Place → Bool
is_holding Holding = true
is_holding _ = false

-- it is inside a poll
abbrev pub is_taking : Place → Bool
is_taking (Join told) = true
is_taking (Look told) = true
is_taking Ask = true
is_taking Retry = true
is_taking PassOn = true
is_taking (Count listed told) = true
is_taking JoinStarved = true
is_taking LookAlone = true
is_taking PassOnListed = true
is_taking AskStarved = true
is_taking Seize = true
is_taking (Uncount listed) = true
is_taking Leave = true
is_taking RefuseUncount = true
is_taking (RefuseLeave told) = true
is_taking RefuseNotifyMemory = true
is_taking RefuseNotifyStarved = true
is_taking _ = false

-- it is pending in the list
abbrev pub is_waiting : Place → Bool
is_waiting Ask = true
is_waiting AskStarved = true
is_waiting _ = false

abbrev pub is_releasing : Place → Bool
is_releasing ReleaseNotify = true
is_releasing _ = false

abbrev pub is_cancelling : Place → Bool
is_cancelling CancelUncount = true
is_cancelling CancelLeave = true
is_cancelling _ = false

-- it is about to be counted as starved
abbrev pub is_counting : Place → Bool
is_counting PassOn = true
is_counting (Count listed told) = true
is_counting _ = false

-- it took a notification in this poll, and still owes the list what comes of it unless it gets the lock or waits again
abbrev pub is_told : Place → Bool
is_told Retry = true
is_told PassOn = true
is_told (Count listed true) = true
is_told (Join true) = true
is_told (Look true) = true
is_told Ask = true
is_told JoinStarved = true
is_told LookAlone = true
is_told PassOnListed = true
is_told AskStarved = true
is_told Seize = true
is_told (Uncount listed) = true
is_told Leave = true
is_told RefuseUncount = true
is_told (RefuseLeave true) = true
is_told RefuseNotifyMemory = true
is_told RefuseNotifyStarved = true
is_told _ = false

-- it notifies next: it gives way to a starved party, is refused, or has released the lock
abbrev pub may_tell : Place → Bool
may_tell PassOn = true
may_tell PassOnListed = true
may_tell RefuseNotifyMemory = true
may_tell RefuseNotifyStarved = true
may_tell ReleaseNotify = true
may_tell _ = false

-- it has still to notify, or to look at the lock for those that wait
abbrev pub is_due : Place → Bool
is_due Retry = true
is_due PassOn = true
is_due (Count listed told) = if listed then false else true
is_due JoinStarved = true
is_due LookAlone = true
is_due PassOnListed = true
is_due Seize = true
is_due RefuseUncount = true
is_due RefuseNotifyMemory = true
is_due RefuseNotifyStarved = true
is_due ReleaseNotify = true
is_due _ = false

-- a poll goes on, or ends so
abbrev pub Takes : Next → Place → Type 0
Takes (next.Do action p) to = is_taking to ≡ true
Takes (next.End Got) to = to ≡ Holding
Takes (next.End Pending) to = is_waiting to ≡ true
Takes (next.End (Refused Memory)) to = to ≡ Out
Takes (next.End (Refused Starved)) to = to ≡ Out
Takes (next.End _) to = ⊥

abbrev pub Tries : Next → Place → Type 0
Tries (next.End Got) to = to ≡ Holding
Tries (next.End NotFree) to = to ≡ Out
Tries _ to = ⊥

abbrev pub Releases : Next → Place → Type 0
Releases (next.Do action p) to = is_releasing to ≡ true
Releases (next.End GivenBack) to = to ≡ Out
Releases _ to = ⊥

abbrev pub Cancels : Next → Place → Type 0
Cancels (next.Do action p) to = is_cancelling to ≡ true
Cancels (next.End GivenBack) to = to ≡ Out
Cancels _ to = ⊥

-- what a call's first action may lead to
abbrev pub Begins : LockCall → Next → Place → Type 0
Begins call.Lock n to = Takes n to
Begins call.Poll n to = Takes n to
Begins call.Try n to = Tries n to
Begins call.Release n to = Releases n to
Begins call.Cancel n to = Cancels n to

-- what the next action of a call may lead to
pub record GoesOn (at : Place) (n : Next) (to : Place) : Type 0 where
  pub takes : is_taking at ≡ true → Takes n to
  pub releases : is_releasing at ≡ true → (n ≡ next.End GivenBack) × (to ≡ Out)
  pub cancels : is_cancelling at ≡ true → Cancels n to

-- A party that was notified and finds the lock held counts itself as starved if it has waited for too long, and else joins the list again. Nowhere else does the clock matter.
abbrev pub HeedsClock : Bool → Place → Next → Type 0
HeedsClock starving Retry (next.Do action (Join told)) = starving ≡ false
HeedsClock starving Retry (next.Do action (Count listed told)) = starving ≡ true
HeedsClock starving p n = Unit {0}
