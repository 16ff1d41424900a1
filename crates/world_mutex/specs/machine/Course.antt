-- Where a party's call on a mutex is, as those see it who build on one: by its course, and not by the places of its program.
use Rattle.std.specs.Prelude.{◌≡◌, ℕ, ◌+◌, Bool, true, false, Option, Some, None}
pub use Rattle.lock_program.specs.MutexRoles.{bit}
use Rattle.lock_program.specs.declared.refusal.Refusal.{Refusal}
use Rattle.lock_program.specs.declared.refusal.Refusal.TheVariants.{Memory, Starved}
use Rattle.lock_program.specs.declared.mutex.LockCall.{LockCall}
use Rattle.lock_program.specs.declared.mutex.LockCall.TheVariants as call
use Rattle.lock_program.specs.declared.end.End.{End}
use Rattle.lock_program.specs.declared.end.End.TheVariants.{Got, Pending, NotFree, GivenBack, Refused}
use Rattle.lock_program.specs.declared.mutex.Step.{Step}
use Rattle.lock_program.specs.declared.mutex.Step.TheVariants as step
use Rattle.std.specs.Prelude.{◌&&◌, if◌then◌else◌, not}

-- How far a poll is: nothing is decided yet; its party was notified, and looks at the lock next; it is about to be counted as starved; it has the lock; or it gives up for this reason.
pub data Progress : Type 0 where
  undecided : Progress
  called : Progress
  counting : Progress
  has_lock : Progress
  gives_up : Refusal → Progress

-- A party is outside every call without the lock, or with it; it is pending in the list, or inside a poll that is about to ask there; it is inside a poll; or it gives back the lock or its place in the list. Of those in the list it is said whether they are starved, and of those inside a poll whether they are starved, whether they are listed, and whether they took a notification that they hand on if they are refused.
pub data Course : Type 0 where
  out : Course
  holding : Course
  waiting : (starved : Bool) → Course
  taking : Progress → (starved listed told : Bool) → Course
  releasing : Course
  cancelling : (starved : Bool) → Course

abbrev pub is_out : Course → Bool
is_out out = true
is_out _ = false

abbrev pub is_holding : Course → Bool
is_holding holding = true
is_holding _ = false

abbrev pub is_waiting : Course → Bool
is_waiting (waiting starved) = true
is_waiting _ = false

-- It is inside a poll.
abbrev pub is_taking : Course → Bool
is_taking (waiting starved) = true
is_taking (taking progress starved listed told) = true
is_taking _ = false

abbrev pub is_releasing : Course → Bool
is_releasing releasing = true
is_releasing _ = false

abbrev pub is_cancelling : Course → Bool
is_cancelling (cancelling starved) = true
is_cancelling _ = false

-- It is inside no call: it is out, holds the lock, or waits to be notified.
abbrev pub is_resting : Course → Bool
is_resting out = true
is_resting holding = true
is_resting (waiting starved) = true
is_resting _ = false

-- It was notified, and looks at the lock next.
abbrev pub is_called : Course → Bool
is_called (taking called starved listed told) = true
is_called _ = false

-- It is about to be counted as starved.
abbrev pub is_counting : Course → Bool
is_counting (taking counting starved listed told) = true
is_counting _ = false

-- It took a notification in this poll, or asks for it, and hands it on if it is refused.
abbrev pub is_told : Course → Bool
is_told (waiting starved) = true
is_told (taking progress starved listed told) = told
is_told _ = false

-- It is in a poll that took no notification, as a newcomer's: beside starved parties it hasn't the lock, and asks in the list as one of them; where there are none it isn't counted, nor about to be.
abbrev pub is_untold : Bool → Course → Bool
is_untold beside (waiting starved) = if beside then starved else not starved
is_untold beside (taking undecided starved listed told) = not told && not starved
is_untold beside (taking counting starved listed told) = beside && listed && not told
is_untold beside (taking (gives_up refusal) starved listed told) = beside && not told
is_untold beside (taking has_lock starved listed told) = not beside && not starved
is_untold beside _ = false

-- While another holds the lock its poll counts it as starved, or has counted it: it was notified, where that is so; it is about to be counted; or it is counted.
abbrev pub is_long : Bool → Course → Bool
is_long long (waiting starved) = starved
is_long long (taking called starved listed told) = long
is_long long (taking counting starved listed told) = true
is_long long (taking undecided starved listed told) = starved
is_long long _ = false

-- It notifies next: it gives way to a starved party, is refused, or has released the lock.
abbrev pub may_tell : Course → Bool
may_tell (taking counting starved listed told) = if listed then false else true
may_tell (taking undecided starved listed told) = starved && listed
may_tell (taking (gives_up refusal) starved listed told) = if listed then false else true
may_tell releasing = true
may_tell _ = false

-- It has still to notify, or to look at the lock for those that wait: it stands in no list, and was notified, is about to be counted or is refused; or it is starved and polls; or it has released the lock.
abbrev pub is_due : Course → Bool
is_due (taking called starved listed told) = if listed then false else true
is_due (taking counting starved listed told) = if listed then false else true
is_due (taking undecided starved listed told) = starved
is_due (taking (gives_up refusal) starved listed told) = if listed then false else true
is_due releasing = true
is_due _ = false

-- It holds the lock, as 1 or 0; is counted as starved; stands in the list.
abbrev pub holds : Course → ℕ
holds holding = 1
holds (taking has_lock starved listed told) = 1
holds _ = 0

abbrev pub counted : Course → ℕ
counted (waiting starved) = bit starved
counted (taking progress starved listed told) = bit starved
counted (cancelling starved) = bit starved
counted _ = 0

abbrev pub listed : Course → ℕ
listed (waiting starved) = 1
listed (taking progress starved stands told) = bit stands
listed (cancelling starved) = 1
listed _ = 0

-- It has taken its notification out of the list in this poll, and isn't decided yet: the lock may be taken for that, once. As 1 or 0.
abbrev pub heard : Course → ℕ
heard (taking undecided starved false true) = 1
heard (taking called starved false true) = 1
heard (taking counting starved false told) = 1
heard _ = 0

-- The end on which its call is decided.
abbrev pub decision : Course → Option End
decision out = Some GivenBack
decision (taking has_lock starved listed told) = Some Got
decision (taking (gives_up refusal) starved listed told) = Some (Refused refusal)
decision releasing = Some GivenBack
decision (cancelling starved) = Some GivenBack
decision _ = None

-- How many steps of a call that is decided are left, whatever others do: the party leaves the list, is counted no more, and notifies.
abbrev pub last_steps : Course → ℕ
last_steps (taking has_lock starved listed told) = bit starved + bit listed
last_steps (taking progress starved listed told) = 1 + bit starved + bit listed
last_steps (cancelling starved) = 1 + bit starved
last_steps _ = 1

-- The calls that a party may begin there.
abbrev pub may_begin : LockCall → Course → Bool
may_begin call.Lock out = true
may_begin call.Try out = true
may_begin call.Poll out = true
may_begin call.Poll (waiting starved) = true
may_begin call.Release holding = true
may_begin call.Cancel out = true
may_begin call.Cancel (waiting starved) = true
may_begin _ _ = false

-- A poll goes on, or ends so.
abbrev pub Takes : Step → Course → Type 0
Takes step.More to = is_taking to ≡ true
Takes (step.End Got) to = to ≡ holding
Takes (step.End Pending) to = is_waiting to ≡ true
Takes (step.End (Refused Memory)) to = to ≡ out
Takes (step.End (Refused Starved)) to = to ≡ out
Takes (step.End _) to = ⊥

abbrev pub Tries : Step → Course → Type 0
Tries (step.End Got) to = to ≡ holding
Tries (step.End NotFree) to = to ≡ out
Tries _ to = ⊥

abbrev pub Releases : Step → Course → Type 0
Releases step.More to = is_releasing to ≡ true
Releases (step.End GivenBack) to = to ≡ out
Releases _ to = ⊥

abbrev pub Cancels : Step → Course → Type 0
Cancels step.More to = is_cancelling to ≡ true
Cancels (step.End GivenBack) to = to ≡ out
Cancels _ to = ⊥

-- Where a call's first action may lead.
abbrev pub Begins : LockCall → Step → Course → Type 0
Begins call.Lock s to = Takes s to
Begins call.Poll s to = Takes s to
Begins call.Try s to = Tries s to
Begins call.Release s to = Releases s to
Begins call.Cancel s to = Cancels s to

-- Where the next action of a call may lead.
pub record GoesOn (at : Course) (s : Step) (to : Course) : Type 0 where
  pub takes : is_taking at ≡ true → Takes s to
  pub releases : is_releasing at ≡ true → (s ≡ step.End GivenBack) × (to ≡ out)
  pub cancels : is_cancelling at ≡ true → Cancels s to
