-- Where a party is in its program: what it does next, or how its last call ended and where that left it.
use Rattle.std.specs.Prelude.{◌≡◌, ◌⊎◌, ⊤, Bool, true, false, Some}
use Rattle.std.specs.Coded.{Coded}
use Rattle.lock_program.specs.Mutex.{start_of}
use Rattle.lock_program.specs.contracts.end.Next as next
use Rattle.lock_program.specs.contracts.mutex.Place as place
use Rattle.lock_program.specs.contracts.refusal.Refusal as refusal
use Rattle.lock_program.specs.declared.end.End.TheVariants.{Got, Pending, Refused}
use Rattle.lock_program.specs.declared.end.Next.{Next}
use Rattle.lock_program.specs.declared.end.Next.TheVariants.{Do, End}
use Rattle.lock_program.specs.declared.mutex.LockCall.{LockCall}
use Rattle.lock_program.specs.declared.mutex.Place.{Place}
use Rattle.lock_program.specs.declared.mutex.LockCall.TheVariants as call
use Rattle.lock_program.specs.declared.mutex.Place.TheVariants.{Out, Holding, Enter, Try, Ask, AskStarved, RefuseNotifyMemory, RefuseNotifyStarved}
use Rattle.lock_program.specs.declared.refusal.Refusal.{Refusal}
use Rattle.lock_program.specs.declared.refusal.Refusal.TheVariants as refusals

abbrev pub Course : Type 0
Course = Next Place Place

abbrev pub course_coded : Coded Course
course_coded = (next.the_row place.the_row place.the_row).coded

-- why a call gave up
abbrev pub refusal_coded : Coded Refusal
refusal_coded = refusal.the_row.coded

-- it has begun no call: none ends so
abbrev pub unbegun : Course
unbegun = End Pending Out

-- it is outside every call, and has nothing
abbrev pub IsOutside : Course → Type 0
IsOutside (End e Out) = ⊤
IsOutside _ = ⊥

-- outside every call, with the lock
abbrev pub holding : Course
holding = End Got Holding

-- it is pending, starved or not
abbrev pub pending : Bool → Course
pending true = End Pending AskStarved
pending false = End Pending Ask

-- The call may begin at this place, for a party that is outside every call. Once it has nothing any more, none begins: another call is another seat's.
abbrev pub IsStart : LockCall → Place → Course → Type 0
IsStart call at (End Pending from) = start_of call from ≡ Some at
IsStart call at (End e Out) = ⊥
IsStart call at (End e from) = start_of call from ≡ Some at
IsStart call at (Do p) = ⊥

-- the first action of a try, or of a poll
abbrev pub IsFirst : LockCall → Place → Type 0
IsFirst asked at = ((asked ≡ call.Try) × (at ≡ Try)) ⊎ ((asked ≡ call.Lock) × (at ≡ Enter))

-- where who gives up hands on what it was notified of
abbrev pub notifying_of : Refusal → Place
notifying_of refusals.Memory = RefuseNotifyMemory
notifying_of _ = RefuseNotifyStarved

-- how who gives up goes on: by handing on what it was notified of, if it was
abbrev pub refusing : Bool → Refusal → Course
refusing true refusal = Do (notifying_of refusal)
refusing false refusal = End (Refused refusal) Out
