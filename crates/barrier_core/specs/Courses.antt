-- Where a party is in its program: what it does next, or how its last call ended and where that left it.
use Rattle.std.specs.Prelude.{◌≡◌, ⊤, Bool, Some}
use Rattle.std.specs.Coded.{Coded}
use Rattle.lock_program.specs.contracts.end.Next as next
use Rattle.lock_program.specs.declared.end.End.TheVariants.{Got, Pending, GivenBack, Refused}
use Rattle.lock_program.specs.declared.end.Next.{Next}
use Rattle.lock_program.specs.declared.end.Next.TheVariants.{Do, End}
use Rattle.lock_program.specs.declared.refusal.Refusal.{Refusal}
use Rattle.sync_program.specs.Barrier.{action_of, start_of}
use Rattle.sync_program.specs.contracts.barrier.Left as left
use Rattle.sync_program.specs.contracts.barrier.Place as place
use Rattle.sync_program.specs.declared.barrier.Action.{Action}
use Rattle.sync_program.specs.declared.barrier.Aim.{Aim}
use Rattle.sync_program.specs.declared.barrier.Aim.TheVariants as aim
use Rattle.sync_program.specs.declared.barrier.BarrierCall.{BarrierCall}
use Rattle.sync_program.specs.declared.barrier.BarrierCall.TheVariants as call
use Rattle.sync_program.specs.declared.barrier.Left.{Left}
use Rattle.sync_program.specs.declared.barrier.Left.TheVariants.{Ready, Outside}
use Rattle.sync_program.specs.declared.barrier.Place.{Place}
use Rattle.sync_program.specs.declared.barrier.Place.TheVariants.{EnterLock, Join, Abandon}
use Rattle.sync_program.specs.declared.barrier.Position.TheVariants.{Out, Made, Locking, Waiting}

abbrev pub Course : Type 0
Course = Next Place Left

abbrev pub course_coded : Coded Course
course_coded = (next.the_row place.the_row left.the_row).coded

-- outside every call, with nothing any more
abbrev pub outside : Course
outside = End GivenBack (Outside Out)

-- it has begun no call: none ends so
abbrev pub unbegun : Course
unbegun = End Pending (Outside Out)

-- It is outside every call, and has nothing: it hasn't begun, or is dropped; or its wait is ready; or a poll was refused before its arrival was counted.
abbrev pub IsOutside : Course → Type 0
IsOutside (End e (Ready leads)) = ⊤
IsOutside (End e (Outside Out)) = ⊤
IsOutside (End e (Outside (Made aim.Arrive))) = ⊤
IsOutside _ = ⊥

-- a try has done nothing so far: it hasn't got the inner lock, or it has looked, and would have to wait
abbrev pub IsUndone : Course → Type 0
IsUndone (Do (EnterLock aim.Arrive)) = ⊤
IsUndone (Do Join) = ⊤
IsUndone _ = ⊥

-- The call may begin at this place, for a party that is outside every call. Once it has nothing any more, none begins: another call is another party's.
abbrev pub IsStart : BarrierCall → Place → Course → Type 0
IsStart call at (End Pending (Outside from)) = start_of call from ≡ Some at
IsStart call at (End e (Outside Out)) = ⊥
IsStart call at (End e (Outside from)) = start_of call from ≡ Some at
IsStart call at _ = ⊥

-- its call has come to this place, whose action is this
abbrev pub HasCome : Place → Action → Course → Type 0
HasCome at act course = (course ≡ Do at) × (action_of at ≡ act)

-- its wait is ready, and led or followed
abbrev pub ready : Bool → Course
ready leads = End Got (Ready leads)

-- it is pending in the barrier's list
abbrev pub waiting : Course
waiting = End Pending (Outside Waiting)

-- it is pending in the inner lock's list
abbrev pub locking : Aim → Course
locking a = End Pending (Outside (Locking a))

-- its poll was refused so, before its arrival was counted or after
abbrev pub refused : Refusal → Aim → Course
refused refusal a = End (Refused refusal) (Outside (Made a))

-- a poll of it was refused once its arrival was counted: it may be polled again, or dropped
abbrev pub IsCounted : Course → Type 0
IsCounted course = IsStart call.Poll (EnterLock aim.Check) course × IsStart call.Drop Abandon course
