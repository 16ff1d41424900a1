-- Where a party is in its program: what it does next, or how its last call ended and where that left it.
use Rattle.std.specs.Prelude.{◌≡◌, ⊤, ℕ, Option, Some, None}
use Rattle.std.specs.Coded.{Coded}
use Rattle.lock_program.specs.contracts.end.Next as next
use Rattle.lock_program.specs.declared.end.End.TheVariants.{Granted, Pending, NotFree, GivenBack}
use Rattle.lock_program.specs.declared.end.Next.{Next}
use Rattle.lock_program.specs.declared.end.Next.TheVariants.{Do, End}
use Rattle.sync_program.specs.Permits.{start_of}
use Rattle.sync_program.specs.contracts.permits.Place as place
use Rattle.sync_program.specs.contracts.permits.Position as position
use Rattle.sync_program.specs.declared.permits.SemaphoreCall.{SemaphoreCall}
use Rattle.sync_program.specs.declared.permits.Place.{Place}
use Rattle.sync_program.specs.declared.permits.Position.{Position}
use Rattle.sync_program.specs.declared.permits.Position.TheVariants.{Out, Unlisted, Waiting, Holding}

abbrev pub Course : Type 0
Course = Next Place Position

abbrev pub course_coded : Coded Course
course_coded = (next.the_row place.the_row position.the_row).coded

-- it has begun no call: none ends so
abbrev pub unbegun : Course
unbegun = End Pending Out

-- outside every call, with nothing any more
abbrev pub outside : Course
outside = End GivenBack Out

-- a try that found too few has ended
abbrev pub vain : Course
vain = End NotFree Out

-- an addition has ended
abbrev pub granted : Course
granted = End Granted Out

-- it is pending, for so many permits
abbrev pub pending : ℕ → Course
pending k = End Pending (Waiting k)

-- Where it stands, if it is outside every call. Once it has nothing any more it stands nowhere: another call is another seat's.
abbrev pub stands : Course → Option Position
stands (End Pending at) = Some at
stands (End e Out) = None
stands (End e at) = Some at
stands (Do at) = None

-- it is outside every call, and has nothing
abbrev pub IsOutside : Course → Type 0
IsOutside (End e Out) = ⊤
IsOutside (End e (Unlisted k)) = ⊤
IsOutside _ = ⊥

-- it is outside every call, and has so many permits
abbrev pub IsHolding : ℕ → Course → Type 0
IsHolding k course = stands course ≡ Some (Holding k)

abbrev pub start_from : SemaphoreCall → Option Position → Option Place
start_from call (Some from) = start_of call from
start_from call None = None

-- the call may begin at this place, for a party that is outside every call
abbrev pub IsStart : SemaphoreCall → Place → Course → Type 0
IsStart call at course = start_from call (stands course) ≡ Some at
