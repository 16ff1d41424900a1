-- How far a call is in the lock's program.
use Rattle.std.specs.Prelude.{◌≡◌, ⊤, Bool, true, false}
use Rattle.lock_program.specs.declared.end.Next.{Next}
use Rattle.lock_program.specs.declared.end.Next.TheVariants as next
use Rattle.sync_program.specs.ReadWrite.{action_of, next_of}
use Rattle.sync_program.specs.declared.rwlock.Action.{Action}
use Rattle.sync_program.specs.declared.rwlock.Action.TheVariants as act
use Rattle.sync_program.specs.declared.rwlock.Found.{Found}
use Rattle.sync_program.specs.declared.rwlock.Found.TheVariants as finds
use Rattle.sync_program.specs.declared.rwlock.Place.{Place}
use Rattle.sync_program.specs.declared.rwlock.Place.TheVariants as at
use Rattle.access_core.specs.Accesses.{Seated}
use Rattle.access_core.specs.declared.lists.Side.{Side}
use Rattle.access_core.specs.declared.lists.Side.TheVariants as sides
use Rattle.rwlock_core.specs.declared.course.Course.{Course}

-- what its party does next, or how the call ended and where that left it
abbrev pub next_in : Course → Next Place Place
next_in course = course.next.value

-- it has come to this place, whose action is this
abbrev pub IsAt : Place → Action → Course → Type 0
IsAt p act course = (next_in course ≡ next.Do p) × (action_of p ≡ act)

-- the action of this place found this
abbrev pub Goes : Place → Found → Course → Type 0
Goes p found course = next_in course ≡ next_of p found

-- what is done to the list of this name: an entry joins it, asks, and leaves it
abbrev pub joins : Side → Action
joins sides.Readers = act.JoinNoWriter
joins sides.Writer = act.JoinNoReaders

abbrev pub asks : Side → Action
asks sides.Readers = act.AskNoWriter
asks sides.Writer = act.AskNoReaders

abbrev pub leaves : Side → Action
leaves sides.Readers = act.LeaveNoWriter
leaves sides.Writer = act.LeaveNoReaders

-- where a poll goes on once it has the turn
abbrev pub HasTurn : Place → Type 0
HasTurn (at.Add false) = ⊤
HasTurn at.Mark = ⊤
HasTurn _ = ⊥

-- how a party goes on that has set the writer's bit and got no memory for its entry: an upgrade keeps the bit, a write clears it
abbrev pub without_memory : Bool → Next Place Place
without_memory upgrade = next_of (at.JoinNoReaders upgrade) finds.NoMemory

-- the writer's bit is cleared at this place, of a write that is refused or not
abbrev pub Clears : Bool → Place → Type 0
Clears refused p = (action_of p ≡ act.Unmark) × (next_of p finds.Done ≡ next.Do (at.UnmarkNotify refused))

-- what follows once the readers were notified that the bit is clear
abbrev pub cleared : Bool → Next Place Place
cleared refused = next_of (at.UnmarkNotify refused) finds.Done

-- it has left as the last reader while the writer's bit was set: it owes the writer a notification, and has nothing else
abbrev pub HasLeftLast : Seated → Type 0
HasLeftLast s = (s.marks ≡ false) × (s.reads ≡ false) × (s.writes ≡ false) × (s.owes_readers ≡ false) × (s.owes_writer ≡ true) × (s.in_readers ≡ false) × (s.in_writer ≡ false) × (s.fresh ≡ false)
