-- Where a party's call on a semaphore is, as those see it who build on one: by what it wants, has and owes, and not by the places of its program.
use Rattle.std.specs.Prelude.{ℕ, if◌then◌else◌, Bool, true, false, Option, Some, None}
use Rattle.lock_program.specs.declared.end.End.{End}
use Rattle.lock_program.specs.declared.end.End.TheVariants.{Got, Granted, Pending, GivenBack, Refused}
use Rattle.sync_program.specs.declared.permits.SemaphoreCall.{SemaphoreCall}
use Rattle.sync_program.specs.declared.permits.SemaphoreCall.TheVariants as call
use Rattle.world_semaphore.specs.machine.Seats.{bit, Share, nothing_had, guard_of, under_way_of, Debt, nothing_owed, a_look}

-- A party is outside every call: with nothing, with a future for so many permits that stands in no list or waits there, or with a guard of so many. Or it is inside one: in a poll that isn't decided, of which it is said whether it is listed, whether it has looked at the permits since it joined the list or left it, and what it owes those in the list; in an add that has raised the limit by so many, and gives them next; or in a call that is decided so, and may have to leave the list and to tell others.
pub data Course : Type 0 where
  out : Course
  unlisted : ℕ → Course
  waiting : ℕ → Course
  holding : ℕ → Course
  polling : (size : ℕ) → (listed looked : Bool) → Debt → Course
  adding : ℕ → Course
  decided : End → (size : ℕ) → (listed : Bool) → Debt → Course

-- It is inside no call.
abbrev pub is_resting : Course → Bool
is_resting out = true
is_resting (unlisted k) = true
is_resting (waiting k) = true
is_resting (holding k) = true
is_resting _ = false

-- It is inside a poll; an add; the drop of a guard or of a pending future.
abbrev pub is_polling : Course → Bool
is_polling (polling k listed looked debt) = true
is_polling (decided Got k listed debt) = true
is_polling (decided Pending k listed debt) = true
is_polling (decided (Refused r) k listed debt) = true
is_polling _ = false

abbrev pub is_adding : Course → Bool
is_adding (adding n) = true
is_adding (decided Granted k listed debt) = true
is_adding _ = false

abbrev pub is_dropping : Course → Bool
is_dropping (decided GivenBack k listed debt) = true
is_dropping _ = false

-- It stands in the list, and has looked at the permits since it joined.
abbrev pub is_waiting : Course → Bool
is_waiting (waiting k) = true
is_waiting (polling k true true debt) = true
is_waiting (decided Pending k true debt) = true
is_waiting _ = false

-- For how many permits its future, guard or call is.
abbrev pub size : Course → ℕ
size (unlisted k) = k
size (waiting k) = k
size (holding k) = k
size (polling k listed looked debt) = k
size (decided end k listed debt) = k
size _ = 0

-- What it has: the permits of its guard, if it has one, and those that are under way in its add.
abbrev pub share : Course → Share
share (holding k) = guard_of k
share (adding n) = under_way_of n
share (decided Got k listed debt) = guard_of k
share _ = nothing_had

-- How many entries it has in the list.
abbrev pub listed : Course → ℕ
listed (waiting k) = 1
listed (polling k stands looked debt) = bit stands
listed (decided end k stands debt) = bit stands
listed _ = 0

-- What it owes those in the list.
abbrev pub debt : Course → Debt
debt (polling k stands looked owed) = owed
debt (decided end k stands owed) = owed
debt _ = nothing_owed

-- The end on which its call is decided.
abbrev pub decision : Course → Option End
decision (adding n) = Some Granted
decision (decided end k listed debt) = Some end
decision _ = None

-- The calls that a party may begin there.
abbrev pub may_begin : SemaphoreCall → Course → Bool
may_begin (call.Acquire k) out = true
may_begin (call.TryAcquire k) out = true
may_begin (call.AddPermits n) out = true
may_begin call.Poll (unlisted k) = true
may_begin call.Poll (waiting k) = true
may_begin call.Drop (unlisted k) = true
may_begin call.Drop (waiting k) = true
may_begin call.Drop (holding k) = true
may_begin call.Forget (holding k) = true
may_begin _ _ = false

-- How many steps its call still takes at most if only its party moves, by whether its own entry is marked.
abbrev pub left : Course → Bool → ℕ
left (polling k true false debt) marked = if marked then 7 else 3
left (polling k true true debt) marked = if marked then 6 else 2
left (polling k false false debt) marked = 5
left (polling k false true debt) marked = 4
left (adding n) marked = 2
left (decided Got k true debt) marked = if marked then 3 else 2
left (decided end k false a_look) marked = 2
left _ marked = 1
