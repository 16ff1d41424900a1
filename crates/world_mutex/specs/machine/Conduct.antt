-- What a step of a party's call does to a mutex.
use Rattle.std.specs.Prelude.{◌≡◌, ◌≢◌, ℕ, ◌+◌, ◌-◌, ◌<◌, ◌≤◌, ◌⊎◌, ◌↔◌, Bool, true, false, List, length, Option, Some, None}
use Rattle.std.specs.Prelude.{◌||◌}
use Rattle.world_base.specs.Overtaking.{before}
use Rattle.world_mutex.specs.machine.Course.{heard, holds, is_long}
use Rattle.lock_event.specs.declared.event.Entry.{Entry}
use Rattle.lock_event.specs.declared.event.Mark.TheVariants.{Waiting}
use Rattle.lock_event.specs.Lists.{mark_at, marked_count}
use Rattle.world_base.specs.queue.Parties.{is_party, entries_of}
use Rattle.lock_program.specs.declared.refusal.Refusal.{Refusal}
use Rattle.lock_program.specs.declared.refusal.Refusal.TheVariants.{Memory, Starved}
use Rattle.world_base.specs.Steps.{Effect, nothing, changes, does, joins}
use Rattle.lock_program.specs.declared.mutex.LockCall.{LockCall}
use Rattle.lock_program.specs.declared.mutex.LockCall.TheVariants as call
use Rattle.lock_program.specs.declared.end.End.{End}
use Rattle.lock_program.specs.declared.end.End.TheVariants.{Got, Pending, NotFree, GivenBack, Refused}
use Rattle.lock_program.specs.declared.mutex.Step.{Step}
use Rattle.lock_program.specs.declared.mutex.Step.TheVariants as step
use Rattle.world_mutex.specs.machine.Course.{Course, waiting, counted, decision, is_waiting, is_called, is_counting, is_told, is_untold}
use Rattle.world_mutex.specs.machine.Effects.{Change, takes, releases, starves, recovers, ListName, holder_after, starved_after, entries_after, gives_back, gives_up, is_release, is_fresh}
use Rattle.world_mutex.specs.machine.Mutex.{Mutex, course_at, holders, starved, Holds, IsStarved, holder_of, starved_of}
use Rattle.world_base.specs.Steps.{notifies, notifies_additionally}
use Rattle.world_mutex.specs.machine.Course.{listed, may_tell, is_releasing}
use Rattle.world_mutex.specs.machine.Effects.{for_the_lock}
use Rattle.lock_event.specs.Lists.{is_marked_at}
use Rattle.world_base.specs.Steps.{asked}
use Rattle.std.specs.Prelude.{if◌then◌else◌, nat_lt}

-- The end on which a call is decided once a step has led here.
abbrev pub decided_then : Step → Course → Option End
decided_then step.More to = decision to
decided_then (step.End e) to = Some e

-- A call isn't refused at its first step.
abbrev pub IsUnrefused : Step → Course → Type 0
IsUnrefused s to = (r : Refusal) → decided_then s to ≡ Some (Refused r) → ⊥

-- Why a call may be decided on this end: the party has the lock; it stands waiting in the list; the lock was held or somebody starved; its join found no memory, and changed nothing; or as many parties were starved as may be, it was none of them, was about to be counted, and changed nothing.
abbrev pub IsReason : Bool → ℕ → Mutex → Mutex → End → Type 0
IsReason memory p old new Got = holder_of new ≡ Some p
IsReason memory p old new Pending = mark_at (is_party p) new.entries ≡ Some Waiting
IsReason memory p old new NotFree = (holders old ≡ 1) ⊎ (0 < starved old)
IsReason memory p old new GivenBack = Unit {0}
IsReason memory p old new (Refused Memory) = (memory ≡ false) × (entries_of p old.entries ≡ 0) × (new.entries ≡ old.entries) × (holder_of new ≡ holder_of old) × (starved_of new ≡ starved_of old)
IsReason memory p old new (Refused Starved) = (starved old ≡ old.limit) × (counted (course_at old.courses p) ≡ 0) × (new.entries ≡ old.entries) × (holder_of new ≡ holder_of old) × (starved_of new ≡ starved_of old) × (is_counting (course_at old.courses p) ≡ true)
IsReason memory p old new _ = ⊥

-- Where a change may be made: the lock is taken where nobody holds it, and nobody is starved or the taker is; a party is counted once, below the limit; and who may notify does so for one.
abbrev pub IsAllowed : ℕ → Effect Change ListName → Mutex → Type 0
IsAllowed p (changes takes) m = (holders m ≡ 0) × ((starved m ≡ 0) ⊎ IsStarved m p)
IsAllowed p (changes releases) m = Holds m p
IsAllowed p (changes starves) m = (counted (course_at m.courses p) ≡ 0) × (starved m < m.limit)
IsAllowed p (changes recovers) m = IsStarved m p
IsAllowed p (does list (notifies n)) m = (n ≡ 1) × (may_tell (course_at m.courses p) ≡ true)
IsAllowed p (does list (notifies_additionally n)) m = ⊥
IsAllowed p _ m = Unit {0}

-- A step changes one thing of the mutex where it may, or does one list function, never both, and moves no other party. A join has found memory. A call that was decided only gives back, and keeps its decision; who got the lock keeps it; one that wasn't decided gives nothing up; a refusal does nothing else; whoever has released the lock notifies; whoever is refused does as its call ends, once it stands in no list and isn't starved; and one that is decided now has its reason.
pub record IsLegal (memory : Bool) (p : ℕ) (decided : Option End) (s : Step) (old new : Mutex) : Type 0 where
  pub effect : Effect Change ListName
  pub allowed : IsAllowed p effect old
  pub holder : holder_of new ≡ holder_after p effect (holder_of old)
  pub starved : starved_of new ≡ starved_after p effect (starved_of old)
  pub entries : new.entries ≡ entries_after p effect old.entries
  pub found_memory : (list : ListName) → effect ≡ does list joins → memory ≡ true
  pub limit : new.limit ≡ old.limit
  pub parties : length new.courses ≡ length old.courses
  pub others : (q : ℕ) → q ≢ p → course_at new.courses q ≡ course_at old.courses q
  pub kept : (e : End) → decided ≡ Some e → (decided_then s (course_at new.courses p) ≡ Some e) × (gives_back effect ≡ true)
  pub holds_on : decided ≡ None → gives_up effect ≡ false
  pub keeps_lock : decided ≡ Some Got → is_release effect ≡ false
  pub refused_idly : (r : Refusal) → decided ≡ None → decided_then s (course_at new.courses p) ≡ Some (Refused r) → effect ≡ nothing
  pub releases : is_releasing (course_at old.courses p) ≡ true → effect ≡ does for_the_lock (notifies 1)
  pub refuses : (r : Refusal) → decided ≡ Some (Refused r) → listed (course_at old.courses p) ≡ 0 → counted (course_at old.courses p) ≡ 0 → (effect ≡ does for_the_lock (notifies 1)) × (s ≡ step.End (Refused r))
  pub reason : (e : End) → decided ≡ None → decided_then s (course_at new.courses p) ≡ Some e → IsReason memory p old new e

-- A step that asks in the list goes on exactly where the party was notified, and else is pending still; and it does nothing else.
pub record Asks (p : ℕ) (s : Step) (old new : Mutex) : Type 0 where
  pub step : s ≡ (if is_marked_at (is_party p) old.entries then step.More else step.End Pending)
  pub entries : new.entries ≡ asked p old.entries
  pub holder : holder_of new ≡ holder_of old
  pub starved : starved_of new ≡ starved_of old

-- A first poll, a try, and a poll of a party that stands in no list take the lock at once exactly where nobody holds it and nobody is starved, and their call is over then; they do nothing else. A poll of a party that stands in the list asks there.
pub record TakesAtOnce (c : LockCall) (p : ℕ) (s : Step) (old new : Mutex) : Type 0 where
  pub takes : is_fresh c (entries_of p old.entries) ≡ true → (holder_of new ≡ Some p) ↔ ((holders old ≡ 0) × (starved old ≡ 0))
  pub ends : is_fresh c (entries_of p old.entries) ≡ true → holders old ≡ 0 → starved old ≡ 0 → s ≡ step.End Got
  pub looks : is_fresh c (entries_of p old.entries) ≡ true → (new.entries ≡ old.entries) × (starved_of new ≡ starved_of old)
  pub listed : c ≡ call.Poll → 0 < entries_of p old.entries → Asks p s old new

-- A party that was notified and finds the lock held, where nobody is starved, is about to be counted exactly if it has waited for too long.
abbrev pub HeedsClock : Bool → Course → Mutex → Course → Type 0
HeedsClock starving from old to = is_called from ≡ true → holders old ≡ 1 → starved old ≡ 0 → is_counting to ≡ starving

-- Where nobody is starved, a step of a party that hasn't waited for too long, and isn't about to be counted, counts nobody.
abbrev pub CountsNobody : Bool → ℕ → Mutex → Mutex → Type 0
CountsNobody starving p old new = starving ≡ false → starved old ≡ 0 → is_counting (course_at old.courses p) ≡ false → (starved new ≡ 0) × (is_counting (course_at new.courses p) ≡ false)

-- What becomes of the call of a party that took a notification: it goes on as such, or ends; and where it is refused some entry of the list is marked, if there is any.
abbrev pub HandsOn : Step → Course → List (Entry ℕ) → Type 0
HandsOn step.More to l = is_told to ≡ true
HandsOn (step.End (Refused r)) to l = 0 < length l → 0 < marked_count l
HandsOn (step.End e) to l = Unit {0}

-- So does each step of such a party, and the first step of a poll of one that waits.
abbrev pub BeginsToHandOn : LockCall → Course → Step → Course → List (Entry ℕ) → Type 0
BeginsToHandOn call.Poll from s to l = is_waiting from ≡ true → HandsOn s to l
BeginsToHandOn _ from s to l = Unit {0}

-- Whether some party is starved.
abbrev pub is_some_starved : Mutex → Bool
is_some_starved m = nat_lt 0 (starved m)

-- The party is in a poll that took no notification, and isn't marked.
abbrev pub IsUntold : ℕ → Bool → Mutex → Type 0
IsUntold p beside m = (is_untold beside (course_at m.courses p) ≡ true) × (is_marked_at (is_party p) m.entries ≡ false)

-- What becomes of such a poll, and of a call that takes the lock at once where it may. Beside starved parties it waits as one of them or is refused, and a try is in vain; where there are none it isn't refused for their number, and doesn't wait as one.
abbrev pub StaysUntold : ℕ → Bool → Step → Mutex → Type 0
StaysUntold p beside step.More m = IsUntold p beside m × (is_some_starved m ≡ beside)
StaysUntold p beside (step.End Got) m = beside ≡ false
StaysUntold p beside (step.End Pending) m = course_at m.courses p ≡ waiting beside
StaysUntold p beside (step.End (Refused Starved)) m = beside ≡ true
StaysUntold p beside (step.End e) m = Unit {0}

-- Another party holds the lock, and this one's poll counts it as starved: it has waited for too long or some party is starved, and fewer are than may be, or it is counted already.
pub record IsLong (starving : Bool) (p : ℕ) (m : Mutex) : Type 0 where
  pub held : holders m ≡ 1
  pub without_lock : holds (course_at m.courses p) ≡ 0
  pub long : is_long (starving || is_some_starved m) (course_at m.courses p) ≡ true
  pub below : counted (course_at m.courses p) ≡ 0 → starved m < m.limit

-- What becomes of such a poll, if it finds memory: it ends waiting as one that is starved.
abbrev pub StaysLong : Bool → ℕ → Step → Mutex → Type 0
StaysLong starving p step.More m = IsLong starving p m
StaysLong starving p (step.End Pending) m = course_at m.courses p ≡ waiting true
StaysLong starving p (step.End e) m = ⊥

-- A step of a party leaves a starved one in the list in its turn: whoever takes the lock has heard its notification before, once for each time that it takes it, and hears it by leaving the list, where it stood before the starved one.
abbrev pub ServesInTurn : ℕ → Mutex → Mutex → Type 0
ServesInTurn p old new = (q : ℕ) → p ≢ q → IsStarved old q → 0 < entries_of q old.entries → heard (course_at new.courses p) + before q new.entries + (holds (course_at new.courses p) - holds (course_at old.courses p)) ≤ heard (course_at old.courses p) + before q old.entries

-- So it begins, of a party that waits for the lock and was notified.
pub record BeginsLong (starving : Bool) (p : ℕ) (m : Mutex) : Type 0 where
  pub held : holders m ≡ 1
  pub called : is_waiting (course_at m.courses p) ≡ true
  pub marked : is_marked_at (is_party p) m.entries ≡ true
  pub long : starving || is_some_starved m ≡ true
  pub below : starved m < m.limit
