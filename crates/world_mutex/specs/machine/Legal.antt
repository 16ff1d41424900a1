-- What one action of a party may do to a mutex, said without its places.
use Rattle.std.specs.Prelude.{◌≡◌, ◌≢◌, ℕ, ◌<◌, ◌⊎◌, ◌↔◌, Bool, true, false, length, Option, Some, None}
use Rattle.lock_event.specs.declared.event.Mark.TheVariants.{Waiting}
use Rattle.lock_event.specs.Lists.{mark_at}
use Rattle.world_base.specs.queue.Parties.{is_party, entries_of}
use Rattle.lock_program.specs.declared.refusal.Refusal.{Refusal}
use Rattle.lock_program.specs.declared.refusal.Refusal.TheVariants.{Memory, Starved}
use Rattle.world_base.specs.Steps.{Effect, nothing, changes, does, joins, notifies, notifies_additionally}
use Rattle.lock_program.specs.declared.mutex.Place.{Place}
use Rattle.lock_program.specs.declared.mutex.Place.TheVariants as place
use Rattle.lock_program.specs.declared.mutex.LockCall.{LockCall}
use Rattle.lock_program.specs.declared.end.End.{End}
use Rattle.lock_program.specs.declared.end.End.TheVariants.{Got, Pending, NotFree, GivenBack, Refused}
use Rattle.world_mutex.specs.declared.program.led.Next.{Next}
use Rattle.world_mutex.specs.declared.program.led.Next.TheVariants as next
use Rattle.world_mutex.specs.machine.Machine.{Lock, place_at}
use Rattle.world_mutex.specs.machine.Acts.{holders, starved, Holds, IsStarved}
use Rattle.lock_program.specs.MutexRoles.{counted, listed}
use Rattle.world_mutex.specs.machine.State.{holder_of, starved_of}
use Rattle.world_mutex.specs.machine.Effects.{Change, takes, releases, starves, recovers, ListName, holder_after, starved_after, entries_after, gives_back, gives_up, is_release, is_fresh}
use Rattle.world_mutex.specs.machine.Courses.{is_counting, may_tell, is_releasing}
use Rattle.world_mutex.specs.machine.Effects.{for_the_lock}

-- The end on which the call of a party at this place is decided.
abbrev pub decision : Place → Option End
decision place.Leave = Some Got
decision (place.Uncount listed) = Some Got
decision place.RefuseUncount = Some (Refused Memory)
decision (place.RefuseLeave told) = Some (Refused Starved)
decision place.RefuseNotifyMemory = Some (Refused Memory)
decision place.RefuseNotifyStarved = Some (Refused Starved)
decision place.Clear = Some GivenBack
decision place.ReleaseNotify = Some GivenBack
decision place.CancelUncount = Some GivenBack
decision place.CancelLeave = Some GivenBack
decision place.Out = Some GivenBack
decision _ = None

-- The end on which a call is decided once an action has led here.
abbrev pub decided_then : Next → Place → Option End
decided_then (next.Do action q) to = decision to
decided_then (next.End e) to = Some e

-- A call isn't refused at its first action.
abbrev pub IsUnrefused : Next → Place → Type 0
IsUnrefused onward to = (r : Refusal) → decided_then onward to ≡ Some (Refused r) → ⊥

-- Why a call may be decided on this end: the party has the lock; it stands waiting in the list; the lock was held or somebody starved; its join found no memory, and changed nothing; or as many parties were starved as may be, it was none of them, was about to be counted, and changed nothing.
abbrev pub IsReason : Bool → ℕ → Lock → Lock → End → Type 0
IsReason memory p old new Got = holder_of new ≡ Some p
IsReason memory p old new Pending = mark_at (is_party p) new.entries ≡ Some Waiting
IsReason memory p old new NotFree = (holders old ≡ 1) ⊎ (0 < starved old)
IsReason memory p old new GivenBack = Unit {0}
IsReason memory p old new (Refused Memory) = (memory ≡ false) × (entries_of p old.entries ≡ 0) × (new.entries ≡ old.entries) × (holder_of new ≡ holder_of old) × (starved_of new ≡ starved_of old)
IsReason memory p old new (Refused Starved) = (starved old ≡ old.limit) × (counted (place_at old.places p) ≡ 0) × (new.entries ≡ old.entries) × (holder_of new ≡ holder_of old) × (starved_of new ≡ starved_of old) × (is_counting (place_at old.places p) ≡ true)
IsReason memory p old new _ = ⊥

-- Where a change may be made: the lock is taken where nobody holds it, and nobody is starved or the taker is; a party is counted once, below the limit; and a party that may notify does so for one.
abbrev pub IsAllowed : ℕ → Effect Change ListName → Lock → Type 0
IsAllowed p (changes takes) l = (holders l ≡ 0) × ((starved l ≡ 0) ⊎ IsStarved l p)
IsAllowed p (changes releases) l = Holds l p
IsAllowed p (changes starves) l = (counted (place_at l.places p) ≡ 0) × (starved l < l.limit)
IsAllowed p (changes recovers) l = IsStarved l p
IsAllowed p (does list (notifies n)) l = (n ≡ 1) × (may_tell (place_at l.places p) ≡ true)
IsAllowed p (does list (notifies_additionally n)) l = ⊥
IsAllowed p _ l = Unit {0}

-- An action changes one thing of the mutex where it may, or does one list function, never both, and moves no other party. A join has found memory. A call that was decided only gives back, and keeps its decision; who got the lock keeps it; one that wasn't decided gives nothing up; a refusal does nothing else; whoever has released the lock notifies; whoever is refused does as its call ends, once it stands in no list and isn't starved; and one that is decided now has its reason.
pub record IsLegal (memory : Bool) (p : ℕ) (decided : Option End) (onward : Next) (old new : Lock) : Type 0 where
  pub effect : Effect Change ListName
  pub allowed : IsAllowed p effect old
  pub holder : holder_of new ≡ holder_after p effect (holder_of old)
  pub starved : starved_of new ≡ starved_after p effect (starved_of old)
  pub entries : new.entries ≡ entries_after p effect old.entries
  pub found_memory : (list : ListName) → effect ≡ does list joins → memory ≡ true
  pub limit : new.limit ≡ old.limit
  pub parties : length new.places ≡ length old.places
  pub others : (q : ℕ) → q ≢ p → place_at new.places q ≡ place_at old.places q
  pub kept : (e : End) → decided ≡ Some e → (decided_then onward (place_at new.places p) ≡ Some e) × (gives_back effect ≡ true)
  pub holds_on : decided ≡ None → gives_up effect ≡ false
  pub keeps_lock : decided ≡ Some Got → is_release effect ≡ false
  pub refused_idly : (r : Refusal) → decided ≡ None → decided_then onward (place_at new.places p) ≡ Some (Refused r) → effect ≡ nothing
  pub releases : is_releasing (place_at old.places p) ≡ true → effect ≡ does for_the_lock (notifies 1)
  pub refuses : (r : Refusal) → decided ≡ Some (Refused r) → listed (place_at old.places p) ≡ 0 → counted (place_at old.places p) ≡ 0 → (effect ≡ does for_the_lock (notifies 1)) × (onward ≡ next.End (Refused r))
  pub reason : (e : End) → decided ≡ None → decided_then onward (place_at new.places p) ≡ Some e → IsReason memory p old new e

-- Such a call takes the lock at once exactly where nobody holds it and nobody is starved.
abbrev pub TakesAtOnce : LockCall → ℕ → Lock → Lock → Type 0
TakesAtOnce c p old new = is_fresh c (entries_of p old.entries) ≡ true → (holder_of new ≡ Some p) ↔ ((holders old ≡ 0) × (starved old ≡ 0))

-- So does the action of either place at which such a call begins.
abbrev pub TakesFrom : Place → ℕ → Lock → Lock → Type 0
TakesFrom from p old new = (from ≡ place.Enter) ⊎ (from ≡ place.Try) → (holder_of new ≡ Some p) ↔ ((holders old ≡ 0) × (starved old ≡ 0))
