-- Polls on a mutex that are carried out alone, each from its first step to its end before another party moves.
use Rattle.std.specs.Prelude.{◌≡◌, ◌≢◌, ℕ, zero, suc, ◌+◌, ◌-◌, ◌<◌, ◌⊎◌, Bool, true, false, length, IsSomeAnd}
use Rattle.std.specs.List.{sum_by}
use Rattle.lock_event.specs.Lists.{marked_count, is_marked_at}
use Rattle.world_base.specs.queue.Parties.{is_party}
use Rattle.lock_program.specs.declared.refusal.Refusal.TheVariants.{Starved}
use Rattle.lock_program.specs.declared.mutex.LockCall.{LockCall}
use Rattle.lock_program.specs.declared.mutex.LockCall.TheVariants as call
use Rattle.lock_program.specs.declared.end.End.{End}
use Rattle.lock_program.specs.declared.end.End.TheVariants.{Got, Pending, Refused}
use Rattle.world_mutex.specs.declared.program.led.Next.{Next}
use Rattle.lock_program.specs.declared.mutex.Step.{Step}
use Rattle.lock_program.specs.declared.mutex.Step.TheVariants as step
use Rattle.world_mutex.specs.machine.Course.{counted, is_waiting, out, holding, waiting}
use Rattle.world_mutex.specs.machine.Behind.{reveal}
use Rattle.world_mutex.specs.machine.Mutex.{Mutex, course_at, holders, starved, IsStarved, IsAtRest}
use Rattle.world_mutex.specs.machine.Machine.{Lock, place_at}
use Rattle.world_mutex.specs.program.Program.{start_of, step_of}
use Rattle.world_mutex.specs.machine.Acts.{Acts}
use Rattle.world_mutex.specs.machine.Seen.{AreKept, seen}

-- The machine behind the one mutex did this, which led to the machine behind the other.
pub record IsDone (Does : Next → Lock → Lock → Type 0) (s : Step) (old new : Mutex) : Type 0 where
  pub next : Next
  pub step : s ≡ step_of next
  pub before : old ≡ seen (reveal old.behind)
  pub kept : AreKept (reveal old.behind).places
  pub after : new ≡ seen (reveal new.behind)
  pub does : Does next (reveal old.behind) (reveal new.behind)

-- It began this call of a party, or went on with the party's call. Those who build on a mutex only pass it on, to the promise below.
abbrev pub HasBegun : Bool → ℕ → LockCall → Step → Mutex → Mutex → Type 0
HasBegun memory p c s old new = IsDone (λ n l k. IsSomeAnd (start_of c (place_at l.places p)) (λ from. Acts memory p from n l k)) s old new

abbrev pub HasGoneOn : Bool → ℕ → Step → Mutex → Mutex → Type 0
HasGoneOn memory p s old new = IsDone (λ n l k. Acts memory p (place_at l.places p) n l k) s old new

-- A party inside a call goes on with it alone, always or never finding memory, until the call ends so and leaves this mutex.
pub data GoesOnAlone (memory : Bool) (p : ℕ) (e : End) (new : Mutex) : Mutex → Type 0 where
  last : (old : Mutex) → HasGoneOn memory p (step.End e) old new → GoesOnAlone memory p e new old
  further : (old mid : Mutex) → HasGoneOn memory p step.More old mid → GoesOnAlone memory p e new mid → GoesOnAlone memory p e new old

-- A party's poll is carried out alone, always or never finding memory: it begins at the old mutex, ends so, and leaves the new one.
pub data PollsAlone (memory : Bool) (p : ℕ) (e : End) (new : Mutex) : Mutex → Type 0 where
  at_once : (old : Mutex) → HasBegun memory p call.Poll (step.End e) old new → PollsAlone memory p e new old
  begun : (old mid : Mutex) → HasBegun memory p call.Poll step.More old mid → GoesOnAlone memory p e new mid → PollsAlone memory p e new old

-- A party that is pending, and has been notified.
abbrev pub IsCalled : Mutex → ℕ → Type 0
IsCalled m p = (is_waiting (course_at m.courses p) ≡ true) × (is_marked_at (is_party p) m.entries ≡ true)

-- 1 for a party that isn't counted as starved, else 0.
abbrev pub unstarved : Mutex → ℕ → ℕ
unstarved m p = 1 - counted (course_at m.courses p)

-- How many entries of the list are of parties that aren't starved.
abbrev pub unstarved_listed : Mutex → ℕ
unstarved_listed m = sum_by (λ e. unstarved m e.key) m.entries

-- The poll took the lock.
abbrev pub Took : ℕ → End → Mutex → Type 0
Took p e new = (e ≡ Got) × (course_at new.courses p ≡ holding)

-- A party that gave way is pending again in a list as long as before, now as a starved one; or it was refused since there may be no more of those, and left.
abbrev pub StandsBack : ℕ → Mutex → End → Mutex → Type 0
StandsBack p old Pending new = (course_at new.courses p ≡ waiting true) × (length new.entries ≡ length old.entries)
StandsBack p old (Refused Starved) new = (course_at new.courses p ≡ out) × (length new.entries + 1 ≡ length old.entries) × (starved old ≡ old.limit)
StandsBack p old _ new = ⊥

-- The poll gave way: its party wasn't starved, and another was. The lock is still free, the notification went on to the list, and one entry less is of a party that isn't starved.
pub record GaveWay (p : ℕ) (old : Mutex) (e : End) (new : Mutex) : Type 0 where
  pub unstarved_here : course_at old.courses p ≡ waiting false
  pub starved_there : 0 < starved old
  pub stands_back : StandsBack p old e new
  pub others : (q : ℕ) → q ≢ p → course_at new.courses q ≡ course_at old.courses q
  pub free : holders new ≡ 0
  pub notified : 0 < length new.entries → 0 < marked_count new.entries
  pub fewer : unstarved_listed new + 1 ≡ unstarved_listed old

-- So many polls in a row, each carried out alone by a party that is pending and has been notified, and finds memory, and none of which takes the lock.
abbrev pub PollsInTurn : ℕ → Mutex → Mutex → Type 0
PollsInTurn zero old new = new ≡ old
PollsInTurn (suc n) old new = (p : ℕ) × (e : End) × (mid : Mutex) × IsCalled old p × (e ≢ Got) × PollsAlone true p e mid old × PollsInTurn n mid new

-- What polls that are carried out alone do to a free mutex.
pub record SoloPolls (m : Mutex) : Type 0 where
  -- Such a poll of a notified party that finds memory takes the lock, or gives way.
  pub takes_or_gives_way : (p : ℕ) (e : End) (new : Mutex) → IsCalled m p → PollsAlone true p e new m → Took p e new ⊎ GaveWay p m e new
  -- It takes the lock if its party is starved, or if nobody is, and needs no memory then.
  pub takes : (memory : Bool) (p : ℕ) (e : End) (new : Mutex) → IsCalled m p → IsStarved m p ⊎ (starved m ≡ 0) → PollsAlone memory p e new m → Took p e new
  -- At rest, where somebody waits in the list, some party has been notified.
  pub some_called : IsAtRest m.courses → 0 < length m.entries → (p : ℕ) × IsCalled m p
  -- And fewer polls in a row give way than the list has entries: so among as many polls one takes the lock.
  pub one_takes : IsAtRest m.courses → 0 < length m.entries → (n : ℕ) (new : Mutex) → PollsInTurn n m new → n < length m.entries
  -- At rest a party that isn't starved gives way where another is.
  pub behind : IsAtRest m.courses → (p : ℕ) (e : End) (new : Mutex) → IsCalled m p → counted (course_at m.courses p) ≡ 0 → 0 < starved m → PollsAlone true p e new m → GaveWay p m e new
