-- Polls that are carried out alone, each from its first action to its end before another party moves.
use Rattle.std.specs.Prelude.{◌≡◌, ◌≢◌, ℕ, zero, suc, ◌+◌, ◌-◌, ◌<◌, ◌⊎◌, Bool, true, length, IsSomeAnd}
use Rattle.std.specs.List.{sum_by}
use Rattle.lock_event.specs.Lists.{marked_count, is_marked_at}
use Rattle.world_base.specs.queue.Parties.{is_party}
use Rattle.lock_program.specs.declared.refusal.Refusal.TheVariants.{Starved}
use Rattle.lock_program.specs.declared.mutex.Place.TheVariants.{Out, Holding, Ask, AskStarved}
use Rattle.lock_program.specs.declared.mutex.Action.{Action}
use Rattle.lock_program.specs.declared.mutex.Place.{Place}
use Rattle.lock_program.specs.declared.mutex.LockCall.TheVariants as call
use Rattle.lock_program.specs.declared.end.End.{End}
use Rattle.lock_program.specs.declared.end.End.TheVariants.{Got, Pending, Refused}
use Rattle.world_mutex.specs.declared.program.led.Next.{Next}
use Rattle.world_mutex.specs.declared.program.led.Next.TheVariants as next
use Rattle.world_mutex.specs.program.Program.{start_of}
use Rattle.lock_program.specs.MutexRoles.{counted}
use Rattle.world_mutex.specs.machine.Courses.{is_waiting}
use Rattle.world_mutex.specs.machine.Machine.{Lock, place_at}
use Rattle.world_mutex.specs.machine.Acts.{Acts, IsAtRest, IsStarved, holders, starved}

-- A party inside a call goes on with it alone, always or never finding memory, until the call ends so and leaves this mutex.
pub data GoesOnAlone (memory : Bool) (p : ℕ) (e : End) (new : Lock) : Lock → Type 0 where
  last : (old : Lock) → Acts memory p (place_at old.places p) (next.End e) old new → GoesOnAlone memory p e new old
  step : (old mid : Lock) (a : Action) (to : Place) → Acts memory p (place_at old.places p) (next.Do a to) old mid → GoesOnAlone memory p e new mid → GoesOnAlone memory p e new old

-- The first action of a party's poll.
abbrev pub BeginsPoll : Bool → ℕ → Next → Lock → Lock → Type 0
BeginsPoll memory p n old new = IsSomeAnd (start_of call.Poll (place_at old.places p)) (λ from. Acts memory p from n old new)

-- A party's poll is carried out alone, always or never finding memory: it begins at the old mutex, ends so, and leaves the new one.
pub data PollsAlone (memory : Bool) (p : ℕ) (e : End) (new : Lock) : Lock → Type 0 where
  at_once : (old : Lock) → BeginsPoll memory p (next.End e) old new → PollsAlone memory p e new old
  begun : (old mid : Lock) (a : Action) (to : Place) → BeginsPoll memory p (next.Do a to) old mid → GoesOnAlone memory p e new mid → PollsAlone memory p e new old

-- A party that is pending, and has been notified.
abbrev pub IsCalled : Lock → ℕ → Type 0
IsCalled l p = (is_waiting (place_at l.places p) ≡ true) × (is_marked_at (is_party p) l.entries ≡ true)

-- 1 for a party that isn't counted as starved, else 0.
abbrev pub unstarved : Lock → ℕ → ℕ
unstarved l p = 1 - counted (place_at l.places p)

-- How many entries of the list are of parties that aren't starved.
abbrev pub unstarved_listed : Lock → ℕ
unstarved_listed l = sum_by (λ e. unstarved l e.key) l.entries

-- The poll took the lock.
abbrev pub Took : ℕ → End → Lock → Type 0
Took p e new = (e ≡ Got) × (place_at new.places p ≡ Holding)

-- A party that gave way is pending again in a list as long as before, now as a starved one; or it was refused since there may be no more of those, and left.
abbrev pub StandsBack : ℕ → Lock → End → Lock → Type 0
StandsBack p old Pending new = (place_at new.places p ≡ AskStarved) × (length new.entries ≡ length old.entries)
StandsBack p old (Refused Starved) new = (place_at new.places p ≡ Out) × (length new.entries + 1 ≡ length old.entries) × (starved old ≡ old.limit)
StandsBack p old _ new = ⊥

-- The poll gave way: its party wasn't starved, and another was. The lock is still free, the notification went on to the list, and one entry less is of a party that isn't starved.
pub record GaveWay (p : ℕ) (old : Lock) (e : End) (new : Lock) : Type 0 where
  pub unstarved_here : place_at old.places p ≡ Ask
  pub starved_there : 0 < starved old
  pub stands_back : StandsBack p old e new
  pub others : (q : ℕ) → q ≢ p → place_at new.places q ≡ place_at old.places q
  pub free : holders new ≡ 0
  pub notified : 0 < length new.entries → 0 < marked_count new.entries
  pub fewer : unstarved_listed new + 1 ≡ unstarved_listed old

-- So many polls in a row, each carried out alone by a party that is pending and has been notified, and finds memory, and none of which takes the lock.
abbrev pub PollsInTurn : ℕ → Lock → Lock → Type 0
PollsInTurn zero old new = new ≡ old
PollsInTurn (suc n) old new = (p : ℕ) × (e : End) × (mid : Lock) × IsCalled old p × (e ≢ Got) × PollsAlone true p e mid old × PollsInTurn n mid new

-- What polls that are carried out alone do to a free mutex.
pub record SoloPolls (l : Lock) : Type 0 where
  -- Such a poll of a notified party that finds memory takes the lock, or gives way.
  pub takes_or_gives_way : (p : ℕ) (e : End) (new : Lock) → IsCalled l p → PollsAlone true p e new l → Took p e new ⊎ GaveWay p l e new
  -- It takes the lock if its party is starved, or if nobody is, and needs no memory then.
  pub takes : (memory : Bool) (p : ℕ) (e : End) (new : Lock) → IsCalled l p → IsStarved l p ⊎ (starved l ≡ 0) → PollsAlone memory p e new l → Took p e new
  -- At rest, where somebody waits in the list, some party has been notified.
  pub some_called : IsAtRest l.places → 0 < length l.entries → (p : ℕ) × IsCalled l p
  -- And fewer polls in a row give way than the list has entries: so among as many polls one takes the lock.
  pub one_takes : IsAtRest l.places → 0 < length l.entries → (n : ℕ) (new : Lock) → PollsInTurn n l new → n < length l.entries
  -- At rest a party that isn't starved gives way where another is.
  pub behind : IsAtRest l.places → (p : ℕ) (e : End) (new : Lock) → IsCalled l p → counted (place_at l.places p) ≡ 0 → 0 < starved l → PollsAlone true p e new l → GaveWay p l e new
