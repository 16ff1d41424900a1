-- Polls that are carried out alone, each from its first action to its end before another party moves.
use Rattle.std.specs.Prelude.{◌≡◌, ℕ, ◌<◌, ◌≤◌, ◌⊎◌, Bool, true, false, length, slice_set, IsSomeAnd}
use Rattle.lock_event.specs.Lists.{is_marked_at}
use Rattle.world_base.specs.queue.Parties.{is_party}
use Rattle.world_base.specs.declared.moves.Call.TheVariants as call
use Rattle.lock_program.specs.declared.refusal.Refusal.TheVariants.{Readers, Starved}
use Rattle.lock_program.specs.declared.end.End.TheVariants as turn_end
use Rattle.world_mutex.specs.machine.Course.{counted}
use Rattle.world_mutex.specs.machine.Mutex.{IsStarved, course_at, holders, starved}
use Rattle.world_mutex.specs.machine.Alone.{GaveWay}
use Rattle.sync_program.specs.declared.rwlock.Purpose.TheVariants.{Write, UpgradableRead}
use Rattle.sync_program.specs.declared.rwlock.Place.{Place}
use Rattle.sync_program.specs.declared.rwlock.Place.TheVariants.{Made, Reading, Upgradable, Writing, AskNoWriter, WaitTurn, AwaitNoReaders, LookUnlisted}
use Rattle.sync_program.specs.declared.rwlock.Action.{Action}
use Rattle.lock_program.specs.declared.end.End.{End}
use Rattle.lock_program.specs.declared.end.End.TheVariants.{Got, Pending, Refused}
use Rattle.world_rwlock.specs.declared.program.led.Next.{Next}
use Rattle.world_rwlock.specs.declared.program.led.Next.TheVariants as next
use Rattle.world_rwlock.specs.program.Program.{start_of}
use Rattle.world_rwlock.specs.machine.Machine.{RwLock, place_at}
use Rattle.world_rwlock.specs.machine.Acts.{Acts, IsAtRest, readers, marked}

-- A party inside a call goes on with it alone, always with or always without memory, until the call ends so and leaves this lock.
pub data GoesOnAlone (memory : Bool) (p : ℕ) (e : End) (new : RwLock) : RwLock → Type 0 where
  last : (old : RwLock) (starving : Bool) (to : Place) → Acts memory starving p (place_at old.places p) (next.End e to) old new → GoesOnAlone memory p e new old
  step : (old mid : RwLock) (starving : Bool) (a : Action) (to : Place) → Acts memory starving p (place_at old.places p) (next.Do a to) old mid → GoesOnAlone memory p e new mid → GoesOnAlone memory p e new old

-- The first action of a party's poll.
abbrev pub BeginsPoll : Bool → Bool → ℕ → Next → RwLock → RwLock → Type 0
BeginsPoll memory starving p n old new = IsSomeAnd (start_of call.Poll (place_at old.places p)) (λ from. Acts memory starving p from n old new)

-- A party's poll is carried out alone, with memory or without: it begins at the old lock, ends so, and leaves the new one.
pub data PollsAlone (memory : Bool) (p : ℕ) (e : End) (new : RwLock) : RwLock → Type 0 where
  at_once : (old : RwLock) (starving : Bool) (to : Place) → BeginsPoll memory starving p (next.End e to) old new → PollsAlone memory p e new old
  begun : (old mid : RwLock) (starving : Bool) (a : Action) (to : Place) → BeginsPoll memory starving p (next.Do a to) old mid → GoesOnAlone memory p e new mid → PollsAlone memory p e new old

-- A party that is pending in one of the lists.
abbrev pub waits_to_read : Place → Bool
waits_to_read AskNoWriter = true
waits_to_read _ = false

abbrev pub waits_to_write : Place → Bool
waits_to_write (AwaitNoReaders upgrade) = true
waits_to_write _ = false

abbrev pub waits_for_turn : Place → Bool
waits_for_turn (WaitTurn purpose) = true
waits_for_turn _ = false

-- And has been notified there.
abbrev pub IsCalledToRead : RwLock → ℕ → Type 0
IsCalledToRead v p = (waits_to_read (place_at v.places p) ≡ true) × (is_marked_at (is_party p) v.no_writer ≡ true)

abbrev pub IsCalledToWrite : RwLock → ℕ → Type 0
IsCalledToWrite v p = (waits_to_write (place_at v.places p) ≡ true) × (is_marked_at (is_party p) v.no_readers ≡ true)

abbrev pub IsCalledToTurn : RwLock → ℕ → Type 0
IsCalledToTurn v p = (waits_for_turn (place_at v.places p) ≡ true) × (is_marked_at (is_party p) v.turn.entries ≡ true)

-- A pending party that looks for readers when it polls: it waits in the list of that, or its future is an upgrade's and stands in none.
abbrev pub looks_for_readers : Place → Bool
looks_for_readers (AwaitNoReaders upgrade) = true
looks_for_readers (LookUnlisted true) = true
looks_for_readers _ = false

-- The poll was ready, and its party has this right.
abbrev pub Took : ℕ → Place → End → RwLock → Type 0
Took p right e new = (e ≡ Got) × (place_at new.places p ≡ right)

-- The poll took the turn: its party is upgradable or writes, or is pending until no reader is left.
abbrev pub TookTurn : ℕ → End → RwLock → Type 0
TookTurn p Got new = (place_at new.places p ≡ Upgradable) ⊎ (place_at new.places p ≡ Writing)
TookTurn p Pending new = waits_to_write (place_at new.places p) ≡ true
TookTurn p _ new = ⊥

-- A future that is in no list stands here, as when it was made.
abbrev pub is_made : Place → Bool
is_made (Made wanted) = true
is_made _ = false

-- A party that gave way in the turn's mutex waits for the turn as before; or it was refused, since no more parties may be starved, and its future is as when it was made.
abbrev pub StandsBack : ℕ → RwLock → End → RwLock → Type 0
StandsBack p old Pending new = GaveWay p old.turn turn_end.Pending new.turn × (place_at new.places p ≡ place_at old.places p)
StandsBack p old (Refused Starved) new = GaveWay p old.turn (turn_end.Refused Starved) new.turn × (is_made (place_at new.places p) ≡ true)
StandsBack p old _ new = ⊥

-- The poll gave way, and did nothing but in the turn.
pub record GaveTurnWay (p : ℕ) (old : RwLock) (e : End) (new : RwLock) : Type 0 where
  pub stands_back : StandsBack p old e new
  pub places : new.places ≡ slice_set old.places p (place_at new.places p)
  pub no_writer : new.no_writer ≡ old.no_writer
  pub no_readers : new.no_readers ≡ old.no_readers
  pub limit : new.limit ≡ old.limit

-- Only a write that takes the turn while others read needs memory: it waits until no reader is left.
abbrev pub HasEnough : Bool → RwLock → ℕ → Type 0
HasEnough memory v p = place_at v.places p ≡ WaitTurn Write → 0 < readers v → memory ≡ true

-- The poll was refused: its party took the turn to read upgradably, and as many read as may.
pub record MeetsReaders (p : ℕ) (v : RwLock) (e : End) : Type 0 where
  pub wants : place_at v.places p ≡ WaitTurn UpgradableRead
  pub full : v.limit ≤ readers v
  pub refused : e ≡ Refused Readers

-- What polls that are carried out alone do to a lock that is free for them.
pub record SoloPolls (v : RwLock) : Type 0 where
  -- Where the bit is clear and readers are below their limit, such a poll of a notified reader reads.
  pub reads : marked v ≡ 0 → readers v < v.limit → (memory : Bool) (p : ℕ) (e : End) (new : RwLock) → IsCalledToRead v p → PollsAlone memory p e new v → Took p Reading e new
  -- Where as many read as may, it is refused for that.
  pub reads_full : marked v ≡ 0 → v.limit ≤ readers v → (memory : Bool) (p : ℕ) (e : End) (new : RwLock) → IsCalledToRead v p → PollsAlone memory p e new v → e ≡ Refused Readers
  -- Where no reader is left, such a poll of a party that looks for them writes, notified or not, in the list or not.
  pub writes : readers v ≡ 0 → (memory : Bool) (p : ℕ) (e : End) (new : RwLock) → looks_for_readers (place_at v.places p) ≡ true → PollsAlone memory p e new v → Took p Writing e new
  -- Where nobody has the turn, such a poll of a party that was notified for it takes it, gives way, or meets the readers' limit, if it finds memory,
  pub takes_turn_or_gives_way : holders v.turn ≡ 0 → (p : ℕ) (e : End) (new : RwLock) → IsCalledToTurn v p → PollsAlone true p e new v → TookTurn p e new ⊎ (GaveTurnWay p v e new ⊎ MeetsReaders p v e)
  -- and doesn't give way if its party is starved, or if nobody is, and it has memory enough.
  pub takes_turn : holders v.turn ≡ 0 → (memory : Bool) (p : ℕ) (e : End) (new : RwLock) → IsCalledToTurn v p → HasEnough memory v p → IsStarved v.turn p ⊎ (starved v.turn ≡ 0) → PollsAlone memory p e new v → TookTurn p e new ⊎ MeetsReaders p v e
  -- At rest it gives way if its party isn't starved, and another is.
  pub behind : IsAtRest v → holders v.turn ≡ 0 → (p : ℕ) (e : End) (new : RwLock) → IsCalledToTurn v p → counted (course_at v.turn.courses p) ≡ 0 → 0 < starved v.turn → PollsAlone true p e new v → GaveTurnWay p v e new
  -- At rest, where somebody waits in a list for something free, some party there has been notified.
  pub some_reader_called : IsAtRest v → marked v ≡ 0 → 0 < length v.no_writer → (p : ℕ) × IsCalledToRead v p
  pub some_writer_called : IsAtRest v → readers v ≡ 0 → 0 < length v.no_readers → (p : ℕ) × IsCalledToWrite v p
  pub some_turn_called : IsAtRest v → holders v.turn ≡ 0 → 0 < length v.turn.entries → (p : ℕ) × IsCalledToTurn v p
