-- What one step of a party may do to a read-write lock.
use Rattle.std.specs.Prelude.{◌≡◌, ◌≢◌, ℕ, ◌+◌, ◌<◌, ◌≤◌, Bool, true, false, length, slice_set}
use Rattle.std.specs.List.{sum_by}
use Rattle.lock_event.specs.Lists.{marked_count, IsMarkedFirst}
use Rattle.world_base.specs.queue.Parties.{entries_of}
use Rattle.world_mutex.specs.machine.Mutex.{course_at as turn_at, IsMutex, holders}
use Rattle.world_mutex.specs.machine.Course.{holds}
use Rattle.sync_program.specs.declared.rwlock.Place.{Place}
use Rattle.sync_program.specs.declared.rwlock.Action.{Action}
use Rattle.sync_program.specs.declared.rwlock.Action.TheVariants as act
use Rattle.sync_program.specs.declared.rwlock.Found.{Found}
use Rattle.sync_program.specs.declared.rwlock.Found.TheVariants.{Done, Writer, Full, NoneLeft, SomeLeft, NotFree, NoMemory, Yes, No, Turn}
use Rattle.world_rwlock.specs.declared.program.led.Next.{Next}
use Rattle.world_rwlock.specs.program.Program.{action_of, next_of, place_after}
use Rattle.world_rwlock.specs.machine.Roles.{reads, marks, only_turns, has_turn, writes, in_no_writer, in_no_readers, fits_turn, is_resting}
use Rattle.world_rwlock.specs.program.Parties.{OnNoWriter, OnNoReaders}
use Rattle.world_rwlock.specs.program.Turns.{OnTurn}
use Rattle.world_rwlock.specs.machine.Machine.{RwLock, place_at}
use Rattle.world_base.specs.queue.Debts.{IsOwed}
use Rattle.world_rwlock.specs.machine.Roles.{waits_no_writer, owes_no_writer, waits_no_readers, owes_no_readers}

-- how many parties read, how many write, for how many the bit stands, and how many have the turn
abbrev pub readers : RwLock → ℕ
readers v = sum_by reads v.places

abbrev pub writers : RwLock → ℕ
writers v = sum_by writes v.places

abbrev pub marked : RwLock → ℕ
marked v = sum_by marks v.places

abbrev pub turns : RwLock → ℕ
turns v = sum_by only_turns v.places + marked v

-- what an action's finding says of the lock
abbrev pub Finds : Bool → Action → Found → RwLock → Type 0
Finds memory act.Nothing Done v = Unit {0}
Finds memory act.Read Done v = (marked v ≡ 0) × (readers v < v.limit)
Finds memory act.Read Writer v = marked v ≡ 1
Finds memory act.Read Full v = (marked v ≡ 0) × (v.limit ≤ readers v)
Finds memory act.Add Done v = readers v < v.limit
Finds memory act.Add Full v = v.limit ≤ readers v
Finds memory act.Off NoneLeft v = readers v ≡ 1
Finds memory act.Off SomeLeft v = 1 < readers v
Finds memory act.Load NoneLeft v = readers v ≡ 0
Finds memory act.Load SomeLeft v = 0 < readers v
Finds memory act.Mark NoneLeft v = readers v ≡ 0
Finds memory act.Mark SomeLeft v = 0 < readers v
Finds memory act.TryWrite Done v = (marked v ≡ 0) × (readers v ≡ 0)
Finds memory act.TryWrite NotFree v = marked v ≡ 0 → 0 < readers v
Finds memory act.TryUpgrade Done v = (marked v ≡ 0) × (readers v ≡ 1)
Finds memory act.TryUpgrade NotFree v = marked v ≡ 0 → readers v ≢ 1
Finds memory act.Upgrade Done v = 0 < readers v
Finds memory act.Down Done v = Unit {0}
Finds memory act.Unmark Done v = Unit {0}
Finds memory act.JoinNoWriter Done v = memory ≡ true
Finds memory act.JoinNoWriter NoMemory v = memory ≡ false
Finds memory act.AskNoWriter Yes v = Unit {0}
Finds memory act.AskNoWriter No v = Unit {0}
Finds memory act.LeaveNoWriter Done v = Unit {0}
Finds memory act.NotifyNoWriter Done v = Unit {0}
Finds memory act.JoinNoReaders Done v = memory ≡ true
Finds memory act.JoinNoReaders NoMemory v = memory ≡ false
Finds memory act.AskNoReaders Yes v = Unit {0}
Finds memory act.AskNoReaders No v = Unit {0}
Finds memory act.LeaveNoReaders Done v = Unit {0}
Finds memory act.NotifyNoReaders Done v = Unit {0}
Finds memory (act.Begin c) (Turn n) v = Unit {0}
Finds memory act.Go (Turn n) v = Unit {0}
Finds memory _ _ v = ⊥

-- the party does the action of this place, and goes where its program says
pub record Acts (memory starving : Bool) (p : ℕ) (from : Place) (next : Next) (old new : RwLock) : Type 0 where
  pub found : Found
  pub finds : Finds memory (action_of from) found old
  pub next_is : next ≡ next_of from found
  pub no_writer : OnNoWriter p (action_of from) found old.no_writer new.no_writer
  pub no_readers : OnNoReaders p (action_of from) found old.no_readers new.no_readers
  pub turn : OnTurn memory starving p (action_of from) found old.turn new.turn
  pub places : new.places ≡ slice_set old.places p (place_after next)
  pub limit : new.limit ≡ old.limit

-- every party is outside the programs of its calls
abbrev pub IsAtRest : RwLock → Type 0
IsAtRest v = (p : ℕ) → is_resting (place_at v.places p) ≡ true

-- what always holds of a read-write lock
pub record IsRwLock (v : RwLock) : Type 0 where
  -- one party at most has the turn: it is upgradable, waits to write, or writes
  pub one_turn : turns v ≤ 1
  pub turns_apart : (p q : ℕ) → p ≢ q → has_turn (place_at v.places p) + has_turn (place_at v.places q) ≤ 1
  -- who has the turn here holds it in the turn's mutex, and each place goes with the place there
  pub held : (p : ℕ) → has_turn (place_at v.places p) ≤ holds (turn_at v.turn.courses p)
  pub in_turn : (p : ℕ) → fits_turn (place_at v.places p) (turn_at v.turn.courses p) ≡ true
  pub turn : IsMutex v.turn
  pub as_many : length v.turn.courses ≡ length v.places
  -- nobody reads while one writes
  pub alone : 0 < writers v → readers v ≡ 0
  pub writes_apart : (p q : ℕ) → writes (place_at v.places p) ≡ 1 → reads (place_at v.places q) ≡ 0
  -- a party's entries are told by where it stands, and it has one at most, over all three lists
  pub owners_no_writer : (p : ℕ) → entries_of p v.no_writer ≡ in_no_writer (place_at v.places p)
  pub owners_no_readers : (p : ℕ) → entries_of p v.no_readers ≡ in_no_readers (place_at v.places p)
  pub one_entry : (p : ℕ) → entries_of p v.no_writer + entries_of p v.no_readers + entries_of p v.turn.entries ≤ 1
  pub in_order_no_writer : IsMarkedFirst v.no_writer
  pub in_order_no_readers : IsMarkedFirst v.no_readers
  pub one_told_no_writer : marked_count v.no_writer ≤ 1
  pub one_told_no_readers : marked_count v.no_readers ≤ 1
  -- what is free and waited for by a party that has looked has a marked entry, or is owed one
  pub owed_no_writer : IsOwed (marked v ≡ 0) (sum_by waits_no_writer v.places) (sum_by owes_no_writer v.places) (marked_count v.no_writer)
  pub owed_no_readers : IsOwed (readers v ≡ 0) (sum_by waits_no_readers v.places) (sum_by owes_no_readers v.places) (marked_count v.no_readers)
  -- at rest, a list that waits for something free has a marked entry
  pub wakes_no_writer : IsAtRest v → marked v ≡ 0 → 0 < length v.no_writer → 0 < marked_count v.no_writer
  pub wakes_no_readers : IsAtRest v → readers v ≡ 0 → 0 < length v.no_readers → 0 < marked_count v.no_readers
  pub wakes_turn : IsAtRest v → holders v.turn ≡ 0 → 0 < length v.turn.entries → 0 < marked_count v.turn.entries
