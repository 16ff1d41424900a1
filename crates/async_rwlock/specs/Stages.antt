-- How far a future is, what it has meanwhile, and what its polls answer.
use Rattle.std.specs.Prelude.{◌≡◌, ℕ, ◌⊎◌, true, ⊤, IsSomeAnd, Option, None, Some}
use mathlib.Core.Logic.{inl, inr}
use Rattle.async_driver.specs.Stages.{AtLock}
use Rattle.async_driver.specs.declared.turn.Turn.{Turn}
use Rattle.async_driver.specs.declared.turn.Turn.TheVariants.{Pending, Ready, Refused}
use Rattle.futures.specs.Task.{Covers}
use Rattle.futures.specs.declared.task.context.Context.{Context}
use Rattle.lock_program.specs.declared.refusal.Refusal.{Refusal}
use Rattle.lock_queue.specs.Receipts.{IsWakerFor}
use Rattle.lock_queue.specs.declared.whose.Whose.{Whose}
use Rattle.mutex_core.specs.Locks as turn
use Rattle.mutex_core.specs.declared.turn.Waiting.{Waiting}
use Rattle.access_core.specs.Accesses.{IsInNextCall, IsOf as IsSeatOf, Seated}
use Rattle.rwlock_core.specs.declared.party.Outcome.{Outcome}
use Rattle.rwlock_core.specs.declared.party.Outcome.TheVariants as outcome
use Rattle.rwlock_core.specs.declared.party.WaitsFor.{WaitsFor}
use Rattle.rwlock_core.specs.declared.party.WaitsFor.TheVariants as waits
use Rattle.rwlock_core.specs.declared.party.WaitsToRead.{WaitsToRead}
use Rattle.rwlock_core.specs.declared.party.WaitsToWrite.{WaitsToWrite}
use Rattle.rwlock_core.specs.declared.rwlock.RawRwLock.{RawRwLock}
use Rattle.async_rwlock.specs.declared.rwlock.RwLock.{RwLock}
use Rattle.async_driver.specs.declared.stage.Stage.{Stage}
use Rattle.async_driver.specs.declared.stage.Stage.TheVariants.{Waits}

-- an entry of what a future wants next: the seat whose it is, at the lock's state or at its writer lock, and whose waker it keeps; and of a write
-- that waits for readers the number of its seat of the writer lock, which it has
pub record Listed : Type 0 where
  pub seat : Seated ⊎ turn.Seated
  pub keeps : Whose
  pub turn_seat : Option ℕ

-- what contracts see of a future: how far it is, and its entry at the lock
pub record Future (O : Type 0) : Type 0 where
  pub stage : Stage O
  pub waiting : Option Listed

abbrev pub future : {O : Type 0} → Stage O → Option Listed → Future O
future stage waiting = record { stage = stage; waiting = waiting }

-- the entry of what waits to read, for the writer lock, and to write
abbrev pub reads_entry : WaitsToRead → Listed
reads_entry w = record { seat = inl w.seat; keeps = w.whose; turn_seat = None }

abbrev pub turn_entry : {U : Type 0} → Waiting U → Listed
turn_entry w = record { seat = inr w.seat; keeps = w.whose; turn_seat = None }

abbrev pub writes_entry : WaitsFor → Listed
writes_entry (waits.Turn w) = turn_entry w
writes_entry (waits.Readers w held) = record { seat = inl w.seat; keeps = w.whose; turn_seat = Some held.seat.id }

abbrev pub upgrades_entry : {H : Type 0} → Option (WaitsToWrite × H) → Option Listed
upgrades_entry None = None
upgrades_entry (Some w) = Some (record { seat = inl w.0.seat; keeps = w.0.whose; turn_seat = None })

-- the entry of what waits, if anything does
abbrev pub entry_of : {W : Type 0} → (W → Listed) → Option W → Option Listed
entry_of entry None = None
entry_of entry (Some w) = Some (entry w)

-- this holds of the words of the lock that it waits for
abbrev pub At : {O T R : Type 0} → (O → RwLock T R) → Stage O → (RawRwLock → Type 0) → Type 0
At lock_of stage P = AtLock lock_of stage (λ lock. P lock.raw)

-- the source with which whoever has this seat registers
abbrev pub source_of : RawRwLock → Seated ⊎ turn.Seated → ℕ
source_of raw (inl s) = raw.access.source
source_of raw (inr s) = raw.turn.source

-- the sources at which it waits: that of what it waits for, at its lock
abbrev pub WaitsAt : {O T R : Type 0} → (O → RwLock T R) → Stage O → Option Listed → ℕ → Type 0
WaitsAt lock_of (Waits owner) (Some entry) s = s ≡ source_of (lock_of owner).raw entry.seat
WaitsAt lock_of _ _ s = ⊥

-- the seat is of this lock, and has an entry in one of its lists
abbrev pub IsListedAt : RawRwLock → Seated ⊎ turn.Seated → Type 0
IsListedAt raw (inl s) = IsSeatOf raw.access s × ((s.in_readers ≡ true) ⊎ (s.in_writer ≡ true))
IsListedAt raw (inr s) = turn.IsOf raw.turn s × (s.listed ≡ true)

-- The entry is one of the lock's lists, and keeps a waker of the task that the context polls, which has registered with the source of that.
abbrev pub HasReceipt : RawRwLock → Context → Listed → Type 0
HasReceipt raw cx e = IsListedAt raw e.seat × IsWakerFor cx e.keeps × Covers cx (λ s. s ≡ source_of raw e.seat)

-- how a poll by whoever wants a guard went: it has the right, waits, or gave up
abbrev pub IsPolled : {G W : Type 0} → (RawRwLock → G → Type 0) → (RawRwLock → W → Type 0) → (W → Listed) → (Refusal → Type 0) → RawRwLock → Context → Outcome G W → Type 0
IsPolled let_in waits_at entry refuses raw cx (outcome.Got g) = let_in raw g
IsPolled let_in waits_at entry refuses raw cx (outcome.Waits w) = waits_at raw w × HasReceipt raw cx (entry w)
IsPolled let_in waits_at entry refuses raw cx (outcome.Refused refusal) = refuses refusal

-- Its entry is one of its lock's lists, and keeps a waker of the task that the context polls.
abbrev pub HasReceiptAt : {O T R : Type 0} → (O → RwLock T R) → Stage O → Context → Option Listed → Type 0
HasReceiptAt lock_of (Waits owner) cx waiting = IsSomeAnd waiting (λ e. IsListedAt (lock_of owner).raw e.seat × IsWakerFor cx e.keeps)
HasReceiptAt lock_of _ cx waiting = ⊥

-- What was got has the seat of whoever waited, in its next call, and the writer lock by the same seat; what waited for the writer lock has that by the
-- seat that waited.
abbrev pub GotBy : Seated ⊎ turn.Seated → Option ℕ → Seated → Option ℕ → Type 0
GotBy (inl s) had got has = IsInNextCall s got × (has ≡ had)
GotBy (inr s) had got has = has ≡ Some s.id

-- It waits by the same seat, in its next call, and has the writer lock by the same; a write that waited for the writer lock may have that now, by the
-- seat that waited.
abbrev pub StaysBy : Seated ⊎ turn.Seated → Option ℕ → Seated ⊎ turn.Seated → Option ℕ → Type 0
StaysBy (inl s) had (inl t) has = IsInNextCall s t × (has ≡ had)
StaysBy (inr s) had (inr t) has = t.id ≡ s.id
StaysBy (inr s) had (inl t) has = has ≡ Some s.id
StaysBy (inl s) had (inr t) has = ⊥

-- Whoever waited by this entry goes on by its seats, in a poll and in what the poll answers.
abbrev pub GoesOn : {G W : Type 0} → (G → Seated) → (G → Option ℕ) → (W → Listed) → Listed → Outcome G W → Type 0
GoesOn seat_of turn_of entry was (outcome.Got got) = GotBy was.seat was.turn_seat (seat_of got) (turn_of got)
GoesOn seat_of turn_of entry was (outcome.Waits w) = StaysBy was.seat was.turn_seat (entry w).seat (entry w).turn_seat
GoesOn seat_of turn_of entry was (outcome.Refused refusal) = ⊤

abbrev pub GoesOnBy : {G : Type 0} → (G → Seated) → (G → Option ℕ) → Listed → Turn G → Option Listed → Type 0
GoesOnBy seat_of turn_of was (Ready got) entry = GotBy was.seat was.turn_seat (seat_of got) (turn_of got)
GoesOnBy seat_of turn_of was Pending entry = IsSomeAnd entry (λ e. StaysBy was.seat was.turn_seat e.seat e.turn_seat)
GoesOnBy seat_of turn_of was (Refused refusal) entry = ⊤
