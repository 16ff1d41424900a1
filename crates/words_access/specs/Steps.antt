-- What steps tell, and what a seat has that has the lists out.
use Rattle.std.specs.Prelude.{◌≡◌, ◌≢◌, ℕ, ◌%◌, ◌<◌, ◌≤◌, true, [], ◌∷◌}
use Rattle.atomic_table.specs.Table.{Me, rest}
use Rattle.words_base.specs.Lists.{Listed, Stays, Pays, Joins, Leaves, HandsOn}
use Rattle.words_access.specs.Rule.{SaysEmpty}
use Rattle.words_access.specs.Seats.{having_found, saw_writer_of, saw_readers_of, reading_of, left_of, last_left_of, writing_of, marking_of, upgraded_of, eased_of, listing_of}
use Rattle.words_access.specs.declared.view.View.{View}

module _ {S : Type 0} where
  -- Nothing has changed for the seat.
  abbrev pub Kept : Me S View → Me S View → Type 0
  Kept m m' = m' ≡ m

  -- A look at the state found r.
  abbrev pub Looked : Me S View → ℕ → Me S View → Type 0
  Looked m r m' = (r % 2 ≡ 1 → m' ≡ (saw_writer_of r m.0, m.1)) × (r % 2 ≡ 0 → m' ≡ (having_found r m.0, m.1))

  -- A look by who has set the writer's bit found r: 1, and it writes; or more, and it waits.
  abbrev pub LookedLeft : Me S View → ℕ → Me S View → Type 0
  LookedLeft m r m' = (r ≡ 1 → m' ≡ (writing_of m.0, m.1)) × (r ≢ 1 → (1 < r) × (m' ≡ (saw_readers_of r m.0, m.1)))

  -- A step from the word that was expected found r. A reader's seat knows that word.
  abbrev pub Entered : ℕ → Me S View → ℕ → Me S View → Type 0
  Entered seen m r m' = (r ≡ seen → m' ≡ (reading_of seen m.0, m.1)) × (r ≢ seen → m' ≡ (having_found r m.0, m.1))

  abbrev pub Upgraded : ℕ → Me S View → ℕ → Me S View → Type 0
  Upgraded seen m r m' = (r ≡ seen → m' ≡ (upgraded_of m.0, m.1)) × (r ≢ seen → m' ≡ (having_found r m.0, m.1))

  -- A step that gets to write from this word alone found r.
  abbrev pub Won : ℕ → Me S View → ℕ → Me S View → Type 0
  Won free m r m' = (r ≡ free → m' ≡ (writing_of m.0, m.1)) × (r ≢ free → m' ≡ (having_found r m.0, m.1))

  -- A reader's step that gets to write found r: no other reader, and the seat writes; or another reader, or the writer's bit.
  abbrev pub Raised : Me S View → ℕ → Me S View → Type 0
  Raised m r m' = (r ≡ 2 → m' ≡ (writing_of m.0, m.1)) × (r ≢ 2 → (2 < r) × (m' ≡ (having_found r m.0, m.1)))

  -- The step that sets the writer's bit found r: nobody inside, and the seat writes; readers, and it waits; or the bit, which another had set.
  abbrev pub Marked : Me S View → ℕ → Me S View → Type 0
  Marked m r m' = (r ≡ 0 → m' ≡ (writing_of m.0, m.1)) × (r ≢ 0 → r % 2 ≡ 0 → m' ≡ (marking_of m.0, m.1)) × (r % 2 ≡ 1 → m' ≡ (having_found r m.0, m.1))

  -- A reader's step out found r.
  abbrev pub Left : Me S View → ℕ → Me S View → Type 0
  Left m r m' = (1 < r) × (r ≡ 3 → m' ≡ (last_left_of r m.0, m.1)) × (r ≢ 3 → m' ≡ (left_of r m.0, m.1))

  -- A look at the word of the lists found r.
  abbrev pub Peeked : Me S View → ℕ → Me S View → Type 0
  Peeked m r m' = (4 ≤ r % 8 → m' ≡ m) × (r % 8 < 4 → m' ≡ (eased_of m.0, m.1))

-- What a seat has else is as it was.
abbrev pub IsSame : View → View → Type 0
IsSame v w = (w.marks ≡ v.marks) × (w.reads ≡ v.reads) × (w.writes ≡ v.writes) × (w.owes_readers ≡ v.owes_readers) × (w.owes_writer ≡ v.owes_writer) × (w.in_readers ≡ v.in_readers) × (w.in_writer ≡ v.in_writer) × (w.fresh ≡ v.fresh) × (w.entry ≡ v.entry) × (w.found ≡ v.found)

module _ {S : Type 0} (readers_of writer_of : S → Listed) where
  -- From an even word the seat has the lists, and knows what they have.
  abbrev pub Grabbed : Me S View → ℕ → Me S View → Type 0
  Grabbed m r m' = (r % 2 ≡ 0 → (lists : S) × (m' ≡ (listing_of (readers_of lists) (writer_of lists) m.0, (0, lists) ∷ m.1))) × (r % 2 ≡ 1 → m' ≡ m)

  -- The seat has the lists out, and knows what they have.
  abbrev pub IsHeld : Me S View → Type 0
  IsHeld m = (lists : S) × (m.0.has_lists ≡ true) × (m.0.readers ≡ readers_of lists) × (m.0.writer ≡ writer_of lists) × (m.1 ≡ (0, lists) ∷ rest m.1)

-- The lists that are out with a seat may be given back with this word.
module _ {S : Type 0} (readers_of writer_of : S → Listed) (m : Me S View) (n : ℕ) where
  -- The lists are out with the seat, and the word says whether they have entries.
  abbrev pub Out : S → Type 0
  Out lists = (m.0.has_lists ≡ true) × (m.1 ≡ (0, lists) ∷ rest m.1) × (n % 4 ≡ 0) × (SaysEmpty n → ((readers_of lists).waiting ≡ []) × ((writer_of lists).waiting ≡ []))

  -- One has joined the readers.
  abbrev pub CanJoinReaders : ℕ → Type 0
  CanJoinReaders k = (lists : S) × Out lists × Joins k m.0.readers (readers_of lists) × Stays m.0.writer (writer_of lists)

  -- One has joined the writer's list.
  abbrev pub CanJoinWriter : ℕ → Type 0
  CanJoinWriter k = (lists : S) × Out lists × Stays m.0.readers (readers_of lists) × Joins k m.0.writer (writer_of lists)

  -- A reader that was notified has left.
  abbrev pub CanHearReader : Type 0
  CanHearReader = (lists : S) × Out lists × Leaves m.0.entry m.0.readers (readers_of lists) × Stays m.0.writer (writer_of lists)

  abbrev pub CanHearWriter : Type 0
  CanHearWriter = (lists : S) × Out lists × Stays m.0.readers (readers_of lists) × Leaves m.0.entry m.0.writer (writer_of lists)

  -- The seat's entry has left the readers: what it was notified of has gone on.
  abbrev pub CanLeaveReaders : Type 0
  CanLeaveReaders = (lists : S) × Out lists × HandsOn m.0.entry m.0.readers (readers_of lists) × Stays m.0.writer (writer_of lists)

  abbrev pub CanLeaveWriter : Type 0
  CanLeaveWriter = (lists : S) × Out lists × Stays m.0.readers (readers_of lists) × HandsOn m.0.entry m.0.writer (writer_of lists)

  -- A reader is notified.
  abbrev pub CanPayReaders : Type 0
  CanPayReaders = (lists : S) × Out lists × Pays m.0.readers (readers_of lists) × Stays m.0.writer (writer_of lists)

  -- Who waits to write is notified.
  abbrev pub CanPayWriter : Type 0
  CanPayWriter = (lists : S) × Out lists × Stays m.0.readers (readers_of lists) × Pays m.0.writer (writer_of lists)

  -- Nothing changes for the seat.
  abbrev pub CanStay : Type 0
  CanStay = (lists : S) × Out lists × Stays m.0.readers (readers_of lists) × Stays m.0.writer (writer_of lists)
