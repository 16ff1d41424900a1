-- What always holds of the table of a read-write lock's state and its two waiting lists, between any two atomic steps of any number of seats.
use Rattle.std.specs.Prelude.{◌≡◌, ℕ, ◌+◌, ◌*◌, ◌<◌, ◌≤◌, ◌%◌, ◌⊎◌, Bool, true, false, List, [], length, slice_index}
use mathlib.Core.Option.{some}
use lib.ListN.{get_elem?}
use Rattle.atomic_table.specs.Table.{State}
use Rattle.words_base.specs.Sums.{weight, number}
use Rattle.words_base.specs.Waiting.{SomeSeat, AreOf, Matched}
use Rattle.words_base.specs.Lists.{Listed, nobody}
use Rattle.words_access.specs.declared.view.View.{View}

abbrev pub first_view : View
first_view = record { marks = false; reads = false; writes = false; owes_readers = false; owes_writer = false; in_readers = false; in_writer = false; fresh = false; has_lists = false; entry = 0; found = 0; readers = nobody; writer = nobody }

-- Which seats have a flag.
abbrev pub marks_of : View → Bool
marks_of v = v.marks

abbrev pub reads_of : View → Bool
reads_of v = v.reads

abbrev pub writes_of : View → Bool
writes_of v = v.writes

abbrev pub has_lists_out : View → Bool
has_lists_out v = v.has_lists

-- It has to notify one of those that wait until the writer's bit is clear.
abbrev pub OwesReaders : View → Type 0
OwesReaders v = v.owes_readers ≡ true

-- It has to notify who waits until no reader is inside, or it writes itself.
abbrev pub TellsWriter : View → Type 0
TellsWriter v = (v.owes_writer ≡ true) ⊎ (v.writes ≡ true)

-- It stands in the list with the entry n.
abbrev pub IsEntryOfReaders : ℕ → View → Type 0
IsEntryOfReaders n v = (v.in_readers ≡ true) × (v.entry ≡ n)

abbrev pub IsEntryOfWriter : ℕ → View → Type 0
IsEntryOfWriter n v = (v.in_writer ≡ true) × (v.entry ≡ n)

-- The same, and it has not looked since it joined, or found its right free.
abbrev pub IsFreshReader : ℕ → View → Type 0
IsFreshReader n v = (v.fresh ≡ true) × IsEntryOfReaders n v

abbrev pub IsFreshWriter : ℕ → View → Type 0
IsFreshWriter n v = (v.fresh ≡ true) × IsEntryOfWriter n v

-- No wake-up is lost of a list: one in it is notified, or a seat has to notify one, or each that waits is fresh.
abbrev pub LosesNone : (View → Type 0) → (ℕ → View → Type 0) → Listed → List View → Type 0
LosesNone Tells IsFresh list views = (0 < list.notified) ⊎ (SomeSeat Tells views ⊎ AreOf IsFresh list.waiting views)

-- Who writes has set the writer's bit, and so has who stands in the writer's list.
abbrev pub Nested : View → Type 0
Nested v = (weight v.writes ≤ weight v.marks) × (weight v.in_writer ≤ weight v.marks)

abbrev pub AllNested : List View → Type 0
AllNested views = (i : ℕ) (v : View) → get_elem? views i ≡ some v → Nested v

-- One seat at most has set the writer's bit. Word 0 is odd then, and half of it is how many read. While a seat writes, nobody reads.
pub record IsState (words : List ℕ) (views : List View) : Type 0 where
  pub one_marks : number marks_of views ≤ 1
  pub few : number reads_of views ≤ 1073741823
  pub word : slice_index words 0 ≡ number marks_of views + 2 * number reads_of views
  pub alone : 0 < number writes_of views → number reads_of views ≡ 0

-- Word 1 is odd while a seat has the lists out. Its bit 2 says that somebody may sleep for them, its bit 4 that one of them may have entries, and
-- eight times the notifications that they have had are added to it.
abbrev pub IsListWord : List ℕ → List View → Type 0
IsListWord words views = (number has_lists_out views ≤ 1) × (slice_index words 1 % 2 ≡ number has_lists_out views)

-- The word of the lists doesn't say that they may have entries.
abbrev pub SaysEmpty : ℕ → Type 0
SaysEmpty word = word % 8 < 4

-- The word 0 says who has set the writer's bit and how many read. The lists are known: both lie in the slot 0, or a seat has them out, which knows them as
-- they were when it took them out. While the writer's bit is clear, no wake-up of the readers' list is lost; and while it is set and no reader is
-- left, none of the writer's list.
pub record Ruled {S : Type 0} (readers_of writer_of : S → Listed) (s : State S View) : Type 0 where
  pub two_words : 1 < length s.words
  pub state : IsState s.words s.views
  pub nested : AllNested s.views
  pub list_word : IsListWord s.words s.views
  pub readers : Listed
  pub writer : Listed
  pub clear : slice_index s.words 0 % 2 ≡ 0 → LosesNone OwesReaders IsFreshReader readers s.views
  pub left : slice_index s.words 0 ≡ 1 → LosesNone TellsWriter IsFreshWriter writer s.views
  -- each entry of a list, notified or not, is of a seat that stands in it, each seat that stands there has its entry in it, and no two seats have one
  pub readers_match : Matched IsEntryOfReaders readers.entries s.views
  pub writer_matches : Matched IsEntryOfWriter writer.entries s.views
  pub unlisted : SaysEmpty (slice_index s.words 1) → (readers.waiting ≡ []) × (writer.waiting ≡ [])
  pub home : number has_lists_out s.views ≡ 0 → (lists : S) × (get_elem? s.homes 0 ≡ some (some lists)) × (readers_of lists ≡ readers) × (writer_of lists ≡ writer)
  pub out : (i : ℕ) (v : View) → get_elem? s.views i ≡ some v → v.has_lists ≡ true → (v.readers ≡ readers) × (v.writer ≡ writer)
