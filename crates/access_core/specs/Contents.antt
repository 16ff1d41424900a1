-- What lies in the slot: two lists, what their word says of them, and what becomes of one.
use Rattle.std.specs.Prelude.{◌≡◌, ℕ, ◌%◌, []}
use Rattle.atomic_table.specs.Table.{Me}
use Rattle.words_base.specs.Lists.{Listed, Stays}
use Rattle.words_access.specs.Rule.{SaysEmpty}
use Rattle.words_access.specs.Steps.{Out}
use Rattle.words_access.specs.declared.view.View.{View}
use Rattle.lock_queue.specs.Queues.{listed_in}
use Rattle.access_core.specs.declared.lists.Lists.{Lists}
use Rattle.access_core.specs.declared.lists.Side.{Side}
use Rattle.access_core.specs.declared.lists.Side.TheVariants as sides

-- the list of those that wait until the writer's bit is clear, and that of who waits until no reader is inside
abbrev pub readers_of : Lists → Listed
readers_of lists = listed_in lists.readers

abbrev pub writer_of : Lists → Listed
writer_of lists = listed_in lists.writer

-- the list of this name, and the name of the other
abbrev pub list_of : Side → Lists → Listed
list_of sides.Readers lists = readers_of lists
list_of sides.Writer lists = writer_of lists

abbrev pub other : Side → Side
other sides.Readers = sides.Writer
other sides.Writer = sides.Readers

-- That became of the list of this name, and the other is as it was.
abbrev pub Changes : (Listed → Listed → Type 0) → Side → Lists → Lists → Type 0
Changes Becomes side old new = Becomes (list_of side old) (list_of side new) × (list_of (other side) new ≡ list_of (other side) old)

-- a word that may be written as the lists are given back
abbrev pub Says : Lists → ℕ → Type 0
Says lists n = (n % 4 ≡ 0) × (SaysEmpty n → ((readers_of lists).waiting ≡ []) × ((writer_of lists).waiting ≡ []))

-- The seat may give the lists back with this word: that became of the list of this name since it took them out, and the other stays.
abbrev pub CanGive : (Listed → Listed → Type 0) → Side → Me Lists View → ℕ → Type 0
CanGive Becomes sides.Readers m n = (lists : Lists) × Out readers_of writer_of m n lists × Becomes m.0.readers (readers_of lists) × Stays m.0.writer (writer_of lists)
CanGive Becomes sides.Writer m n = (lists : Lists) × Out readers_of writer_of m n lists × Stays m.0.readers (readers_of lists) × Becomes m.0.writer (writer_of lists)
