-- What each step makes of a seat's view.
use Rattle.std.specs.Prelude.{ℕ, true, false}
use Rattle.words_base.specs.Lists.{Listed, nobody}
use Rattle.words_access.specs.Rule.{first_view}
use Rattle.words_access.specs.declared.view.View.{View}

abbrev pub having_found : ℕ → View → View
having_found n v = record v { found = n }

-- A look found the writer's bit set: it owes the readers nothing any more.
abbrev pub saw_writer_of : ℕ → View → View
saw_writer_of n v = record v { owes_readers = false; fresh = false; found = n }

-- A look found readers inside: it owes the writer nothing any more.
abbrev pub saw_readers_of : ℕ → View → View
saw_readers_of n v = record v { owes_writer = false; fresh = false; found = n }

-- It reads, from the state that its exchange found.
abbrev pub reading_of : ℕ → View → View
reading_of n v = record v { reads = true; found = n }

-- It reads no more, and readers are left, or nobody has set the bit.
abbrev pub left_of : ℕ → View → View
left_of n v = record v { reads = false; found = n }

-- It was the last reader, and the writer's bit is set: it has to notify who waits for this.
abbrev pub last_left_of : ℕ → View → View
last_left_of n v = record v { reads = false; owes_writer = true; found = n }

-- It writes, and doesn't read.
abbrev pub writing_of : View → View
writing_of v = record v { marks = true; reads = false; writes = true; owes_writer = false; fresh = false }

-- It has set the writer's bit, beside readers.
abbrev pub marking_of : View → View
marking_of v = record v { marks = true }

-- It has set the writer's bit in place of reading.
abbrev pub upgraded_of : View → View
upgraded_of v = record v { marks = true; reads = false }

-- It reads in place of writing, and has to notify the readers.
abbrev pub down_of : View → View
down_of v = record v { marks = false; writes = false; reads = true; owes_readers = true }

-- It has cleared the writer's bit, and has to notify the readers.
abbrev pub unmarked_of : View → View
unmarked_of v = record v { marks = false; writes = false; owes_readers = true }

-- The lists are empty: it owes nothing any more.
abbrev pub eased_of : View → View
eased_of v = record v { owes_readers = false; owes_writer = false }

abbrev pub listing_of : Listed → Listed → View → View
listing_of readers writer v = record v { has_lists = true; readers = readers; writer = writer }

-- It has given the lists back.
abbrev pub back : View → View
back v = record v { has_lists = false; readers = nobody; writer = nobody }

abbrev pub joined_readers_of : ℕ → View → View
joined_readers_of n v = record v { in_readers = true; fresh = true; entry = n; has_lists = false; readers = nobody; writer = nobody }

abbrev pub joined_writer_of : ℕ → View → View
joined_writer_of n v = record v { in_writer = true; fresh = true; entry = n; has_lists = false; readers = nobody; writer = nobody }

-- Its entry was notified, and has left: it owes that list a notification, or a look.
abbrev pub told_reader_of : View → View
told_reader_of v = record v { in_readers = false; owes_readers = true; has_lists = false; readers = nobody; writer = nobody }

abbrev pub told_writer_of : View → View
told_writer_of v = record v { in_writer = false; owes_writer = true; has_lists = false; readers = nobody; writer = nobody }

-- Its entry has left.
abbrev pub gone_reader_of : View → View
gone_reader_of v = record v { in_readers = false; fresh = false; has_lists = false; readers = nobody; writer = nobody }

abbrev pub gone_writer_of : View → View
gone_writer_of v = record v { in_writer = false; fresh = false; has_lists = false; readers = nobody; writer = nobody }

-- It has notified one.
abbrev pub paid_readers_of : View → View
paid_readers_of v = record v { owes_readers = false; has_lists = false; readers = nobody; writer = nobody }

abbrev pub paid_writer_of : View → View
paid_writer_of v = record v { owes_writer = false; has_lists = false; readers = nobody; writer = nobody }

-- What a seat that writes and one that reads would be as one: a seat that writes, and has not set the writer's bit.
abbrev pub both_of : View → View → View
both_of v w = record v { marks = false; writes = true }

-- It owes the readers nothing any more, since another seat has that duty.
abbrev pub relieved_of : View → View
relieved_of v = record v { owes_readers = false }

-- What the other seat has: the duty to the readers, and nothing else.
abbrev pub duty_view : View
duty_view = record first_view { owes_readers = true }
