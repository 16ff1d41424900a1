-- The read-write lock in numbers: its word and its lists, and how many parties have which role.
use Rattle.std.specs.Prelude.{◌≡◌, ℕ, ◌<◌, List, length}
use Rattle.std.specs.List.{sum_by}
use Rattle.lock_event.specs.declared.event.Entry.{Entry}
use Rattle.lock_event.specs.Lists.{marked_count}
use Rattle.world_base.specs.queue.Debts.{IsOwed}
use Rattle.sync_program.specs.declared.rwlock.Place.{Place}
use Rattle.world_rwlock.specs.declared.program.word.Word.{Word}
use Rattle.world_rwlock.specs.machine.Roles.{bit, reads, marks, only_turns, writes, in_no_writer, waits_no_writer, owes_no_writer, in_no_readers, waits_no_readers, owes_no_readers}

-- a list: its length and its marked entries
pub record Size : Type 0 where
  pub length : ℕ
  pub marked : ℕ

-- how many parties stand in a list, wait there and owe it something
pub record Share : Type 0 where
  pub listed : ℕ
  pub waiting : ℕ
  pub owing : ℕ

-- the word, and the two lists
pub record Tally : Type 0 where
  pub writer : ℕ
  pub readers : ℕ
  pub no_writer : Size
  pub no_readers : Size

-- how many parties read, have set the bit, have the turn without it, and write
pub record Counts : Type 0 where
  pub reading : ℕ
  pub marking : ℕ
  pub turning : ℕ
  pub writing : ℕ
  pub no_writer : Share
  pub no_readers : Share

-- a list that is waited in for something free is owed a notification, or has one
pub record IsServed (free : Type 0) (s : Size) (a : Share) : Type 0 where
  pub in_list : a.listed ≡ s.length
  pub owed : IsOwed free a.waiting a.owing s.marked

-- what always holds of the numbers
pub record IsSound (s : Tally) (a : Counts) : Type 0 where
  pub writer : a.marking ≡ s.writer
  pub readers : a.reading ≡ s.readers
  pub alone : 0 < a.writing → s.readers ≡ 0
  pub no_writer : IsServed (s.writer ≡ 0) s.no_writer a.no_writer
  pub no_readers : IsServed (s.readers ≡ 0) s.no_readers a.no_readers

abbrev pub size_of : List (Entry ℕ) → Size
size_of l = record { length = length l; marked = marked_count l }

abbrev pub tally_of : Word → List (Entry ℕ) → List (Entry ℕ) → Tally
tally_of w l m = record { writer = bit w.writer; readers = w.readers; no_writer = size_of l; no_readers = size_of m }

abbrev pub counts_of : List Place → Counts
counts_of ps = record {
  reading = sum_by reads ps;
  marking = sum_by marks ps;
  turning = sum_by only_turns ps;
  writing = sum_by writes ps;
  no_writer = record { listed = sum_by in_no_writer ps; waiting = sum_by waits_no_writer ps; owing = sum_by owes_no_writer ps };
  no_readers = record { listed = sum_by in_no_readers ps; waiting = sum_by waits_no_readers ps; owing = sum_by owes_no_readers ps };
}
