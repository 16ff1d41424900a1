-- A read-write lock: where each party stands, who waits in its two lists, and the turn.
use Rattle.std.specs.Prelude.{◌≡◌, ℕ, ◌≤◌, true, List, [], length, slice_index_or, replicate}
use Rattle.lock_event.specs.declared.event.Entry.{Entry}
use Rattle.lock_event.specs.Lists.{marked_count}
use Rattle.world_base.specs.queue.Parties.{entries_of}
use Rattle.world_base.specs.queue.Queues.{Queue}
use Rattle.world_mutex.specs.machine.Mutex.{Mutex, new_mutex, course_at as turn_at}
use Rattle.sync_program.specs.declared.rwlock.Place.{Place}
use Rattle.sync_program.specs.declared.rwlock.Place.TheVariants.{Out}
use Rattle.world_rwlock.specs.declared.program.word.Word.{Word}
use Rattle.world_rwlock.specs.machine.Roles.{reads, marks, only_turns, writes, in_no_writer, waits_no_writer, owes_no_writer, in_no_readers, waits_no_readers, owes_no_readers, fits_turn}
use Rattle.world_rwlock.specs.machine.Tally.{IsSound, tally_of, counts_of}

-- what contracts see of a read-write lock
pub record RwLock : Type 0 where
  pub places : List Place
  pub no_writer : List (Entry ℕ)
  pub no_readers : List (Entry ℕ)
  pub turn : Mutex
  pub limit : ℕ

abbrev pub place_at : List Place → ℕ → Place
place_at ps p = slice_index_or ps p Out

-- free, with every party out
abbrev pub new_rwlock : ℕ → ℕ → ℕ → RwLock
new_rwlock parties starved readers = record { places = replicate parties Out; no_writer = []; no_readers = []; turn = new_mutex parties starved; limit = readers }

-- the same roles, as a call begins
pub record SameRoles (p q : Place) : Type 0 where
  pub reading : reads p ≡ reads q
  pub marking : marks p ≡ marks q
  pub turning : only_turns p ≡ only_turns q
  pub writing : writes p ≡ writes q
  pub standing_w : in_no_writer p ≡ in_no_writer q
  pub waiting_w : waits_no_writer p ≡ waits_no_writer q
  pub owing_w : owes_no_writer p ≡ owes_no_writer q
  pub standing_r : in_no_readers p ≡ in_no_readers q
  pub waiting_r : waits_no_readers p ≡ waits_no_readers q
  pub owing_r : owes_no_readers p ≡ owes_no_readers q
  pub in_turn : fits_turn p ≡ fits_turn q

pub record IsMachine (w : Word) (places : List Place) (l m : Queue) (turn : Mutex) : Type 0 where
  pub sound : IsSound (tally_of w l.entries m.entries) (counts_of places)
  -- each party's place goes with its place in the turn's mutex
  pub in_turn : (p : ℕ) → fits_turn (place_at places p) (turn_at turn.courses p) ≡ true
  -- a party's places in the lists are told by where it stands
  pub no_writer : (p : ℕ) → entries_of p l.entries ≡ in_no_writer (place_at places p)
  pub no_readers : (p : ℕ) → entries_of p m.entries ≡ in_no_readers (place_at places p)
  pub as_many : length turn.courses ≡ length places
  pub as_many_w : l.parties ≡ length places
  pub as_many_r : m.parties ≡ length places
  -- one entry at most is marked in either list
  pub one_told_w : marked_count l.entries ≤ 1
  pub one_told_r : marked_count m.entries ≤ 1
