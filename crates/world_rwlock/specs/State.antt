-- What callers see of a read-write lock's World: its state, its lists, and how each party stands.
use Rattle.std.specs.Prelude.{◌≡◌, ℕ, ◌==◌, ◌&&◌, ◌+◌, Bool, true, false, List, [], Option, Some, None, slice_index_or, replicate, length}
use Rattle.lock_event.specs.declared.event.Entry.{Entry}
use Rattle.lock_event.specs.declared.event.Mark.{Mark}
use Rattle.lock_event.specs.Lists.{mark_at}
use Rattle.world_base.specs.queue.Parties.{is_party, entries_of}
use Rattle.world_base.specs.declared.standing.Rest.TheVariants.{Idle}
use Rattle.world_base.specs.Rights.{Right, upgradable, write}
use Rattle.world_base.specs.Rosters.{how_many, is_on}
use Rattle.world_base.specs.Standings.{Standing, outside, forgotten}
use Rattle.world_base.specs.table.Tables.{Table, new_table}
use Rattle.world_rwlock.specs.Guarded.{Guarded, new_guarded}

-- The turn: nobody has it, or one party that takes or leaves it, is upgradable, waits to write, or writes.
pub data Turn : Type 0 where
  nobody : Turn
  passes : ℕ → Turn
  is_upgradable : ℕ → Turn
  waits_to_write : ℕ → Turn
  writes : ℕ → Turn

-- For each party whether it reads; who has the turn; for each party whether it is starved for the turn; and the value last left. An upgradable party reads too.
pub record State : Type 0 where
  pub readers : List Bool
  pub turn : Turn
  pub starved : List Bool
  pub value : ℕ

-- What a party has given up and hasn't told of yet: the turn; the writer's bit, of which those are told that wait to read; and the right of the last reader, of which the one is told that waits to write.
pub record Owing : Type 0 where
  pub turn : Bool
  pub readers : Bool
  pub writer : Bool

abbrev pub nothing_owed : Owing
nothing_owed = record { turn = false; readers = false; writer = false }

-- The state, the lists of those that wait for the turn, until no reader is left, and until no writer is, each entry with its mark; how each party stands, the right that its call, future or guard is for, whether its future is an upgrade's, and what it has still to tell of; how many parties may be starved and how many may read; and the value that the World was made with. What stands behind the World is named by no clause but that of its own step, and that of the readers of places for tests.
pub record World : Type 0 where
  pub state : State
  pub turn_list : List (Entry ℕ)
  pub no_readers : List (Entry ℕ)
  pub no_writer : List (Entry ℕ)
  pub standings : List Standing
  pub sought : List (Option Right)
  pub upgraders : List Bool
  pub owing : List Owing
  pub starved_limit : ℕ
  pub readers_limit : ℕ
  pub opening_value : ℕ
  pub behind : Table Guarded

-- The lists: of those that wait for the turn, of the one that waits until no reader is left, and of readers that wait until no writer is.
pub data ListName : Type 0 where
  for_the_turn : ListName
  for_no_readers : ListName
  for_no_writer : ListName

abbrev pub list_of : World → ListName → List (Entry ℕ)
list_of w for_the_turn = w.turn_list
list_of w for_no_readers = w.no_readers
list_of w for_no_writer = w.no_writer

-- A party past the table stands as one that is forgotten, and seeks nothing.
abbrev pub standing_of : World → ℕ → Standing
standing_of w p = slice_index_or w.standings p forgotten

abbrev pub sought_by : World → ℕ → Option Right
sought_by w p = slice_index_or w.sought p None

abbrev pub reads : World → ℕ → Bool
reads w p = is_on w.state.readers p

abbrev pub is_starved : World → ℕ → Bool
is_starved w p = is_on w.state.starved p

abbrev pub is_upgrader : World → ℕ → Bool
is_upgrader w p = is_on w.upgraders p

-- The party has to tell one in this list, since it gave up what those wait for that stand there.
abbrev pub owes_in : ListName → Owing → Bool
owes_in for_the_turn o = o.turn
owes_in for_no_writer o = o.readers
owes_in for_no_readers o = o.writer

abbrev pub has_to_tell : ListName → World → ℕ → Bool
has_to_tell list w p = owes_in list (slice_index_or w.owing p nothing_owed)

abbrev pub how_many_read : World → ℕ
how_many_read w = how_many w.state.readers

-- A party waits to write, or writes: the writer's bit is set.
abbrev pub is_marked : Turn → Bool
is_marked (waits_to_write p) = true
is_marked (writes p) = true
is_marked _ = false

abbrev pub is_nobody : Turn → Bool
is_nobody nobody = true
is_nobody _ = false

-- Nobody has the turn, and nobody is starved for it.
abbrev pub is_turn_free : State → Bool
is_turn_free s = is_nobody s.turn && (how_many s.starved == 0)

-- The party has the turn, for whatever.
abbrev pub HasTurn : Turn → ℕ → Type 0
HasTurn nobody p = ⊥
HasTurn (passes q) p = q ≡ p
HasTurn (is_upgradable q) p = q ≡ p
HasTurn (waits_to_write q) p = q ≡ p
HasTurn (writes q) p = q ≡ p

-- For this right one takes the turn first.
abbrev pub is_for_turn : Option Right → Bool
is_for_turn (Some upgradable) = true
is_for_turn (Some write) = true
is_for_turn s = false

-- How many entries a party has in all three lists.
abbrev pub entries_in : World → ℕ → ℕ
entries_in w p = entries_of p w.turn_list + entries_of p w.no_readers + entries_of p w.no_writer

-- What the party has been told in a list, if it stands there.
abbrev pub told_in : List (Entry ℕ) → ℕ → Option Mark
told_in l p = mark_at (is_party p) l

-- The party stands in no list, and isn't starved.
abbrev pub IsClear : World → ℕ → Type 0
IsClear w p = (entries_in w p ≡ 0) × (is_starved w p ≡ false)

-- As it is made: nobody reads or has the turn, nobody is starved or listed, and each party is idle.
abbrev pub new_world : ℕ → ℕ → ℕ → ℕ → World
new_world parties starved readers value = record {
  state = record { readers = replicate parties false; turn = nobody; starved = replicate parties false; value = value };
  turn_list = [];
  no_readers = [];
  no_writer = [];
  standings = replicate parties (outside Idle);
  sought = replicate parties None;
  upgraders = replicate parties false;
  owing = replicate parties nothing_owed;
  starved_limit = starved;
  readers_limit = readers;
  opening_value = value;
  behind = new_table (new_guarded parties starved readers value) parties value;
}

-- The World as it was made, by the numbers that it keeps: how many parties, the limits, and the value.
abbrev pub opening_of : World → World
opening_of w = new_world (length w.standings) w.starved_limit w.readers_limit w.opening_value
