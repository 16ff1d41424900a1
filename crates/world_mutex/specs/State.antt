-- What callers see of a mutex's World: its state, its list, and how each party stands.
use Rattle.std.specs.Prelude.{◌≡◌, ℕ, ◌==◌, ◌&&◌, Bool, false, List, [], Option, None, is_none, slice_index_or, replicate, length}
use Rattle.lock_event.specs.declared.event.Entry.{Entry}
use Rattle.lock_event.specs.declared.event.Mark.{Mark}
use Rattle.lock_event.specs.Lists.{mark_at}
use Rattle.world_base.specs.queue.Parties.{is_party, entries_of}
use Rattle.world_base.specs.declared.standing.Rest.TheVariants.{Idle}
use Rattle.world_base.specs.Rosters.{how_many, is_on}
use Rattle.world_base.specs.Standings.{Standing, outside, forgotten}
use Rattle.world_base.specs.table.Tables.{Table, new_table}
use Rattle.world_mutex.specs.Guarded.{Guarded, new_guarded}

-- The holder, if any; for each party whether it is starved; and the value last left.
pub record State : Type 0 where
  pub holder : Option ℕ
  pub starved : List Bool
  pub value : ℕ

-- The state, the list of waiting parties with their marks, how each party stands, how many parties may be starved, and the value that the World was made with. What stands behind the World is named by no clause but that of its own step, and that of the reader of places for tests.
pub record World : Type 0 where
  pub state : State
  pub entries : List (Entry ℕ)
  pub standings : List Standing
  pub limit : ℕ
  pub opening_value : ℕ
  pub behind : Table Guarded

-- A party past the table stands as one that is forgotten: it moves no more.
abbrev pub standing_of : World → ℕ → Standing
standing_of w p = slice_index_or w.standings p forgotten

abbrev pub is_starved : State → ℕ → Bool
is_starved s p = is_on s.starved p

-- Nobody holds the lock, and nobody is starved.
abbrev pub is_free : State → Bool
is_free s = is_none s.holder && (how_many s.starved == 0)

-- What the party has been told in the list, if it stands there.
abbrev pub mark_of : World → ℕ → Option Mark
mark_of w p = mark_at (is_party p) w.entries

-- The party stands in no list, and isn't starved.
abbrev pub IsClear : World → ℕ → Type 0
IsClear w p = (entries_of p w.entries ≡ 0) × (is_starved w.state p ≡ false)

-- As it is made: nobody holds the lock, nobody is starved or listed, and each party is idle.
abbrev pub new_world : ℕ → ℕ → ℕ → World
new_world parties limit value = record {
  state = record { holder = None; starved = replicate parties false; value = value };
  entries = [];
  standings = replicate parties (outside Idle);
  limit = limit;
  opening_value = value;
  behind = new_table (new_guarded parties limit value) parties value;
}

-- The World as it was made, by the numbers that it keeps: how many parties, the limit, and the value.
abbrev pub opening_of : World → World
opening_of w = new_world (length w.standings) w.limit w.opening_value
