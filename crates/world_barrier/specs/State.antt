-- What callers see of a barrier's World: how many arrivals are counted, each party's wait, its inner lock and its lists, and how each party stands.
use Rattle.std.specs.Prelude.{◌≡◌, ℕ, ◌==◌, ◌&&◌, Bool, false, List, [], Option, Some, None, is_none, slice_index_or, replicate, length}
use Rattle.lock_event.specs.declared.event.Entry.{Entry}
use Rattle.lock_event.specs.declared.event.Mark.{Mark}
use Rattle.lock_event.specs.Lists.{mark_at}
use Rattle.world_base.specs.queue.Parties.{is_party, entries_of}
use Rattle.world_base.specs.declared.standing.Rest.TheVariants.{Idle}
use Rattle.world_base.specs.Rosters.{how_many, is_on}
use Rattle.world_base.specs.Standings.{Standing, outside, forgotten}
use Rattle.world_base.specs.table.Tables.{Table, new_table}
use Rattle.world_barrier.specs.machine.Waits.{Wait, no_wait}
use Rattle.world_barrier.specs.machine.Machine.{Barrier, new_barrier}
use Rattle.world_barrier.specs.declared.world.ListName.{ListName}
use Rattle.world_barrier.specs.declared.world.ListName.TheVariants.{Lock, Generation}

-- The inner lock: its holder, if any, and for each party whether it is starved.
pub record LockState : Type 0 where
  pub holder : Option ℕ
  pub starved : List Bool

-- For how many parties the barrier waits, how many may be starved and how many generations finished. How many arrivals are counted, and each party's wait with its arrival's number; the inner lock; for each party whether it has released the lock, and hasn't told one of those yet that wait for it; the list of those that wait for the lock, and that of those that wait for their generation, with their marks; and how each party stands. What stands behind the World is named by no clause but that of its own step, and that of the readers of places for tests.
pub record World : Type 0 where
  pub size : ℕ
  pub starved_limit : ℕ
  pub generations_limit : ℕ
  pub arrivals : ℕ
  pub waits : List Wait
  pub lock : LockState
  pub releasing : List Bool
  pub lock_list : List (Entry ℕ)
  pub list : List (Entry ℕ)
  pub standings : List Standing
  pub behind : Table Barrier

-- The list of this name.
abbrev pub list_in : ListName → World → List (Entry ℕ)
list_in Lock w = w.lock_list
list_in Generation w = w.list

-- A party past the table stands as one that is forgotten, and has no wait.
abbrev pub standing_of : World → ℕ → Standing
standing_of w p = slice_index_or w.standings p forgotten

abbrev pub wait_of : World → ℕ → Wait
wait_of w p = slice_index_or w.waits p no_wait

abbrev pub is_starved : LockState → ℕ → Bool
is_starved s p = is_on s.starved p

-- The party has released the inner lock, and has to tell one of those that wait for it.
abbrev pub has_to_tell : World → ℕ → Bool
has_to_tell w p = is_on w.releasing p

-- This party holds the inner lock.
abbrev pub is_held_by : Option ℕ → ℕ → Bool
is_held_by None p = false
is_held_by (Some q) p = q == p

-- Nobody holds the inner lock, and nobody is starved for it.
abbrev pub is_free : LockState → Bool
is_free s = is_none s.holder && (how_many s.starved == 0)

-- What the party has been told in this list, if it stands there.
abbrev pub told_in : ListName → World → ℕ → Option Mark
told_in list w p = mark_at (is_party p) (list_in list w)

-- The party stands in no list, isn't starved, and doesn't hold the inner lock.
pub record IsClear (w : World) (p : ℕ) : Type 0 where
  pub lists : (list : ListName) → entries_of p (list_in list w) ≡ 0
  pub starved : is_starved w.lock p ≡ false
  pub lock : w.lock.holder ≡ Some p → ⊥

-- As it is made, for so many parties: it waits for this many, so many may be starved and so many generations finished. Nobody has arrived, holds the lock or has just released it, is starved or listed, and each party is idle.
abbrev pub new_world : ℕ → ℕ → ℕ → ℕ → World
new_world parties size starved most = record {
  size = size;
  starved_limit = starved;
  generations_limit = most;
  arrivals = 0;
  waits = replicate parties no_wait;
  lock = record { holder = None; starved = replicate parties false };
  releasing = replicate parties false;
  lock_list = [];
  list = [];
  standings = replicate parties (outside Idle);
  behind = new_table (new_barrier parties size starved most) parties 0;
}

-- The World as it was made, by the numbers that it keeps.
abbrev pub opening_of : World → World
opening_of w = new_world (length w.standings) w.size w.starved_limit w.generations_limit
