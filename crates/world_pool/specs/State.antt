-- What callers see of a pool's World: its items and leases, the semaphore and the list's lock, and how each party stands.
use Rattle.std.specs.Prelude.{◌≡◌, ℕ, ◌-◌, Bool, false, List, Option, None, slice_index_or, replicate, length}
use Rattle.lock_event.specs.declared.event.Entry.{Entry}
use Rattle.world_base.specs.Rosters.{is_on}
use Rattle.world_base.specs.Standings.{Standing, outside, forgotten}
use Rattle.world_base.specs.declared.standing.Rest.TheVariants.{Idle}
use Rattle.world_base.specs.table.Tables.{Table, new_table}
use Rattle.world_mutex.specs.machine.Mutex.{Mutex, new_mutex, course_at as lock_course}
use Rattle.world_mutex.specs.machine.Course as lock
use Rattle.world_semaphore.specs.machine.Permits.{Permits as Semaphore, new_permits, course_at as permit_course}
use Rattle.world_semaphore.specs.machine.Course as permit
use Rattle.world_semaphore.specs.machine.Seats.{guard_of}
use Rattle.world_pool.specs.declared.world.ListName.{ListName}
use Rattle.world_pool.specs.declared.world.ListName.TheVariants.{Permits, Lock}
use Rattle.world_pool.specs.machine.Machine.{Pool, new_pool, numbered, lease_at}

-- The items in the list, the item that each party has leased, the semaphore and the list's lock, as those see them who build on one; for each party whether it gives, and whether it is a pending take that has a permit; and how each party stands. What stands behind the World is named by no clause but that of its own step, and that of the reader of places for tests.
pub record World : Type 0 where
  pub items : List ℕ
  pub leases : List (Option ℕ)
  pub semaphore : Semaphore
  pub lock : Mutex
  pub giving : List Bool
  pub seeking : List Bool
  pub standings : List Standing
  pub behind : Table Pool

-- A party past the table stands as one that is forgotten, and has no lease.
abbrev pub standing_of : World → ℕ → Standing
standing_of w p = slice_index_or w.standings p forgotten

abbrev pub lease_of : World → ℕ → Option ℕ
lease_of w p = lease_at w.leases p

-- The party gives: its give is pending, or its poll has still to give the permit back.
abbrev pub gives : World → ℕ → Bool
gives w p = is_on w.giving p

-- The party's take is pending, and has a permit.
abbrev pub seeks : World → ℕ → Bool
seeks w p = is_on w.seeking p

-- How many permits are available, and how many there are: of so many items nothing is lost.
abbrev pub available : World → ℕ
available w = w.semaphore.words.available

abbrev pub limit : World → ℕ
limit w = w.semaphore.words.limit

-- With how many items the pool was made, and how many of them are lost.
abbrev pub made : World → ℕ
made w = w.semaphore.words.most

abbrev pub lost : World → ℕ
lost w = made w - limit w

-- The list of this name.
abbrev pub list_in : ListName → World → List (Entry ℕ)
list_in Permits w = w.semaphore.entries
list_in Lock w = w.lock.entries

-- The party has a permit of the semaphore; it holds the list's lock.
abbrev pub HasPermit : World → ℕ → Type 0
HasPermit w p = permit.share (permit_course w.semaphore.courses p) ≡ guard_of 1

abbrev pub HoldsLock : World → ℕ → Type 0
HoldsLock w p = lock.holds (lock_course w.lock.courses p) ≡ 1

-- As it is made, for so many parties and of so many items, from 0 on: all are in the list, all permits are available, nobody holds the lock, and each party is idle.
abbrev pub new_world : ℕ → ℕ → ℕ → World
new_world parties items starved = record {
  items = numbered items;
  leases = replicate parties None;
  semaphore = new_permits parties items items;
  lock = new_mutex parties starved;
  giving = replicate parties false;
  seeking = replicate parties false;
  standings = replicate parties (outside Idle);
  behind = new_table (new_pool parties items starved) parties 0;
}

-- The World as it was made, by the numbers that it keeps.
abbrev pub opening_of : World → World
opening_of w = new_world (length w.standings) (made w) w.lock.limit
