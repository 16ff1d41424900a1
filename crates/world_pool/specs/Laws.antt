-- What always holds of a pool's World, between any two moves.
use Rattle.std.specs.Prelude.{◌≡◌, ℕ, ◌+◌, ◌<◌, Bool, length, Some}
use Rattle.std.specs.List.{list_all}
use Rattle.lock_event.specs.Lists.{marked_count}
use Rattle.world_base.specs.Rosters.{how_many}
use Rattle.world_base.specs.Standings.{is_outside}
use Rattle.world_base.specs.queue.Parties.{entries_of}
use Rattle.world_mutex.specs.machine.Alone.{IsCalled as IsCalledThere}
use Rattle.world_mutex.specs.machine.Mutex.{IsMutex, holders, IsStarved}
use Rattle.world_semaphore.specs.machine.Permits.{IsPermits, IsFreeAndWanted}
use Rattle.world_semaphore.specs.machine.Calls.{IsCalled}
use Rattle.world_pool.specs.machine.Machine.{AreDifferent, how_many_leased}
use Rattle.world_pool.specs.State.{World, standing_of, lease_of, available, limit, made, lost, HasPermit}
use Rattle.world_pool.specs.Legal.{HasItsOwn}

-- Each party has what its standing says. The items in the list and those leased are pairwise different, and with the lost ones they are as many as were made; those in the list and those leased are as many as there are permits; and whoever has leased an item has a permit. The semaphore and the lock are what their contracts say: so no notification is lost, also inside calls.
pub record IsSound (w : World) : Type 0 where
  pub each : (p : ℕ) → HasItsOwn w p (standing_of w p)
  pub different : AreDifferent (made w) w.items w.leases
  pub all : length w.items + how_many_leased w.leases + lost w ≡ made w
  pub counted : length w.items + how_many_leased w.leases ≡ limit w
  pub permits : (p i : ℕ) → lease_of w p ≡ Some i → HasPermit w p
  pub semaphore : IsPermits w.semaphore
  pub lock : IsMutex w.lock

-- Nobody is inside a call.
abbrev pub is_at_rest : World → Bool
is_at_rest w = list_all is_outside w.standings

-- At rest nobody holds the list's lock; the list has as many items as permits are available and pending takes have; and no notification is lost: where a permit is available that somebody waits for, some entry of the semaphore's list is marked, and where somebody waits for the lock, some entry of the lock's list is.
pub record IsAwake (w : World) : Type 0 where
  pub free : holders w.lock ≡ 0
  pub balanced : length w.items ≡ available w + how_many w.seeking
  pub acquires : IsFreeAndWanted w.semaphore → 0 < marked_count w.semaphore.entries
  -- and it is a pending take's
  pub called : IsFreeAndWanted w.semaphore → (p : ℕ) × IsCalled w.semaphore p
  pub locks : 0 < length w.lock.entries → 0 < marked_count w.lock.entries
  -- of a party that waits for it; and each starved party waits for the lock.
  pub called_there : 0 < length w.lock.entries → (p : ℕ) × IsCalledThere w.lock p
  pub starved : (p : ℕ) → IsStarved w.lock p → 0 < entries_of p w.lock.entries
