-- The World that a line makes, and when it makes none.
use Rattle.std.specs.Prelude.{ℕ, ◌<◌, ◌^◌, ◌-◌, Some, unwrap_or}
use Rattle.lockrun_script.specs.Limits.{limit_of}
use Rattle.world_mutex.specs.declared.world.TheConstants.{MOST_STARVED}
use Rattle.world_rwlock.specs.declared.world.TheConstants.{MOST_STARVED_FOR_THE_TURN, MOST_READERS}
use Rattle.world_mutex.specs.State as mutex
use Rattle.world_rwlock.specs.State as rwlock
use Rattle.world_semaphore.specs.State as semaphore
use Rattle.world_once_cell.specs.State as cell
use Rattle.world_barrier.specs.State as barrier
use Rattle.world_pool.specs.State as pool
use Rattle.lock_program.specs.declared.refusal.Refusal.{Refusal}
use Rattle.lock_program.specs.declared.refusal.Refusal.TheVariants.{Memory, Permits}
use Rattle.lockrun_script.specs.declared.command.Model.{Model}
use Rattle.lockrun_script.specs.declared.command.Model.TheVariants as model
use Rattle.lockrun_play.specs.declared.world.World.{World}
use Rattle.lockrun_play.specs.declared.world.World.TheVariants.{Mutex, RwLock, Semaphore, Cell, Barrier, Pool}

-- the World that these numbers describe
abbrev pub world_of : Model → World
world_of (model.Mutex parties value starved) = Mutex (mutex.new_world parties (limit_of starved MOST_STARVED) value)
world_of (model.RwLock parties value starved readers) = RwLock (rwlock.new_world parties (limit_of starved MOST_STARVED_FOR_THE_TURN) (limit_of readers MOST_READERS) value)
world_of (model.Cell parties) = Cell (cell.new_world parties)
world_of (model.Barrier parties size starved generations) = Barrier (barrier.new_world parties size (limit_of starved MOST_STARVED) (unwrap_or generations (2 ^ 64 - 1)))
world_of (model.Pool parties items) = Pool (pool.new_world parties items MOST_STARVED)
world_of (model.Semaphore parties permits most) = Semaphore (semaphore.new_world parties permits (unwrap_or most (2 ^ 64 - 1)))

-- the numbers describe a semaphore with more permits than its limit may be: no World is made of them
abbrev pub HasTooManyPermits : Model → Type 0
HasTooManyPermits (model.Semaphore parties permits (Some most)) = most < permits
HasTooManyPermits _ = ⊥

-- why no World is made: for too many permits, and of other numbers for memory alone
abbrev pub IsRefusedFor : Model → Refusal → Type 0
IsRefusedFor m Permits = HasTooManyPermits m
IsRefusedFor m Memory = ¬ HasTooManyPermits m
IsRefusedFor m _ = ⊥
