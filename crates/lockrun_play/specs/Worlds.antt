-- What the World that stands in a run does, of whichever lock it is.
use Rattle.std.specs.Prelude.{◌≡◌, ℕ, List}
use Rattle.world_mutex.specs.State as mutex
use Rattle.world_mutex.specs.Steps as mutex_steps
use Rattle.world_mutex.specs.Whole as mutex_whole
use Rattle.world_mutex.specs.Bound as mutex_bound
use Rattle.world_rwlock.specs.State as rwlock
use Rattle.world_rwlock.specs.Steps as rwlock_steps
use Rattle.world_rwlock.specs.Whole as rwlock_whole
use Rattle.world_rwlock.specs.Bound as rwlock_bound
use Rattle.world_semaphore.specs.State as semaphore
use Rattle.world_semaphore.specs.Steps as semaphore_steps
use Rattle.world_semaphore.specs.Whole as semaphore_whole
use Rattle.world_semaphore.specs.Bound as semaphore_bound
use Rattle.world_once_cell.specs.State as cell
use Rattle.world_once_cell.specs.Steps as cell_steps
use Rattle.world_once_cell.specs.Whole as cell_whole
use Rattle.world_once_cell.specs.Bound as cell_bound
use Rattle.world_barrier.specs.State as barrier
use Rattle.world_barrier.specs.Steps as barrier_steps
use Rattle.world_barrier.specs.Whole as barrier_whole
use Rattle.world_barrier.specs.Bound as barrier_bound
use Rattle.world_pool.specs.State as pool
use Rattle.world_pool.specs.Steps as pool_steps
use Rattle.world_pool.specs.Whole as pool_whole
use Rattle.world_pool.specs.Bound as pool_bound
use Rattle.lockrun_script.specs.declared.command.Request.{Request}
use Rattle.lockrun_play.specs.declared.world.World.{World}
use Rattle.lockrun_play.specs.declared.world.World.TheVariants.{Mutex, RwLock, Semaphore, Cell, Barrier, Pool}
use Rattle.lockrun_play.specs.Mutex as mutex_played
use Rattle.lockrun_play.specs.RwLock as rwlock_played
use Rattle.lockrun_play.specs.Semaphore as semaphore_played
use Rattle.lockrun_play.specs.Cell as cell_played
use Rattle.lockrun_play.specs.Barrier as barrier_played
use Rattle.lockrun_play.specs.Pool as pool_played
use Rattle.lockrun_play.specs.Requests.{Does}

-- what is asked for leads to a World of the same lock, and is answered by this text
abbrev pub CarriesOut : Request → World → World → List ℕ → Type 0
CarriesOut request (Mutex old) new text = (v : mutex.World) × (new ≡ Mutex v) × Does mutex_steps.Steps mutex_whole.IsWholeCall mutex_bound.Promises mutex_played.put_gives mutex_played.take_gives mutex_played.text_of request old v text
CarriesOut request (RwLock old) new text = (v : rwlock.World) × (new ≡ RwLock v) × Does rwlock_steps.Steps rwlock_whole.IsWholeCall rwlock_bound.Promises rwlock_played.put_gives rwlock_played.take_gives rwlock_played.text_of request old v text
CarriesOut request (Semaphore old) new text = (v : semaphore.World) × (new ≡ Semaphore v) × Does semaphore_steps.Steps semaphore_whole.IsWholeCall semaphore_bound.Promises semaphore_played.put_gives semaphore_played.take_gives semaphore_played.text_of request old v text
CarriesOut request (Cell old) new text = (v : cell.World) × (new ≡ Cell v) × Does cell_steps.Steps cell_whole.IsWholeCall cell_bound.Promises cell_played.put_gives cell_played.take_gives cell_played.text_of request old v text
CarriesOut request (Barrier old) new text = (v : barrier.World) × (new ≡ Barrier v) × Does barrier_steps.Steps barrier_whole.IsWholeCall barrier_bound.Promises barrier_played.put_gives barrier_played.take_gives barrier_played.text_of request old v text
CarriesOut request (Pool old) new text = (v : pool.World) × (new ≡ Pool v) × Does pool_steps.Steps pool_whole.IsWholeCall pool_bound.Promises pool_played.put_gives pool_played.take_gives pool_played.text_of request old v text
