-- What an action does to the inner lock: a step of its party's call there, or nothing.
use Rattle.std.specs.Prelude.{◌≡◌, ℕ}
use Rattle.world_base.specs.declared.moves.Inputs.{Inputs}
use Rattle.lock_program.specs.declared.mutex.LockCall.{LockCall}
use Rattle.lock_program.specs.declared.mutex.Step.{Step as LockStep}
use Rattle.world_mutex.specs.machine.Mutex.{Mutex}
use Rattle.world_mutex.specs.machine.Steps as mutex
use Rattle.sync_program.specs.declared.barrier.Action.{Action}
use Rattle.sync_program.specs.declared.barrier.Action.TheVariants as act
use Rattle.sync_program.specs.declared.barrier.Found.{Found}
use Rattle.sync_program.specs.declared.barrier.Found.TheVariants as found

-- the first step of a call on the inner lock, and a further one
abbrev pub LockBegins : Inputs → ℕ → LockCall → LockStep → Mutex → Mutex → Type 0
LockBegins i = mutex.LockBegins i.memory i.starving

abbrev pub LockGoesOn : Inputs → ℕ → LockStep → Mutex → Mutex → Type 0
LockGoesOn i = mutex.LockGoesOn i.memory i.starving

abbrev pub OnLock : Inputs → ℕ → Action → Found → Mutex → Mutex → Type 0
OnLock i p (act.Begin c) (found.Lock s) old new = LockBegins i p c s old new
OnLock i p (act.Begin c) _ old new = ⊥
OnLock i p act.Go (found.Lock s) old new = LockGoesOn i p s old new
OnLock i p act.Go _ old new = ⊥
OnLock i p _ f old new = new ≡ old
