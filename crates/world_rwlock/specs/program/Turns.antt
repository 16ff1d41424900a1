-- What an action does to the turn: a step of its party's call on the turn's mutex, or nothing.
use Rattle.std.specs.Prelude.{◌≡◌, ℕ, Bool}
use Rattle.world_mutex.specs.machine.Mutex.{Mutex}
pub use Rattle.world_mutex.specs.machine.Steps.{LockBegins, LockGoesOn}
use Rattle.sync_program.specs.declared.rwlock.Action.{Action}
use Rattle.sync_program.specs.declared.rwlock.Action.TheVariants as act
use Rattle.sync_program.specs.declared.rwlock.Found.{Found}
use Rattle.sync_program.specs.declared.rwlock.Found.TheVariants.{Turn}

abbrev pub OnTurn : Bool → Bool → ℕ → Action → Found → Mutex → Mutex → Type 0
OnTurn memory starving p (act.Begin c) (Turn s) old new = LockBegins memory starving p c s old new
OnTurn memory starving p (act.Begin c) _ old new = ⊥
OnTurn memory starving p act.Go (Turn s) old new = LockGoesOn memory starving p s old new
OnTurn memory starving p act.Go _ old new = ⊥
OnTurn memory starving p _ f old new = new ≡ old
