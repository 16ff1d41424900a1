-- What contracts see of a guard.
use Rattle.std.specs.Prelude.{ℕ}
use Rattle.async_mutex.specs.declared.mutex.Mutex.{Mutex}

-- the mutex that it holds, by which of that mutex's seats, and the value
pub record Guarded (T R : Type 0) : Type 0 where
  pub mutex : Mutex T R
  pub seat : ℕ
  pub value : T
