-- What contracts see of a guard.
use Rattle.std.specs.Prelude.{ℕ}
use Rattle.async_semaphore.specs.declared.semaphore.Semaphore.{Semaphore}
use Rattle.semaphore_core.specs.Semaphores.{Seated}

-- the semaphore whose permits it has, how many, and the seat that has them, with all that the seat knows of itself
pub record Held (R : Type 0) : Type 0 where
  pub semaphore : Semaphore R
  pub permits : ℕ
  pub seat : Seated
