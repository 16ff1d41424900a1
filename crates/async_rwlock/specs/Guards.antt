-- What contracts see of a guard.
use Rattle.std.specs.Prelude.{ℕ, ◌/◌, ◌<◌, Option}
use Rattle.access_core.specs.Accesses.{Seated}
use Rattle.async_rwlock.specs.declared.rwlock.RwLock.{RwLock}

-- the lock that it holds, the value, the seat that has its right, with all that the seat knows of itself, and the number of its seat of
-- the writer lock, if it has that
pub record Held (T R : Type 0) : Type 0 where
  pub lock : RwLock T R
  pub value : T
  pub seat : Seated
  pub turn_seat : Option ℕ

-- Its seat came in where it found fewer readers than its lock's own limit.
abbrev pub HasFoundRoom : {T R : Type 0} → Held T R → Type 0
HasFoundRoom guard = guard.seat.found / 2 < guard.lock.raw.access.limit
