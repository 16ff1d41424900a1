-- What a try with the turn was in vain by.
use Rattle.std.specs.Prelude.{◌≢◌, ◌≤◌, ◌/◌}
use Rattle.access_core.specs.Accesses.{IsIdle, IsOf}
use Rattle.mutex_core.specs.Courses.{IsOutside}
use Rattle.mutex_core.specs.Locks as turn
use Rattle.rwlock_core.specs.declared.party.InVain.{InVain}
use Rattle.rwlock_core.specs.declared.party.InVain.TheVariants.{Turn, Inside}
use Rattle.rwlock_core.specs.declared.rwlock.RawRwLock.{RawRwLock}

-- whoever has tried has nothing
abbrev pub HasNothing : InVain → Type 0
HasNothing (Turn vain) = IsOutside vain.seat.course
HasNothing (Inside seat) = IsIdle seat

module _ (raw : RawRwLock) where
  -- To read with the turn: the turn was held, or others starved for it; or as many read as may.
  abbrev pub IsVainUpgradable : InVain → Type 0
  IsVainUpgradable (Turn vain) = turn.IsOf raw.turn vain.seat × IsOutside vain.seat.course
  IsVainUpgradable (Inside seat) = IsOf raw.access seat × IsIdle seat × (raw.access.limit ≤ seat.found / 2)

  -- To write: the same of the turn; or somebody was inside.
  abbrev pub IsVainWrite : InVain → Type 0
  IsVainWrite (Turn vain) = turn.IsOf raw.turn vain.seat × IsOutside vain.seat.course
  IsVainWrite (Inside seat) = IsOf raw.access seat × IsIdle seat × (seat.found ≢ 0)
