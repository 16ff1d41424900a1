-- What callers see of a read-write lock's table, party by party.
use Rattle.world_rwlock.proofs.Prelude.{◌≡◌, ℕ, false, List, map, get_or, None, refl, sum_by, Stage, how_many, IsTable, mapped_at, Place, Ending, bit, reads, RwLock, place_at, parties, sought_at, is_reading, is_upgrade}
use Rattle.world_mutex.proofs.of_machine.callers.Rosters as rosters
use Rattle.world_rwlock.specs.Guarded.{Stands}

-- each party may stand where it does
abbrev pub Fits : RwLock → List Stage → ℕ → Type 0
Fits l ss v = IsTable parties Stands (record { lock = l; value = v }) ss

-- ---- rosters

pub reads_at : (xs : List Place) (p : ℕ) → get_or (map is_reading xs) p false ≡ is_reading (place_at xs p)
reads_at xs p = mapped_at is_reading xs p Place.Out

pub upgrades_at : (xs : List Place) (p : ℕ) → get_or (map is_upgrade xs) p false ≡ is_upgrade (place_at xs p)
upgrades_at xs p = mapped_at is_upgrade xs p Place.Out

pub seeks_at : (xs : List Place) (p : ℕ) → get_or (map sought_at xs) p None ≡ sought_at (place_at xs p)
seeks_at xs p = mapped_at sought_at xs p Place.Out

pub reading_bit : (x : Place) → bit (is_reading x) ≡ reads x
reading_bit Place.Out = refl
reading_bit (Place.Made w) = refl
reading_bit Place.Reading = refl
reading_bit Place.Upgradable = refl
reading_bit Place.Writing = refl
reading_bit (Place.EnterRead b) = refl
reading_bit (Place.JoinNoWriter b) = refl
reading_bit (Place.LookNoWriter b) = refl
reading_bit Place.AskNoWriter = refl
reading_bit Place.PassOn = refl
reading_bit Place.LeaveNoWriter = refl
reading_bit (Place.RefuseLeave b) = refl
reading_bit (Place.RefuseNotify r) = refl
reading_bit Place.CancelRead = refl
reading_bit Place.TryRead = refl
reading_bit (Place.EnterTurn p) = refl
reading_bit (Place.WaitTurn p) = refl
reading_bit (Place.TakeTurn p) = refl
reading_bit (Place.TryTurn p) = refl
reading_bit Place.CancelTurn = refl
reading_bit Place.CancellingTurn = refl
reading_bit (Place.ReleaseTurn Ending.GivenBack) = refl
reading_bit (Place.ReleaseTurn (Ending.NotFree q)) = refl
reading_bit (Place.ReleaseTurn Ending.RefuseReaders) = refl
reading_bit (Place.ReleaseTurn Ending.RefuseMemory) = refl
reading_bit (Place.ReleaseTurn Ending.Reading) = refl
reading_bit (Place.ReleaseTurn Ending.NotifyReaders) = refl
reading_bit (Place.ReleasingTurn Ending.GivenBack) = refl
reading_bit (Place.ReleasingTurn (Ending.NotFree q)) = refl
reading_bit (Place.ReleasingTurn Ending.RefuseReaders) = refl
reading_bit (Place.ReleasingTurn Ending.RefuseMemory) = refl
reading_bit (Place.ReleasingTurn Ending.Reading) = refl
reading_bit (Place.ReleasingTurn Ending.NotifyReaders) = refl
reading_bit (Place.Add b) = refl
reading_bit Place.TryUpgrade = refl
reading_bit Place.Upgrade = refl
reading_bit Place.Mark = refl
reading_bit Place.TryWrite = refl
reading_bit (Place.JoinNoReaders b) = refl
reading_bit (Place.LookNoReaders b) = refl
reading_bit (Place.AskNoReaders b) = refl
reading_bit (Place.AwaitNoReaders b) = refl
reading_bit (Place.LookUnlisted b) = refl
reading_bit Place.LeaveNoReaders = refl
reading_bit Place.DropRead = refl
reading_bit Place.DropReadNotify = refl
reading_bit Place.DropUpgradable = refl
reading_bit Place.DropUpgradableNotify = refl
reading_bit Place.DropWrite = refl
reading_bit Place.CancelAwait = refl
reading_bit (Place.Unmark b) = refl
reading_bit (Place.UnmarkNotify b) = refl
reading_bit (Place.Down b) = refl
reading_bit Place.DownNotify = refl
reading_bit Place.DowngradeNotify = refl

pub how_many-read : (xs : List Place) → how_many (map is_reading xs) ≡ sum_by reads xs
how_many-read = rosters.how_many_on reads Place.Out reading_bit refl
