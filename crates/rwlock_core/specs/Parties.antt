-- Which lock a party is of.
use Rattle.std.specs.Prelude.{◌≡◌, ◌/◌, ◌<◌, false}
use Rattle.futures.specs.declared.task.context.Context.{Context}
use Rattle.lock_queue.specs.Receipts.{IsReceipt}
use Rattle.mutex_core.specs.Locks as turn
use Rattle.mutex_core.specs.Outcomes.{IsHeldOf}
use Rattle.access_core.specs.Accesses.{IsInNextCall, IsOf, Seated}
use Rattle.rwlock_core.specs.declared.party.Downgrading.{Downgrading}
use Rattle.rwlock_core.specs.declared.party.Reader.{Reader}
use Rattle.rwlock_core.specs.declared.party.Upgradable.{Upgradable}
use Rattle.rwlock_core.specs.declared.party.Writer.{Writer}
use Rattle.rwlock_core.specs.declared.party.Upgrading.{Upgrading}
use Rattle.rwlock_core.specs.declared.party.WaitsFor.{WaitsFor}
use Rattle.rwlock_core.specs.declared.party.WaitsFor.TheVariants.{Turn, Readers}
use Rattle.rwlock_core.specs.declared.party.Begun.{Begun}
use Rattle.rwlock_core.specs.declared.party.Begun.TheVariants.{Writes, Awaits}
use Rattle.rwlock_core.specs.declared.party.Upgraded.{Upgraded}
use Rattle.rwlock_core.specs.declared.party.Upgraded.TheVariants as upgraded
use Rattle.lock_program.specs.declared.end.Next.TheVariants.{Do}
use Rattle.lock_program.specs.declared.mutex.Place.TheVariants as turn_at
use Rattle.mutex_core.specs.declared.turn.Held.{Held}
use Rattle.mutex_core.specs.declared.turn.Vain.{Vain}
use Rattle.rwlock_core.specs.declared.party.Awaited.{Awaited}
use Rattle.rwlock_core.specs.declared.party.Awaited.TheVariants as awaited
use Rattle.rwlock_core.specs.declared.rwlock.RawRwLock.{RawRwLock}

module _ (raw : RawRwLock) where
  abbrev pub IsReaderOf : Reader → Type 0
  IsReaderOf r = IsOf raw.access r.seat

  abbrev pub IsDowngradingOf : Downgrading → Type 0
  IsDowngradingOf d = IsOf raw.access d.duty

  abbrev pub IsUpgradableOf : Upgradable → Type 0
  IsUpgradableOf u = IsOf raw.access u.seat × IsHeldOf raw.turn u.turn

  -- the same, and it came in where it found fewer readers than the lock's own limit
  abbrev pub IsUpgradableLetIn : Upgradable → Type 0
  IsUpgradableLetIn u = IsUpgradableOf u × (u.seat.found / 2 < raw.access.limit)

  abbrev pub IsWriterOf : Writer → Type 0
  IsWriterOf w = IsOf raw.access w.seat × IsHeldOf raw.turn w.turn

  abbrev pub IsUpgradingOf : Upgrading → Type 0
  IsUpgradingOf u = IsOf raw.access u.seat × IsHeldOf raw.turn u.turn

  -- what a write waits for, at this lock
  abbrev pub WaitsAt : WaitsFor → Type 0
  WaitsAt (Turn w) = turn.IsOf raw.turn w.seat
  WaitsAt (Readers w held) = IsOf raw.access w.seat × IsHeldOf raw.turn held

  -- An entry keeps a waker of the task that polls, which has registered with the source of what it waits for.
  abbrev pub HasReceipt : Context → WaitsFor → Type 0
  HasReceipt cx (Turn w) = IsReceipt raw.turn.source cx w.whose
  HasReceipt cx (Readers w held) = IsReceipt raw.access.source cx w.whose

  -- A seat of this lock, and one of its turn that has that. The right to the turn's room may be elsewhere while they go on together.
  abbrev pub AreSeatsOf : Seated → Held Unit → Type 0
  AreSeatsOf s held = IsOf raw.access s × turn.IsOf raw.turn held.seat

  abbrev pub IsBegunOf : Begun → Type 0
  IsBegunOf (Writes w) = AreSeatsOf w.seat w.turn
  IsBegunOf (Awaits u) = AreSeatsOf u.seat u.turn

  -- how a poll of an upgrade went
  abbrev pub OnUpgraded : Context → Upgraded → Type 0
  OnUpgraded cx (upgraded.Got w) = AreSeatsOf w.seat w.turn
  OnUpgraded cx (upgraded.Waits w held) = AreSeatsOf w.seat held × IsReceipt raw.access.source cx w.whose
  OnUpgraded cx (upgraded.NoMemory u) = AreSeatsOf u.seat u.turn

-- with which turn an upgrade goes on
abbrev pub begun_turn : Begun → Held Unit
begun_turn (Writes w) = w.turn
begun_turn (Awaits u) = u.turn

abbrev pub upgraded_turn : Upgraded → Held Unit
upgraded_turn (upgraded.Got w) = w.turn
upgraded_turn (upgraded.Waits w held) = held
upgraded_turn (upgraded.NoMemory u) = u.turn

-- Whoever waited to write goes on by the same seat of the writer lock and, once it has that lock, by the same seat of the state, in its next call.
abbrev pub WritesOn : WaitsFor → Writer → Type 0
WritesOn (Turn w) writer = turn.IsSameSeat w.seat writer.turn.seat
WritesOn (Readers w held) writer = IsInNextCall w.seat writer.seat × (writer.turn ≡ held)

abbrev pub GoesOnFrom : WaitsFor → WaitsFor → Type 0
GoesOnFrom (Turn w) (Turn v) = turn.IsSameSeat w.seat v.seat
GoesOnFrom (Turn w) (Readers v held) = turn.IsSameSeat w.seat held.seat
GoesOnFrom (Readers w held) (Readers v still) = IsInNextCall w.seat v.seat × (still ≡ held)
GoesOnFrom (Readers w held) (Turn v) = ⊥

-- An upgrade goes on by the same seat, in its next call: as it begins, and as it is polled.
abbrev pub IsBegunBy : Seated → Begun → Type 0
IsBegunBy s (Writes w) = IsInNextCall s w.seat
IsBegunBy s (Awaits u) = IsInNextCall s u.seat

-- It waits until no reader is inside, with this turn.
abbrev pub HasTurn : Held Unit → WaitsFor → Type 0
HasTurn turn (Readers w held) = held ≡ turn
HasTurn turn (Turn w) = ⊥

-- Who writes that has awaited so.
abbrev pub WritesAs : Awaited → Held Unit → Writer → Type 0
WritesAs (awaited.Writes s) turn writer = (writer.seat ≡ s) × (writer.turn ≡ turn)
WritesAs _ turn writer = ⊥

-- What a write waits for that has awaited so that no reader is inside.
abbrev pub WaitsAs : Awaited → Held Unit → WaitsFor → Type 0
WaitsAs (awaited.Waits w) turn (Readers waiting held) = (waiting ≡ w) × (held ≡ turn)
WaitsAs _ turn waits = ⊥

-- What an upgrade has come to that has awaited so.
abbrev pub UpgradesAs : Awaited → Held Unit → Upgraded → Type 0
UpgradesAs (awaited.Writes s) turn (upgraded.Got w) = (w.seat ≡ s) × (w.turn ≡ turn)
UpgradesAs (awaited.Waits w) turn (upgraded.Waits waiting held) = (waiting ≡ w) × (held ≡ turn)
UpgradesAs (awaited.NoMemory s) turn (upgraded.NoMemory u) = (u.seat ≡ s) × (u.turn ≡ turn)
UpgradesAs _ turn upgraded = ⊥

abbrev pub IsUpgradedBy : Seated → Upgraded → Type 0
IsUpgradedBy s (upgraded.Got w) = IsInNextCall s w.seat
IsUpgradedBy s (upgraded.Waits w held) = IsInNextCall s w.seat
IsUpgradedBy s (upgraded.NoMemory u) = IsInNextCall s u.seat

-- It has looked at the turn in vain, as the first action of a poll.
abbrev pub IsTaking : RawRwLock → Vain Unit → Type 0
IsTaking raw vain = turn.IsOf raw.turn vain.seat × (vain.seat.course ≡ Do (turn_at.Join false))
