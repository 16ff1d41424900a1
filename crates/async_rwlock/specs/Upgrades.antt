-- How a poll of an upgrade by who has the lock went.
use Rattle.std.specs.Prelude.{◌≡◌, ℕ, Option, Some, None}
use Rattle.futures.specs.Task.{Covers}
use Rattle.futures.specs.declared.task.context.Context.{Context}
use Rattle.access_vault.specs.declared.memo.Memo.{Memo}
use Rattle.rwlock_core.specs.Parties.{AreSeatsOf}
use Rattle.rwlock_core.specs.declared.party.Upgraded.{Upgraded}
use Rattle.rwlock_core.specs.declared.party.Upgraded.TheVariants.{Got, Waits, NoMemory}
use Rattle.rwlock_core.specs.declared.party.Begun.{Begun}
use Rattle.rwlock_core.specs.declared.party.Begun.TheVariants.{Writes, Awaits}
use Rattle.rwlock_core.specs.declared.party.WaitsToWrite.{WaitsToWrite}
use Rattle.async_driver.specs.declared.turn.Turn.{Turn}
use Rattle.async_driver.specs.declared.turn.Turn.TheVariants.{Pending, Ready, Refused}
use Rattle.async_rwlock.specs.Guards.{Held}
use Rattle.async_rwlock.specs.Stages.{Listed, At, HasReceiptAt, WaitsAt, upgrades_entry}
use Rattle.async_rwlock.specs.declared.noted.NotedTurn.{NotedTurn}
use Rattle.async_rwlock.specs.declared.rwlock.RwLock.{RwLock}
use Rattle.async_driver.specs.declared.stage.Stage.{Stage}

abbrev pub OnUpgraded : {O T R : Type 0} → (O → RwLock T R) → Stage O → Context → Upgraded → Type 0
OnUpgraded lock_of stage cx (Got w) = At lock_of stage (λ raw. AreSeatsOf raw w.seat w.turn)
OnUpgraded lock_of stage cx (Waits w held) = At lock_of stage (λ raw. AreSeatsOf raw w.seat held) × HasReceiptAt lock_of stage cx (upgrades_entry (Some (w, held))) × Covers cx (WaitsAt lock_of stage (upgrades_entry (Some (w, held))))
OnUpgraded lock_of stage cx (NoMemory u) = At lock_of stage (λ raw. AreSeatsOf raw u.seat u.turn)

-- what contracts see of the future of an upgrade: how far it is, its entry at the lock, which seat has the right, and the value
pub record Upgrade (O T : Type 0) : Type 0 where
  pub stage : Stage O
  pub waiting : Option Listed
  pub seat : Option ℕ
  pub value : Option T

-- the seat of who has begun an upgrade
abbrev pub begun_seat : Begun → ℕ
begun_seat (Writes w) = w.seat.id
begun_seat (Awaits u) = u.seat.id

-- the seat that has the right, before the first poll or after one that was refused, or while it waits
abbrev pub upgrading_seat : {T : Type 0} → Option (Begun × Memo T) → Option (WaitsToWrite × NotedTurn T) → Option ℕ
upgrading_seat (Some b) waiting = Some (begun_seat b.0)
upgrading_seat None (Some w) = Some w.0.seat.id
upgrading_seat None None = None

-- and the value that it has noted meanwhile
abbrev pub upgrading_value : {T : Type 0} → Option (Begun × Memo T) → Option (WaitsToWrite × NotedTurn T) → Option T
upgrading_value (Some b) waiting = Some b.1.value
upgrading_value None (Some w) = Some w.1.memo.value
upgrading_value None None = None

-- Ready, the guard has the seat that the future had, and the value; pending or refused, the future has them still.
abbrev pub IsSameRight : {O T R : Type 0} → Turn (Held T R) → Upgrade O T → Upgrade O T → Type 0
IsSameRight (Ready guard) old new = (old.seat ≡ Some guard.seat.id) × (old.value ≡ Some guard.value)
IsSameRight Pending old new = (new.seat ≡ old.seat) × (new.value ≡ old.value)
IsSameRight (Refused refusal) old new = (new.seat ≡ old.seat) × (new.value ≡ old.value)
