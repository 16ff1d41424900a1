-- The writer lock, with a memo of the value.
use Rattle.std.specs.Prelude.{◌≡◌}
use Rattle.mutex_core.specs.Locks.{IsOf}
use Rattle.access_vault.specs.declared.memo.Memo.{Memo}
use Rattle.async_rwlock.specs.declared.noted.NotedTurn.{NotedTurn}
use Rattle.async_rwlock.specs.declared.rwlock.RwLock.{RwLock}

-- The memo is of the lock's value, and was given for the right to the room that the writer lock had when it was made.
abbrev pub IsMemoOf : {T R : Type 0} → RwLock T R → Memo T → Type 0
IsMemoOf lock memo = (memo.vault_id ≡ lock.vault.vault_id) × (lock.raw.turn.room ≡ lock.raw.turn.right.room)

-- So is it, and the seat is one of the writer lock.
abbrev pub IsNotedOf : {T R : Type 0} → RwLock T R → NotedTurn T → Type 0
IsNotedOf lock noted = IsOf lock.raw.turn noted.turn.seat × IsMemoOf lock noted.memo
