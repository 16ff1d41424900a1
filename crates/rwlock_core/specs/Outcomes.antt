-- How polls went.
use Rattle.std.specs.Prelude.{⊤}
use Rattle.lock_program.specs.declared.refusal.Refusal.{Refusal}
use Rattle.lock_program.specs.declared.refusal.Refusal.TheVariants as refusals
use Rattle.access_core.specs.declared.seat.Seat.{Seat}
use Rattle.rwlock_core.specs.declared.party.Outcome.{Outcome}
use Rattle.rwlock_core.specs.declared.party.Outcome.TheVariants as outcome
use Rattle.rwlock_core.specs.declared.party.Awaited.{Awaited}
use Rattle.rwlock_core.specs.declared.party.Awaited.TheVariants as awaited
use Rattle.rwlock_core.specs.declared.party.WaitsToWrite.{WaitsToWrite}

abbrev pub OnOutcome : {G W : Type 0} → Outcome G W → (G → Type 0) → (W → Type 0) → (Refusal → Type 0) → Type 0
OnOutcome (outcome.Got g) got waits refused = got g
OnOutcome (outcome.Waits w) got waits refused = waits w
OnOutcome (outcome.Refused r) got waits refused = refused r

abbrev pub OnAwaited : Awaited → (Seat → Type 0) → (WaitsToWrite → Type 0) → (Seat → Type 0) → Type 0
OnAwaited (awaited.Writes s) writes waits no_memory = writes s
OnAwaited (awaited.Waits w) writes waits no_memory = waits w
OnAwaited (awaited.NoMemory s) writes waits no_memory = no_memory s

-- A read is refused for memory, or for too many readers.
abbrev pub IsReadRefusal : Refusal → Type 0
IsReadRefusal refusals.Memory = ⊤
IsReadRefusal refusals.Readers = ⊤
IsReadRefusal _ = ⊥

-- An upgradable read is refused for memory, too many readers, or too many starved waiters for the turn.
abbrev pub IsUpgradableRefusal : Refusal → Type 0
IsUpgradableRefusal refusals.Memory = ⊤
IsUpgradableRefusal refusals.Readers = ⊤
IsUpgradableRefusal refusals.Starved = ⊤
IsUpgradableRefusal _ = ⊥

-- An upgrade is refused for memory alone.
abbrev pub IsUpgradeRefusal : Refusal → Type 0
IsUpgradeRefusal refusals.Memory = ⊤
IsUpgradeRefusal _ = ⊥

-- A write is refused for memory, or for too many starved waiters for the turn.
abbrev pub IsWriteRefusal : Refusal → Type 0
IsWriteRefusal refusals.Memory = ⊤
IsWriteRefusal refusals.Starved = ⊤
IsWriteRefusal _ = ⊥
