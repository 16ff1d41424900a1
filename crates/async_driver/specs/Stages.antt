-- How far a future is of a lock that is borrowed or shared, and whose it is.
use Rattle.std.specs.Prelude.{◌≡◌, Bool, true, false, ⊤}
use Rattle.async_driver.specs.declared.stage.Look.{Look}
use Rattle.async_driver.specs.declared.stage.Look.TheVariants.{Got, Vain, NoShare}
use Rattle.async_driver.specs.declared.stage.Stage.{Stage}
use Rattle.async_driver.specs.declared.stage.Stage.TheVariants.{Unowned, Waits, Finished}

abbrev pub is_finished : {O : Type 0} → Stage O → Bool
is_finished Finished = true
is_finished _ = false

-- it waits for this lock
abbrev pub IsOf : {O L : Type 0} → (O → L) → Stage O → L → Type 0
IsOf lock_of (Waits owner) lock = lock ≡ lock_of owner
IsOf lock_of _ lock = ⊥

-- it waits for this lock, or could have no share of it
abbrev pub IsFor : {O L : Type 0} → (O → L) → Stage O → L → Type 0
IsFor lock_of (Waits owner) lock = lock ≡ lock_of owner
IsFor lock_of Unowned lock = ⊤
IsFor lock_of Finished lock = ⊥

-- this holds of the lock that it waits for
abbrev pub AtLock : {O L : Type 0} → (O → L) → Stage O → (L → Type 0) → Type 0
AtLock lock_of (Waits owner) P = P (lock_of owner)
AtLock lock_of _ P = ⊥

-- who has the lock is there
abbrev pub HasShare : {O : Type 0} → Stage O → Type 0
HasShare (Waits owner) = ⊤
HasShare _ = ⊥

-- no share of the lock could be had, or who has it went to what it was ready with
abbrev pub HasNoShare : {O : Type 0} → Stage O → Type 0
HasNoShare (Waits owner) = ⊥
HasNoShare _ = ⊤

-- a first look got what the future is for, or was in vain; nobody looks if who has the lock isn't there
abbrev pub Looks : {O G V : Type 0} → Stage O → (G → Type 0) → (V → Type 0) → Look G V → Type 0
Looks stage got vain (Got g) = got g
Looks stage got vain (Vain v) = vain v
Looks stage got vain NoShare = HasShare stage → ⊥
