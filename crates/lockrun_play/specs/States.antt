-- The text of each lock's state, up to its lists.
use Rattle.std.specs.Prelude.{ℕ, Bool, true, false, Option, Some, None, List, ◌++◌, codes, decimal, if◌then◌else◌}

-- a fact, as a digit
abbrev pub flag_text : Bool → List ℕ
flag_text fact = decimal (if fact then 1 else 0)

-- a mutex: whether somebody has it, how many are starved, and the value
abbrev pub mutex_text : Bool → ℕ → ℕ → List ℕ
mutex_text locked starved value = codes "mutex locked=" ++ flag_text locked
    ++ codes " starved=" ++ decimal starved
    ++ codes " value=" ++ decimal value

-- a read-write lock: whether somebody has the turn, how many are starved for it, whether a party waits to write or writes, how many read, and the value
abbrev pub rwlock_text : Bool → ℕ → Bool → ℕ → ℕ → List ℕ
rwlock_text turn starved writer readers value = codes "rwlock turn=" ++ flag_text turn
    ++ codes " starved=" ++ decimal starved
    ++ codes " writer=" ++ flag_text writer
    ++ codes " readers=" ++ decimal readers
    ++ codes " value=" ++ decimal value

-- a semaphore: how many permits are available, and the limit
abbrev pub semaphore_text : ℕ → ℕ → List ℕ
semaphore_text available limit = codes "semaphore available=" ++ decimal available
    ++ codes " limit=" ++ decimal limit

-- a pool: how many permits are available, and how many there are
abbrev pub pool_text : ℕ → ℕ → List ℕ
pool_text available limit = codes "pool available=" ++ decimal available
    ++ codes " limit=" ++ decimal limit

-- and of the lock of its list whether somebody has it, and how many are starved for it
abbrev pub pool_lock_text : Bool → ℕ → List ℕ
pool_lock_text locked starved = codes " locked=" ++ flag_text locked
    ++ codes " starved=" ++ decimal starved

-- a once-cell: the value, or where there is none whether one is being made
abbrev pub cell_text : Option ℕ → Bool → List ℕ
cell_text (Some value) making = codes "cell full " ++ decimal value
cell_text None true = codes "cell making"
cell_text None false = codes "cell empty"

-- a barrier: how many have arrived of the generation, how many generations are finished, whether somebody has the inner lock, and how many are starved for it
abbrev pub barrier_text : ℕ → ℕ → Bool → ℕ → List ℕ
barrier_text count generation locked starved = codes "barrier count=" ++ decimal count
    ++ codes " generation=" ++ decimal generation
    ++ codes " locked=" ++ flag_text locked
    ++ codes " starved=" ++ decimal starved
