-- The word of a mutex, which may stand beside other words in its table.
use Rattle.std.specs.Prelude.{◌≡◌, ℕ, ◌+◌, ◌*◌, ◌<◌, ◌≤◌, Bool, List, length, slice_index}
use Rattle.words_base.specs.Sums.{number}

-- One view at most holds the lock, no more are starved than may be, and the word i says both: it is odd while one holds, and half of it is how many are starved.
abbrev pub IsWord : {V : Type 0} → (V → Bool) → (V → Bool) → ℕ → ℕ → List ℕ → List V → Type 0
IsWord holds starved most i words views = (i < length words) × (number holds views ≤ 1) × (number starved views ≤ most) × (slice_index words i ≡ number holds views + 2 * number starved views)
