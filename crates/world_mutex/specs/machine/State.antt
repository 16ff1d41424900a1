-- A mutex as those see it who don't know its places: who holds it, and who is starved.
use Rattle.std.specs.Prelude.{ℕ, ◌+◌, if◌then◌else◌, Bool, List, [], ◌∷◌, map, Option, Some, None}
use Rattle.lock_program.specs.declared.mutex.Place.{Place}
pub use Rattle.lock_program.specs.MutexRoles.{is_holder, is_counted}
use Rattle.world_mutex.specs.machine.Machine.{Lock}

-- the first of which this is so, counted from n
abbrev pub first_from : {A : Type 0} → (A → Bool) → ℕ → List A → Option ℕ
first_from test n [] = None
first_from test n (x ∷ xs) = if test x then Some n else first_from test (n + 1) xs

-- the first party that holds the lock, counted from n
abbrev pub holder_from : ℕ → List Place → Option ℕ
holder_from n ps = first_from is_holder n ps

-- The party that holds the lock, if any; and for each party whether it is starved.
abbrev pub holder_of : Lock → Option ℕ
holder_of l = holder_from 0 l.places

abbrev pub starved_of : Lock → List Bool
starved_of l = map is_counted l.places
