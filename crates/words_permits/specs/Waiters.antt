-- Who stands in a semaphore's list.
use Rattle.std.specs.Prelude.{◌≡◌, ℕ, ◌<◌, ◌≤◌, Bool, ◌==◌, List, [], ◌∷◌, refl}
use Rattle.std.specs.Coded.{Coded, code_by, coded×, coded_ℕ, coded_list}
use mathlib.Core.Option.{some}
use lib.ListN.{get_elem?}
use Rattle.words_base.specs.Sums.{number}
use Rattle.words_base.specs.Waiting.{unless}

-- the number of an entry, and for how many permits it waits
pub record Waiter : Type 0 where
  pub entry : ℕ
  pub weight : ℕ

abbrev pub waiter : ℕ → ℕ → Waiter
waiter entry weight = record { entry = entry; weight = weight }

abbrev pub waiter_coded : Coded Waiter
waiter_coded = code_by (ℕ × ℕ) (coded× coded_ℕ coded_ℕ) (λ w. (w.entry, w.weight)) (λ p. record { entry = p.0; weight = p.1 }) (λ _. refl)

abbrev pub waiters_coded : Coded (List Waiter)
waiters_coded = coded_list waiter_coded

-- whether its entry has this number
abbrev pub is_of : ℕ → Waiter → Bool
is_of entry w = w.entry == entry

-- it stands in the list
abbrev pub StandsIn : List Waiter → Waiter → Type 0
StandsIn l w = (k : ℕ) × (get_elem? l k ≡ some w)

-- who joined last
abbrev pub last_or : Waiter → List Waiter → Waiter
last_or w [] = w
last_or w (x ∷ xs) = last_or x xs

-- no entry has this number
abbrev pub HasNo : ℕ → List Waiter → Type 0
HasNo entry l = number (is_of entry) l ≡ 0

-- the numbers of the entries
abbrev pub numbers : List Waiter → List ℕ
numbers [] = []
numbers (w ∷ ws) = w.entry ∷ numbers ws

-- all of a list but the entry of this number
abbrev pub all_but : ℕ → List Waiter → List Waiter
all_but entry [] = []
all_but entry (w ∷ ws) = unless (is_of entry w) w (all_but entry ws)

-- an entry waits for one permit at least, and no two have one number
abbrev pub AreWaiters : List Waiter → Type 0
AreWaiters l = ((w : Waiter) → StandsIn l w → 0 < w.weight) × ((entry : ℕ) → number (is_of entry) l ≤ 1)
