-- Which arrivals lead and which generations are finished, by how many parties a barrier waits for and how many arrivals are counted.
use Rattle.std.specs.Prelude.{◌≡◌, ℕ, zero, suc, ◌*◌, ◌/◌, ◌%◌, ◌≤◌, ◌⊎◌}

-- An arrival leads if the number that the barrier waits for divides its own; where it waits for none, each leads.
abbrev pub Leads : ℕ → ℕ → Type 0
Leads size arrival = (size ≡ 0) ⊎ ((generations : ℕ) × (arrival ≡ size * generations))

-- An arrival's generation is finished once the next multiple of the number that the barrier waits for is counted: some multiple lies from its number up to how many are counted.
abbrev pub IsFinished : ℕ → ℕ → ℕ → Type 0
IsFinished size arrival arrivals = (generations : ℕ) × (arrival ≤ size * generations) × (size * generations ≤ arrivals)

-- How many generations so many arrivals finish, and how many of them are left over towards the next one.
abbrev pub generations_of : ℕ → ℕ → ℕ
generations_of zero arrivals = arrivals
generations_of (suc n) arrivals = arrivals / suc n

abbrev pub count_of : ℕ → ℕ → ℕ
count_of zero arrivals = 0
count_of (suc n) arrivals = arrivals % suc n
