-- Trees of least weights over places.
use Rattle.std.specs.Prelude.{◌≡◌, ◌≢◌, ℕ, ◌+◌, ◌*◌, ◌^◌, ◌<◌, ◌≤◌, min, List, length, slice_index, Option, Some, None}

-- What a contract sees of a tree: what each place weighs, and how many nodes stand on the way from the root to a place.
pub record Weights : Type 0 where
  pub weights : List ℕ
  pub path : ℕ

-- The node at this number weighs as much as the lighter one of its children.
abbrev pub IsLeastAt : List ℕ → ℕ → Type 0
IsLeastAt nodes at = slice_index nodes at ≡ min (slice_index nodes (2 * at)) (slice_index nodes (2 * at + 1))

-- Each inner node does, but for this one.
abbrev pub AreLeastBut : List ℕ → ℕ → ℕ → Type 0
AreLeastBut nodes places odd = (at : ℕ) → 0 < at → at < places → at ≢ odd → IsLeastAt nodes at

abbrev pub AreLeast : List ℕ → ℕ → Type 0
AreLeast nodes places = (at : ℕ) → 0 < at → at < places → IsLeastAt nodes at

-- A complete tree: the root is node 1, and the places are the nodes from `places` on.
pub record IsTree (nodes : List ℕ) (places path : ℕ) : Type 0 where
  pub count : length nodes ≡ 2 * places
  pub complete : 0 < places → 2 ^ path ≡ 2 * places
  pub none : places ≡ 0 → path ≡ 0
  pub least : AreLeast nodes places

-- This is the first place that weighs at most a, if there is one.
abbrev pub IsFirstPlace : ℕ → List ℕ → Option ℕ → Type 0
IsFirstPlace a weights None = (k : ℕ) → k < length weights → a < slice_index weights k
IsFirstPlace a weights (Some place) = (place < length weights) × (slice_index weights place ≤ a) × ((k : ℕ) → k < place → a < slice_index weights k)
