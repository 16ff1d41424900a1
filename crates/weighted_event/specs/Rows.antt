-- Weights in order of arrival, each under a key.
use Rattle.std.specs.Prelude.{◌≡◌, ℕ, ◌*◌, ◌<◌, ◌≤◌, Bool, false, ◌==◌, ◌||◌, if◌then◌else◌, List, [], ◌∷◌, ◌++◌, length, map, slice_index, slice_index_or, Option, Some, None}
use Rattle.std.specs.List.{All}
use Rattle.weighted_event.specs.declared.row.Item.{Item}

-- What a contract sees of a row: who stands in it, oldest first; how many there may be before one more needs memory; and how many nodes a search visits at most.
pub record Weighed : Type 0 where
  pub items : List Item
  pub room : ℕ
  pub path : ℕ

abbrev pub item : ℕ → ℕ → Item
item k w = record { key = k; weight = w }

-- Whether an item has this key.
abbrev pub is_in : ℕ → List Item → Bool
is_in key [] = false
is_in key (x ∷ xs) = (x.key == key) || is_in key xs

-- The list without the item that has this key.
abbrev pub without : ℕ → List Item → List Item
without key [] = []
without key (x ∷ xs) = if x.key == key then xs else x ∷ without key xs

-- This item stands in the list, weighs at most a, and each item before it weighs more.
pub record StandsFirst (a : ℕ) (items : List Item) (x : Item) : Type 0 where
  pub before : List Item
  pub after : List Item
  pub stands : items ≡ before ++ x ∷ after
  pub heavier : All (λ y. a < y.weight) before
  pub enough : x.weight ≤ a

-- This is the first item that weighs at most a, if there is one.
abbrev pub IsFirstFit : ℕ → List Item → Option Item → Type 0
IsFirstFit a items None = All (λ y. a < y.weight) items
IsFirstFit a items (Some x) = StandsFirst a items x

-- Who stands in these places, in their order.
abbrev pub gathered : List (Option Item) → List Item
gathered [] = []
gathered (None ∷ ps) = gathered ps
gathered (Some x ∷ ps) = x ∷ gathered ps

-- What a place weighs: an empty one weighs more than any weight is.
abbrev pub weight_in : Option Item → ℕ
weight_in None = 18446744073709551616
weight_in (Some x) = x.weight

-- If its key is below the number of keys that are noted, the item that stands in this place is noted there.
abbrev pub IsPlaced : List ℕ → ℕ → Option Item → Type 0
IsPlaced places at None = Unit {0}
IsPlaced places at (Some x) = x.key < length places → slice_index places x.key ≡ at

-- So it is of each item.
abbrev pub AreNoted : List ℕ → List (Option Item) → Type 0
AreNoted places items = (at : ℕ) → IsPlaced places at (slice_index_or items at None)

-- No two places have items of one key.
abbrev pub AreApart : List (Option Item) → Type 0
AreApart items = (at other : ℕ) (x y : Item) → slice_index_or items at None ≡ Some x → slice_index_or items other None ≡ Some y → x.key ≡ y.key → at ≡ other

-- Items have keys of their own, the place of each key that is low enough is noted, the places from `end` on are empty, and the tree has
-- what each place weighs.
pub record IsRow (weights : List ℕ) (items : List (Option Item)) (places : List ℕ) (end : ℕ) : Type 0 where
  pub weighed : weights ≡ map weight_in items
  pub apart : AreApart items
  pub placed : AreNoted places items
  pub vacant : (at : ℕ) → end ≤ at → slice_index_or items at None ≡ None
  pub within : end ≤ length items
  pub room : length items ≡ 2 * length places

-- And there are no more items than keys.
abbrev pub IsIndexed : List ℕ → List (Option Item) → List ℕ → ℕ → Type 0
IsIndexed weights items places end = IsRow weights items places end × (length (gathered items) ≤ length places)
