-- The weights of a `WeightedEvent` beside its entries. No public clause cites this module.
use Rattle.std.specs.Prelude.{◌≡◌, ℕ, ◌+◌, ◌*◌, ◌<◌, ◌≤◌, List, [], ◌∷◌, ◌++◌, length, Option}
use Rattle.weighted_event.specs.declared.row.Item.{Item}
use Rattle.weighted_event.specs.Rows.{item}
use Rattle.weighted_event.specs.Rows as rows
use Rattle.lock_event.specs.declared.event.Entry.{Entry}
use Rattle.lock_event.specs.declared.event.Slot.{Slot}
use Rattle.weighted_event.specs.declared.weighted.Load.{Load}
use Rattle.weighted_event.specs.declared.weighted.Kind.{Kind}
use Rattle.weighted_event.specs.declared.weighted.Kind.TheVariants.{Alike, Few, Ranked}
use Rattle.weighted_event.specs.declared.weighted.Ranks.{Ranks}
use Rattle.lock_event.specs.Chains.{number}
use Rattle.weighted_event.specs.Loads.{weight_of, IsOneMarked}

module _ {W : Type 0} where
  -- The slot and the weight of each entry.
  abbrev pub ranked : List (Entry (Slot (Load W))) → List Item
  ranked [] = []
  ranked (e ∷ es) = item (number e) (weight_of e.key) ∷ ranked es

  -- Each entry has this weight.
  abbrev pub AreAlike : ℕ → List (Entry (Slot (Load W))) → Type 0
  AreAlike w [] = Unit {0}
  AreAlike w (e ∷ es) = (weight_of e.key ≡ w) × AreAlike w es

  -- The row has what this kind of list keeps there.
  abbrev pub IsRanked : List (Entry (Slot (Load W))) → List Item → Kind → Type 0
  IsRanked es items (Alike w) = (items ≡ []) × AreAlike w es
  IsRanked es items Few = (items ≡ []) × (length es ≤ 8)
  IsRanked es items Ranked = items ≡ ranked es

  -- One more entry of this weight fits, by kind.
  abbrev pub FitsOne : ℕ → List (Entry (Slot (Load W))) → ℕ → Kind → Type 0
  FitsOne w es room (Alike common) = common ≡ w
  FitsOne w es room Few = length es < 8
  FitsOne w es room Ranked = length es < room

  abbrev pub IsReady : ℕ → List (Entry (Slot (Load W))) → Ranks → Type 0
  IsReady w es ranks = FitsOne w es ranks.row.room ranks.kind

  -- What always holds of a `WeightedEvent`. The row isn't much longer than the slots are many.
  pub record IsWeighted (es : List (Entry (Slot (Load W)))) (room : ℕ) (marked : Option ℕ) (ranks : Ranks) : Type 0 where
    pub one : IsOneMarked es marked
    pub ranks_are : IsRanked es ranks.row.items ranks.kind
    pub lean : ranks.row.room ≤ 2 * room + 1

-- This holds if the row has the weights.
abbrev pub OnRanked : Kind → Type 0 → Type 0
OnRanked (Alike w) P = Unit {0}
OnRanked Few P = Unit {0}
OnRanked Ranked P = P

-- The row once an item has joined it or left it, by kind.
abbrev pub joined_ranks : Kind → ℕ → ℕ → List Item → List Item
joined_ranks (Alike common) key w items = items
joined_ranks Few key w items = items
joined_ranks Ranked key w items = items ++ item key w ∷ []

abbrev pub left_ranks : Kind → ℕ → List Item → List Item
left_ranks (Alike common) key items = items
left_ranks Few key items = items
left_ranks Ranked key items = rows.without key items
