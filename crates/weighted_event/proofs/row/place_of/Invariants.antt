use Rattle.std.proofs.Common.{◌≡◌, ◌≢◌, ℕ, ◌<◌, slice_index_or, Some, None}
use Rattle.weighted_event.specs.declared.row.Item.{Item}
use Rattle.weighted_event.proofs.row.place_of.Given as goal

abbrev pub invariant-loop-at : goal.invariant-loop-at
invariant-loop-at l = (q : ℕ) (y : Item) → q < l.at → slice_index_or l.items q None ≡ Some y → y.key ≢ l.key
