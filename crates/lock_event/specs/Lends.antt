-- What a list ends as whose entry's waker is lent to be written. No public clause cites this module.
use Rattle.std.specs.Prelude.{ℕ, List, Option, Some, None, slice_set}
use Rattle.std.specs.Borrow.{Lends, MutBor, Fml, RattleType}
use Rattle.std.specs.contracts.option.Option as option
use Rattle.slab.specs.Slab.{Slab, get}
use Rattle.lock_event.specs.declared.slots.Node.{Node}
use Rattle.lock_event.specs.declared.slots.Slots.{Slots}
use Rattle.lock_event.specs.contracts.slots.Slots.{the_row}
use Rattle.lock_event.specs.Lists.{entry}
use Rattle.lock_event.specs.Slots.{slot_of}
use Rattle.lock_event.specs.Nodes.{node_of}

module _ {W : Type 0} where
  abbrev pub node_with : Option W → Node W → Node W
  node_with w n = node_of (entry (slot_of n.entry.key.id w) n.entry.mark) n.prev n.next

  abbrev pub put_back : List (Option (Node W)) → ℕ → Option W → Option (Node W) → List (Option (Node W))
  put_back slots key w None = slots
  put_back slots key w (Some n) = slice_set slots key (Some (node_with w n))

  -- The nodes where this slot's entry keeps w.
  abbrev pub nodes_with : Slab (Node W) → ℕ → Option W → Slab (Node W)
  nodes_with s key w = record s { slots = put_back s.slots key w (get s key) }

  -- The slots where this one's entry keeps w.
  abbrev pub slots_with : Slots W → ℕ → Option W → Slots W
  slots_with s key w = record s { nodes = nodes_with s.nodes key w }

abbrev pub LendsWaker : (W : RattleType) → ℕ → MutBor (Slots W.Denot) → MutBor (Option W.Denot) → Fml
LendsWaker W key s r = Lends (the_row W) (option.the_row W) s r (slots_with s.now key)
