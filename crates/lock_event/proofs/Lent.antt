-- Where the waker of an entry is lent to be written.
use Rattle.std.proofs.Common.{◌≡◌, ℕ, ◌<◌, is_some, length, Option, Some, None, cond, refl, sym, ap, subst, ◌∙◌, arith}
use Rattle.std.proofs.lemmas.Option.{same_Some}
use Rattle.std.proofs.lemmas.List.Sums.{sum_by-set}
use Rattle.slab.specs.Slab.{Slab, get, with_value, slab_len}
use Rattle.slab.proofs.SlabLemmas.{Updates-with_value, ContainsKey-within}
use Rattle.lock_event.specs.declared.slots.Node.{Node}
use Rattle.lock_event.specs.Nodes.{Changes}
use Rattle.lock_event.specs.Lends.{node_with, put_back, nodes_with}

module _ {W : Type 0} where
  put_len : (s : Slab (Node W)) (key : ℕ) (n m : Node W) → get s key ≡ Some n → slab_len (with_value s key m) ≡ slab_len s
  put_len s key n m has =
      let within : key < length s.slots = ContainsKey-within s key (rw has refl) in
      omega (arith, sum_by-set (λ o. cond (is_some o) 1 0) s.slots key (Some m) None within, ap {B = ℕ} (λ o. cond (is_some o) 1 0) has)

  changed : (s : Slab (Node W)) (key : ℕ) (w : Option W) (n : Node W) → get s key ≡ Some n → Changes key (node_with w) s (with_value s key (node_with w n))
  changed s key w n has =
      let updates = Updates-with_value s key (node_with w n) (rw has refl) in
      record {
        there = ap is_some has;
        here = λ m is. updates.changed ∙ ap (λ o. Some (node_with w o)) (same_Some n m (sym has ∙ is));
        others = updates.others;
        len = put_len s key n (node_with w n) has;
        capacity = refl;
      }

  -- a write through the reference changes what that slot's entry keeps, and nothing else
  pub put_changes : (s : Slab (Node W)) (key : ℕ) (w : Option W) (n : Node W) → get s key ≡ Some n → Changes key (node_with w) s (nodes_with s key w)
  put_changes s key w n has = subst (λ o. Changes key (node_with w) s (record s { slots = put_back s.slots key w o })) (sym has) (changed s key w n has)
