use Rattle.std.proofs.Common.{◌≡◌, ◌≤◌, vec_len, vec_capacity}
use Rattle.world_pool.specs.machine.Machine.{numbered}
use Rattle.world_pool.proofs.machine.pool.all_items.Given as goal

abbrev pub invariant-loop-item : goal.invariant-loop-item
invariant-loop-item l = record {
  items : l.all.items ≡ numbered l.item;
  len : vec_len l.all ≡ l.item;
  room : l.fn.items ≤ vec_capacity l.all;
}
