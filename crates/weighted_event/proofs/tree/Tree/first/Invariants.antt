use Rattle.std.proofs.Common.{◌≡◌, ◌-◌, ◌^◌}
use Rattle.weighted_event.proofs.Heaps.{Reached}
use Rattle.weighted_event.proofs.tree.Tree.first.Given as goal

abbrev pub invariant-loop : goal.invariant-loop
invariant-loop l = record {
  here : Reached l.nodes l.a (2 ^ (l.counter - 1)) l.at;
  visits : l.visits ≡ l.counter;
}
