use Rattle.std.proofs.Common.{◌≡◌, ◌*◌, ◌/◌, ◌<◌, length, drop}
use Rattle.weighted_event.specs.Trees.{AreLeastBut}
use Rattle.weighted_event.proofs.tree.lift.Given as goal

abbrev pub invariant-loop-at : goal.invariant-loop-at
invariant-loop-at l = record {
  count : length l.nodes ≡ 2 * l.places;
  within : l.at < 2 * l.places;
  least : AreLeastBut l.nodes l.places (l.at / 2);
  leaves : drop l.places l.nodes ≡ drop l.places l.initial.nodes;
}

abbrev pub decreases-loop-at : goal.decreases-loop-at
decreases-loop-at l = l.at
