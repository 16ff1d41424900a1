use Rattle.std.proofs.Common.{◌≡◌}
use Rattle.weighted_event.specs.Rows.{gathered}
use Rattle.weighted_event.proofs.Kept.{Packed}
use Rattle.weighted_event.proofs.row.compact.Given as goal

abbrev pub invariant-loop-from : goal.invariant-loop-from
invariant-loop-from l = record {
  packed : Packed (gathered l.initial.items) l.tree.weights l.items l.places l.to l.from;
  path : l.tree.path ≡ l.initial.tree.path;
}
