use Rattle.std.proofs.Common.{◌≡◌, ◌+◌, ◌*◌, ◌^◌, ◌≤◌}
use Rattle.weighted_event.proofs.row.power_from.Given as goal

abbrev pub invariant-loop-k : goal.invariant-loop-k
invariant-loop-k l = record {
  power : l.power ≡ 2 ^ l.k;
  least : l.power ≤ 2 * l.n + 1;
  small : l.power ≤ 2 ^ 59;
}
