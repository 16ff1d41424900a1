use Rattle.std.proofs.Common.{◌≡◌, take}
use Rattle.weighted_event.specs.Rows.{gathered}
use Rattle.weighted_event.proofs.row.refill.Given as goal

abbrev pub invariant-loop-at : goal.invariant-loop-at
invariant-loop-at l = record {
  items : l.row.items ≡ gathered (take l.at l.items);
  room : l.row.room ≡ l.initial.row.room;
}
