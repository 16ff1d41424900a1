use Rattle.std.proofs.Common.{◌≡◌, None, take, drop}
use Rattle.lock_event.specs.Chains.{first_of}
use Rattle.weighted_event.specs.Ranks.{ranked}
use Rattle.weighted_event.proofs.weighted.bring_in.Given as goal

abbrev pub invariant-loop : goal.invariant-loop
invariant-loop g l = record {
  items : l.row.items ≡ ranked (take l.counter l.chain.entries);
  room : l.row.room ≡ l.initial.row.room;
  at : l.at ≡ first_of (drop l.counter l.chain.entries) None;
}
