use Rattle.std.proofs.Common.{◌≡◌, None, drop}
use Rattle.lock_event.specs.Chains.{first_of}
use Rattle.weighted_event.specs.Loads.{first_fit}
use Rattle.weighted_event.proofs.weighted.find.Given as goal

abbrev pub invariant-loop : goal.invariant-loop
invariant-loop g l = record {
  entries : l.chain.entries ≡ l.initial.chain.entries;
  room : l.chain.room ≡ l.initial.chain.room;
  visits : l.chain.visits ≡ l.counter;
  at : l.at ≡ first_of (drop l.counter l.initial.chain.entries) None;
  found : first_fit l.a (drop l.counter l.initial.chain.entries) ≡ first_fit l.a l.initial.chain.entries;
}
