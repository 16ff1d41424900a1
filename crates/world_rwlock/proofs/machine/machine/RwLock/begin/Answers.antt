-- A call begins with the roles that its party has, and ends in time.
use Rattle.world_rwlock.proofs.Prelude.{◌≡◌, Some, sym, ◌∙◌, start_of}
use Rattle.world_rwlock.proofs.of_machine.stages.Starts.{start_same}
use Rattle.world_rwlock.proofs.of_machine.falls.Alone.{begun_within}
use Rattle.world_rwlock.proofs.machine.machine.RwLock.begin.Goals as goal

pub act-requires-clause-begins : goal.act-requires-clause-begins
act-requires-clause-begins c =
    rw (← c.place.ensures) (start_same c.args.call c.place.result c.in-Some.from (sym c.start.ensures ∙ c.in-Some.is))

pub returns-clause-bounded : goal.returns-clause-bounded
returns-clause-bounded c =
    let starts : start_of c.args.call c.place.result ≡ Some c.in-Some.from = sym c.start.ensures ∙ c.in-Some.is in
    begun_within c.args.call c.place.result c.in-Some.from c.args.self.now c.args.party _ starts c.act.ensures.falls
