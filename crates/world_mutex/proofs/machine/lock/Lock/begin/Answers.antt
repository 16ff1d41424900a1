-- A call begins with the roles that its party has.
use Rattle.world_mutex.proofs.Prelude.{◌≡◌, Option, Some, sym, ◌∙◌, subst, start_of, entries_of, End, listed, IsLegal, decision, decided_by}
use Rattle.world_mutex.proofs.of_machine.laws.Starts.{start_same}
use Rattle.world_mutex.proofs.of_machine.legal.Courses.{begins_so}
use Rattle.world_mutex.proofs.of_machine.falls.Alone.{begun_within}
use Rattle.world_mutex.proofs.of_machine.legal.Promised.{begins_unrefused}
use Rattle.world_mutex.proofs.of_machine.legal.Legal.{begins_decided, begins_fresh}
use Rattle.world_mutex.proofs.machine.lock.Lock.begin.Goals as goal

pub act-requires-clause-begins : goal.act-requires-clause-begins
act-requires-clause-begins c =
    rw (← c.place.ensures) (start_same c.args.call c.place.result c.in-Some.from (sym c.start.ensures ∙ c.in-Some.is))

pub returns-clause-leads : goal.returns-clause-leads
returns-clause-leads c =
    let starts : start_of c.args.call c.place.result ≡ Some c.in-Some.from = sym c.start.ensures ∙ c.in-Some.is in
    begins_so c.args.memory c.args.party c.act.result c.args.self.now c.act.new.self c.requires.known c.args.call c.in-Some.from (rw c.place.ensures at starts) c.act.ensures.acts

pub returns-clause-bounded : goal.returns-clause-bounded
returns-clause-bounded c =
    let starts : start_of c.args.call c.place.result ≡ Some c.in-Some.from = sym c.start.ensures ∙ c.in-Some.is in
    begun_within c.args.call c.place.result c.in-Some.from c.args.self.now c.args.party _ starts c.act.ensures.falls

pub returns-clause-legal : goal.returns-clause-legal
returns-clause-legal c =
    let starts : start_of c.args.call c.place.result ≡ Some c.in-Some.from = sym c.start.ensures ∙ c.in-Some.is in
    let from : decision c.in-Some.from ≡ decided_by c.args.call = begins_decided c.args.call c.place.result c.in-Some.from starts in
    let P : Option End → Type 0 = λ d. IsLegal c.args.memory c.args.party d c.act.result c.args.self.now c.act.new.self in
    subst P from c.act.ensures.legal

pub returns-clause-at_once : goal.returns-clause-at_once
returns-clause-at_once c fresh =
    let starts : start_of c.args.call c.place.result ≡ Some c.in-Some.from = sym c.start.ensures ∙ c.in-Some.is in
    let own : entries_of c.args.party c.args.self.now.entries ≡ listed c.place.result = rw c.place.ensures (c.laws.ensures.owners c.args.party) in
    c.act.ensures.at_once (begins_fresh c.args.call c.place.result c.in-Some.from (entries_of c.args.party c.args.self.now.entries) own starts fresh)

pub returns-clause-unrefused : goal.returns-clause-unrefused
returns-clause-unrefused c =
    let starts : start_of c.args.call c.place.result ≡ Some c.in-Some.from = sym c.start.ensures ∙ c.in-Some.is in
    begins_unrefused c.args.memory c.args.party c.args.call c.place.result c.in-Some.from c.act.result c.args.self.now c.act.new.self starts c.act.ensures.acts c.requires.known
