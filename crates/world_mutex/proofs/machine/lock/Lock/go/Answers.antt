-- Where an action leads.
use Rattle.world_mutex.proofs.of_machine.legal.Courses.{goes_on}
use Rattle.world_mutex.proofs.machine.lock.Lock.go.Goals as goal

pub returns-clause-leads : goal.returns-clause-leads
returns-clause-leads c = goes_on c.args.memory c.args.party c.act.result c.args.self.now c.act.new.self c.requires.known (rw c.place.ensures at c.act.ensures.acts)

pub returns-clause-falls : goal.returns-clause-falls
returns-clause-falls c = rw c.place.ensures at c.act.ensures.falls
