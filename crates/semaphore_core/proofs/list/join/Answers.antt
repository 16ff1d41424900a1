use Rattle.semaphore_core.proofs.Listed.{joined-ok}
use Rattle.semaphore_core.proofs.list.join.Goals as goal

pub returns-clause-joined : goal.returns-clause-joined
returns-clause-joined c = joined-ok c.args.event.now.entries c.listen.new.self.entries c.args.permits c.listen.result c.listen.ensures.joined c.listen.ensures.fresh
