use Rattle.lock_queue.proofs.Changes.{joined_ok}
use Rattle.lock_queue.proofs.list.join.Goals as goal

pub returns-clause-joined : goal.returns-clause-joined
returns-clause-joined c = joined_ok c.args.event.now.entries c.listen.new.self.entries c.listen.result c.listen.ensures.joined c.listen.ensures.fresh
