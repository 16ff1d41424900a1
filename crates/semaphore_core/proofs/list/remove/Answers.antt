use Rattle.semaphore_core.proofs.Listed.{withdrawn}
use Rattle.semaphore_core.proofs.list.remove.Goals as goal

pub returns : goal.returns
returns c = withdrawn c.args.id c.args.event.now.entries c.withdraw-was_notified.new.self.entries _ c.withdraw-was_notified.ensures.answer c.withdraw-was_notified.ensures.entries
