use Rattle.semaphore_core.proofs.Listed.{told}
use Rattle.semaphore_core.proofs.list.fit.Goals as goal

pub returns : goal.returns
returns c = told c.args.available c.args.event.now.entries _ _ c.fit.ensures.entries c.fit.ensures.told c.next_waker.ensures.entries
