use Rattle.lockrun_play.proofs.StateTexts.{semaphore_is}
use Rattle.lockrun_play.proofs.states.write_semaphore.Goals as goal

pub returns : goal.returns
returns g c = rw (← semaphore_is c.args.available c.args.limit) c.write.ensures.bytes
