use Rattle.lockrun_play.proofs.StateTexts.{pool_is}
use Rattle.lockrun_play.proofs.states.write_pool.Goals as goal

pub returns : goal.returns
returns g c = rw (← pool_is c.args.available c.args.limit) c.write.ensures.bytes
