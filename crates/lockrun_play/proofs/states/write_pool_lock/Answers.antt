use Rattle.std.proofs.Common.{rules}
use Rattle.lockrun_play.proofs.StateTexts.{pool_lock_is}
use Rattle.lockrun_play.proofs.states.write_pool_lock.Goals as goal

pub returns : goal.returns
returns g c = rw (← pool_lock_is c.args.locked c.from-locked.result c.args.starved (search rules)) c.write.ensures.bytes
