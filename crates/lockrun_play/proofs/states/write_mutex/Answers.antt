use Rattle.std.proofs.Common.{rules}
use Rattle.lockrun_play.proofs.StateTexts.{mutex_is}
use Rattle.lockrun_play.proofs.states.write_mutex.Goals as goal

pub returns : goal.returns
returns g c = rw (← mutex_is c.args.locked c.from-locked.result c.args.starved c.args.value (search rules)) c.write.ensures.bytes
