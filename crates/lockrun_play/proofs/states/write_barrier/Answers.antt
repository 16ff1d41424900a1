use Rattle.std.proofs.Common.{rules}
use Rattle.lockrun_play.proofs.StateTexts.{barrier_is}
use Rattle.lockrun_play.proofs.states.write_barrier.Goals as goal

pub returns : goal.returns
returns g c = rw (← barrier_is c.args.count c.args.generation c.args.locked c.from-locked.result c.args.starved (search rules)) c.write.ensures.bytes
