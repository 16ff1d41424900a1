use Rattle.std.proofs.Common.{rules}
use Rattle.lockrun_play.proofs.StateTexts.{rwlock_is}
use Rattle.lockrun_play.proofs.states.write_rwlock.Goals as goal

pub returns : goal.returns
returns g c = rw (← rwlock_is c.args.turn c.from-turn.result c.args.starved c.args.writer c.from-writer.result c.args.readers c.args.value (search rules) (search rules)) c.write.ensures.bytes
