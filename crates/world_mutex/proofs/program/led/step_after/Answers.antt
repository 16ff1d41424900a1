-- The end of a call is told of as it is.
use Rattle.world_mutex.proofs.Prelude.{step_of, ap, sym}
use Rattle.world_mutex.proofs.program.led.step_after.Goals as goal

pub returns-in-End : goal.returns-in-End
returns-in-End c = sym (ap step_of c.in-End.is)
