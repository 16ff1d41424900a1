-- Polls that are carried out alone.
use Rattle.world_mutex.proofs.of_machine.callers.AloneSeen.{solo_polls as law}
use Rattle.world_mutex.proofs.machine.mutex.Mutex.solo_polls.Goals as goal

pub returns : goal.returns
returns c = law c.args.self.now c.laws.ensures
