-- Polls that are carried out alone.
use Rattle.world_mutex.proofs.of_machine.solo_polls.SoloPolls.{solo_polls as law}
use Rattle.world_mutex.proofs.machine.lock.Lock.solo_polls.Goals as goal

pub returns : goal.returns
returns c = law c.args.self.now c.laws.ensures
