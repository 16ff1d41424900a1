-- Polls that are carried out alone.
use Rattle.world_rwlock.proofs.of_machine.solo_polls.Solo.{solo_polls as law}
use Rattle.world_rwlock.proofs.machine.machine.RwLock.solo_polls.Goals as goal

pub returns : goal.returns
returns c = law c.args.self.now c.laws.ensures
