-- Fewer steps are left.
use Rattle.world_rwlock.proofs.machine.machine.RwLock.go.Goals as goal

pub returns-clause-falls : goal.returns-clause-falls
returns-clause-falls c = rw c.place.ensures at c.act.ensures.falls
