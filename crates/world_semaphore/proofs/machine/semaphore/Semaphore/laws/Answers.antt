-- What always holds of a semaphore's fields, as callers see it.
use Rattle.world_semaphore.proofs.of_machine.laws.Laws.{is_semaphore}
use Rattle.world_semaphore.proofs.machine.semaphore.Semaphore.laws.Goals as goal

pub returns : goal.returns
returns c = rw (← c.self.view_is) (is_semaphore c.self.inside.words c.self.inside.positions.items c.self.inside.list c.self.invariant c.laws.ensures.one_marked)
