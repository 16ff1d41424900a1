-- A new semaphore.
use Rattle.world_semaphore.proofs.of_machine.laws.New.{new_is}
use Rattle.world_semaphore.proofs.machine.semaphore.Semaphore.new.Goals as goal

pub invariant_of-result : goal.invariant_of-result
invariant_of-result c = rw (c.in_ok-list.ensures, c.in_ok-positions.ensures) (new_is c.args.parties c.args.permits c.args.most c.requires)
