-- A new lock.
use Rattle.world_rwlock.proofs.of_machine.laws.New.{new_is}
use Rattle.world_rwlock.proofs.machine.machine.RwLock.new.Goals as goal

pub invariant_of-result : goal.invariant_of-result
invariant_of-result c =
    rw (c.new-4.ensures, c.in_ok-no_writer.ensures, c.in_ok-no_readers.ensures, c.in_ok-turn.ensures, c.in_ok-places.ensures) (new_is c.args.parties c.args.starved c.args.readers)
