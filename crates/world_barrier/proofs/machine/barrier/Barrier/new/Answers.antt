-- A new barrier.
use Rattle.std.proofs.Common.{arith}
use Rattle.world_barrier.proofs.of_machine.laws.New.{new_is}
use Rattle.world_barrier.proofs.machine.barrier.Barrier.new.Goals as goal

pub invariant_of-result : goal.invariant_of-result
invariant_of-result c =
    rw (c.new-3.ensures, c.in_ok-list.ensures, c.in_ok-lock.ensures, c.in_ok-positions.ensures, c.in_ok-arrivals.ensures) (new_is c.args.parties c.args.size c.args.starved c.args.most (omega (arith, c.ranges.parties)))
