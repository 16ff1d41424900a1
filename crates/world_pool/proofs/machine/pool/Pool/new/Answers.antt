-- A new pool.
use Rattle.world_pool.proofs.of_machine.Kept.{new_is}
use Rattle.world_pool.proofs.machine.pool.Pool.new.Goals as goal

pub invariant_of-result : goal.invariant_of-result
invariant_of-result c =
    rw (c.in_ok-list.ensures.items, c.in_ok-leases.ensures, c.in_ok-positions.ensures, c.in_ok-permits.ensures, c.in_ok-lock.ensures)
    (new_is c.args.parties c.args.items c.args.starved _ c.in_ok-list.ensures.room)
