-- What always holds of the fields, said of the value.
use Rattle.world_pool.proofs.of_machine.Kept.{is_pool}
use Rattle.world_pool.proofs.machine.pool.Pool.laws.Goals as goal

pub returns : goal.returns
returns c = rw (← c.self.view_is) (is_pool _ _ c.self.invariant c.laws.ensures c.laws-2.ensures)
