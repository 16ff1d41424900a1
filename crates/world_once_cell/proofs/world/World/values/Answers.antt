-- One value at most enters along a run.
use Rattle.world_once_cell.proofs.Values as law
use Rattle.world_once_cell.proofs.world.World.values.Goals as goal

pub returns-clause-one_at_most : goal.returns-clause-one_at_most
returns-clause-one_at_most c = law.one_at_most

pub returns-clause-none_more : goal.returns-clause-none_more
returns-clause-none_more c = law.none_more
