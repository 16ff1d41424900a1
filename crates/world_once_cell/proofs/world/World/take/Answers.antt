-- The value is taken from the World as from its table.
use Rattle.world_once_cell.proofs.Prelude.{ap, ◌∙◌, None, table_with, with_value, view_of}
use Rattle.world_once_cell.proofs.table.Lent.{rests_there, put_here}
use Rattle.world_once_cell.proofs.world.World.take.Goals as goal

pub value_mut-requires : goal.value_mut-requires
value_mut-requires c = rests_there c.self.inside.table c.args.self.now c.self.view_is c.requires

pub returns-clause-taken : goal.returns-clause-taken
returns-clause-taken c = ap (λ v. view_of (table_with with_value c.self.inside.table v)) c.take_from.ensures.left ∙ put_here c.self.inside.table c.args.self.now None c.self.view_is c.requires
