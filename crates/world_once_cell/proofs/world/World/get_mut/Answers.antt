-- The value is lent by the World as by its table.
use Rattle.world_once_cell.proofs.Prelude.{ap, ◌∙◌, Some, table_with, value_in, with_value, view_of}
use borrow.Follows.Closed.{read_of}
use Rattle.std.specs.Option.{ghost_name_of}
use Rattle.world_once_cell.proofs.table.Lent.{rests_there, put_here}
use Rattle.world_once_cell.proofs.world.World.get_mut.Goals as goal

pub value_mut-value-requires : goal.value_mut-value-requires
value_mut-value-requires c = rests_there c.self.inside.table c.args.self.now c.self.view_is c.requires

pub returns : goal.returns
returns c =
    let was = c.value_mut-value.ensures.value ∙ ap (λ w. value_in w.cell) c.self.view_is in
    let left = ap (λ v. view_of (table_with with_value c.self.inside.table v)) was ∙ put_here c.self.inside.table c.args.self.now (value_in c.args.self.now.cell) c.self.view_is c.requires in (
      (λ i. read_of (ghost_name_of c.as_mut.result) (λ v. put_here c.self.inside.table c.args.self.now (Some v) c.self.view_is c.requires i) (left i)),
      record { lends = tt; value = c.as_mut.ensures.value ∙ was },
    )
