-- A new table is seen as a new World.
use Rattle.world_pool.proofs.Prelude.{ap, ◌∙◌, new_table, new_world, view_of}
use Rattle.world_pool.proofs.table.Opening.{starts_new}
use Rattle.world_pool.proofs.world.World.with_limits.Goals as goal

pub returns-in-Ok-new-clause-opening : goal.returns-in-Ok-new-clause-opening
returns-in-Ok-new-clause-opening c =
    ap view_of c.in-Ok-new.ensures
    ∙ (ap (λ s. view_of (new_table s c.args.parties 0)) c.in-Ok.ensures
    ∙ (starts_new c.args.parties c.args.items _ ∙ ap (new_world c.args.parties c.args.items) c.min.ensures))
