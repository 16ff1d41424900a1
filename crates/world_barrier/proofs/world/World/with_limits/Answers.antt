-- A new table is seen as a new World.
use Rattle.world_barrier.proofs.Prelude.{ap, ◌∙◌, new_table, new_world, view_of}
use Rattle.world_barrier.proofs.table.Opening.{starts_new}
use Rattle.world_barrier.proofs.world.World.with_limits.Goals as goal

pub returns-in-Ok-new-clause-opening : goal.returns-in-Ok-new-clause-opening
returns-in-Ok-new-clause-opening c =
    ap view_of c.in-Ok-new.ensures
    ∙ (ap (λ s. view_of (new_table s c.args.parties 0)) c.in-Ok.ensures
    ∙ (starts_new c.args.parties c.args.size _ c.args.generations ∙ ap (λ n. new_world c.args.parties c.args.size n c.args.generations) c.min.ensures))
