-- A new table is seen as a new World.
use Rattle.world_mutex.proofs.Prelude.{ap, ◌∙◌, new_table, new_world, view_of}
use Rattle.world_mutex.proofs.table.Opening.{starts_new}
use Rattle.world_mutex.proofs.world.World.with_limits.Goals as goal

pub returns-in-Ok-new-clause-opening : goal.returns-in-Ok-new-clause-opening
returns-in-Ok-new-clause-opening c = ap view_of c.in-Ok-new.ensures ∙ (ap (λ g. view_of (new_table g c.args.parties c.args.value)) c.in-Ok.ensures ∙ (starts_new c.args.parties _ c.args.value ∙ ap (λ n. new_world c.args.parties n c.args.value) c.min.ensures))
