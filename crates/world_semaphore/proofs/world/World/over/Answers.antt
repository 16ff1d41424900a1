-- A new table is seen as a new World.
use Rattle.world_semaphore.proofs.Prelude.{ap, ◌∙◌, new_table, view_of}
use Rattle.world_semaphore.proofs.table.Opening.{starts_new}
use Rattle.world_semaphore.proofs.world.World.over.Goals as goal

pub returns-in-Ok-new-clause-opening : goal.returns-in-Ok-new-clause-opening
returns-in-Ok-new-clause-opening c = ap view_of c.in-Ok-new.ensures ∙ (ap (λ s. view_of (new_table s c.args.parties c.args.permits)) c.in-Ok.ensures ∙ starts_new c.args.parties c.args.permits c.args.most)
