-- A new table is seen as a new World.
use Rattle.world_once_cell.proofs.Prelude.{ap, ◌∙◌, new_table, view_of}
use Rattle.world_once_cell.proofs.step.Tellers.{none_fills}
use Rattle.world_once_cell.proofs.table.Opening.{starts_new}
use Rattle.world_once_cell.proofs.world.World.new.Goals as goal

pub invariant_of-result : goal.invariant_of-result
invariant_of-result c =
    none_fills c.args.parties c.in-Ok-new.table (ap view_of c.in-Ok-new.ensures ∙ (ap (λ s. view_of (new_table s c.args.parties 0)) c.in-Ok.ensures ∙ starts_new c.args.parties))

pub returns-in-Ok-new-clause-opening : goal.returns-in-Ok-new-clause-opening
returns-in-Ok-new-clause-opening c = ap view_of c.in-Ok-new.ensures ∙ (ap (λ s. view_of (new_table s c.args.parties 0)) c.in-Ok.ensures ∙ starts_new c.args.parties)
