use Rattle.world_base.proofs.Prelude.{ap, sym, ◌∙◌, subst, list_all, is_outside_stage, IsTable}
use Rattle.world_base.proofs.of_table.Lending.{still_fits}
use Rattle.world_base.proofs.table.table.Table.value_mut.Goals as goal

pub invariant_of-self-lent : goal.invariant_of-self-lent
invariant_of-self-lent g c w =
    let y = g.M.Valued.with_value c.self.inside.machine w in
    subst (λ ss. IsTable {M = g.row.M.Denot} g.M.Machine.parties g.M.Machine.stands y ss) (sym c.forget_all.ensures)
    (still_fits g.M.Machine.parties g.M.Machine.stands c.self.inside.machine y c.self.inside.stages.items (g.met.M.Valued.as_many c.self.inside.machine w) (g.met.M.Valued.stays c.self.inside.machine w) (ap (λ t. list_all is_outside_stage t.stages) c.self.view_is ∙ c.requires) c.self.invariant)
