-- The World is at rest where its table is.
use Rattle.world_once_cell.proofs.Prelude.{ap, sym, ◌∙◌, rest_seen, verdict, position_at, is_at_rest}
use Rattle.world_once_cell.proofs.world.World.at_rest.Goals as goal

pub returns : goal.returns
returns c =
    c.at_rest.ensures
    ∙ (sym (rest_seen (λ p. verdict (position_at c.self.inside.table.machine.positions p)) c.self.inside.table.stages) ∙ ap is_at_rest c.self.view_is)
