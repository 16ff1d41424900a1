-- The World is at rest where its table is.
use Rattle.world_pool.proofs.Prelude.{ap, sym, ◌∙◌, rest_seen, verdict_in, is_at_rest}
use Rattle.world_pool.proofs.world.World.at_rest.Goals as goal

pub returns : goal.returns
returns c =
    c.at_rest.ensures
    ∙ (sym (rest_seen (verdict_in c.self.inside.table.machine) c.self.inside.table.stages) ∙ ap is_at_rest c.self.view_is)
