-- The World is at rest where its table is.
use Rattle.world_mutex.proofs.Prelude.{ap, sym, ◌∙◌, rest_seen, is_at_rest, verdict}
use Rattle.world_mutex.proofs.world.World.at_rest.Goals as goal

pub returns : goal.returns
returns c = c.at_rest.ensures ∙ (sym (rest_seen (verdict c.self.inside.table.machine) c.self.inside.table.stages) ∙ ap is_at_rest c.self.view_is)
