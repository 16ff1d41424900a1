-- The World is at rest where its table is.
use Rattle.world_rwlock.proofs.Prelude.{ap, sym, ◌∙◌, rest_seen, is_at_rest, verdict_of}
use Rattle.world_rwlock.proofs.world.World.at_rest.Goals as goal

pub returns : goal.returns
returns c =
    let t = c.self.inside.table in
    c.at_rest.ensures
    ∙ (sym (rest_seen (verdict_of t.machine) t.stages) ∙ ap is_at_rest c.self.view_is)
