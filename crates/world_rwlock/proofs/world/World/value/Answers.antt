-- The World's number is the one that stands behind its table.
use Rattle.world_rwlock.proofs.Prelude.{ap, ◌∙◌, Guarded}
use Rattle.world_rwlock.proofs.world.World.value.Goals as goal

pub returns : goal.returns
returns c = c.value.ensures ∙ (ap (λ (x : Guarded). x.value) c.machine.ensures ∙ ap (λ w. w.state.value) c.self.view_is)
