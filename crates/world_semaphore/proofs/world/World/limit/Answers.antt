-- The limit is what the state says.
use Rattle.world_semaphore.proofs.Prelude.{ap, ◌∙◌, Semaphore}
use Rattle.world_semaphore.proofs.world.World.limit.Goals as goal

pub returns : goal.returns
returns c = c.limit.ensures ∙ (ap (λ (s : Semaphore). s.words.limit) c.machine.ensures ∙ ap (λ w. w.state.limit) c.self.view_is)
