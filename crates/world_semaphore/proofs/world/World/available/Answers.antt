-- The word is what the state says.
use Rattle.world_semaphore.proofs.Prelude.{ap, sym, ◌∙◌, Semaphore, available}
use Rattle.world_semaphore.proofs.table.Seen.{available_seen}
use Rattle.world_semaphore.proofs.world.World.available.Goals as goal

pub returns : goal.returns
returns c =
    c.available.ensures
    ∙ (ap (λ (s : Semaphore). s.words.available) c.machine-2.ensures
    ∙ (sym (available_seen c.self.inside.table (rw c.machine.ensures at c.laws.ensures)) ∙ ap (λ w. available w.state) c.self.view_is))
