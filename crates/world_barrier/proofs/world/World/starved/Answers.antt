-- The word's number is the size of the starved set.
use Rattle.world_barrier.proofs.Prelude.{ap, sym, ◌∙◌, how_many, starved, how_many_counted, Barrier}
use Rattle.world_barrier.proofs.world.World.starved.Goals as goal

pub returns : goal.returns
returns c = c.starved.ensures ∙ (ap starved c.lock.ensures ∙ (ap (λ (s : Barrier). starved s.lock) c.machine.ensures ∙ (sym (how_many_counted c.self.inside.table.machine.lock.courses) ∙ ap (λ w. how_many w.lock.starved) c.self.view_is)))
