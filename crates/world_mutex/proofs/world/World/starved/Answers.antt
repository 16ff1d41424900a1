-- The word's number is the size of the starved set.
use Rattle.world_mutex.proofs.Prelude.{ap, sym, ◌∙◌, how_many, starved, Guarded}
use Rattle.world_mutex.proofs.of_machine.laws.Seen.{how_many_counted}
use Rattle.world_mutex.proofs.world.World.starved.Goals as goal

pub returns : goal.returns
returns c = c.starved.ensures ∙ (ap starved c.lock.ensures ∙ (ap (λ (g : Guarded). starved g.lock) c.machine.ensures ∙ (sym (how_many_counted c.self.inside.table.machine.lock.places) ∙ ap (λ w. how_many w.state.starved) c.self.view_is)))
