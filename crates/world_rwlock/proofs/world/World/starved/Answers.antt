-- The word's number is the size of the starved set.
use Rattle.world_rwlock.proofs.Prelude.{ap, sym, ◌∙◌, starved, how_many, RwLock, Guarded}
use Rattle.world_mutex.proofs.of_machine.callers.Holders.{how_many_counted}
use Rattle.world_rwlock.proofs.world.World.starved.Goals as goal

pub returns : goal.returns
returns c =
    c.starved.ensures
    ∙ (ap starved (c.turn.ensures ∙ ap (λ (l : RwLock). l.turn) (c.lock.ensures ∙ ap (λ (x : Guarded). x.lock) c.machine.ensures)) ∙ (sym (how_many_counted c.self.inside.table.machine.lock.turn.courses) ∙ ap (λ w. how_many w.state.starved) c.self.view_is))
