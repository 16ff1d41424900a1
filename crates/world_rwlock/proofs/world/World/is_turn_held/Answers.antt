-- The turn's word is held exactly where a party has the turn.
use Rattle.world_rwlock.proofs.Prelude.{ap, ◌∙◌, holders, RwLock, Guarded, is_nobody}
use Rattle.world_rwlock.proofs.laws.Sound.{held_seen}
use Rattle.world_rwlock.proofs.world.World.is_turn_held.Goals as goal

pub returns : goal.returns
returns c =
    held_seen c.self.inside.table.machine.lock c.is_held.result (c.is_held.ensures ∙ ap holders (c.turn.ensures ∙ ap (λ (l : RwLock). l.turn) (c.lock.ensures ∙ ap (λ (x : Guarded). x.lock) c.machine.ensures)))
    ∙ ap (λ w. is_nobody w.state.turn) c.self.view_is
