-- The word is held exactly if there is a holder.
use Rattle.world_mutex.proofs.Prelude.{ap, ◌∙◌, holders, Guarded}
use Rattle.std.specs.Prelude.{is_some}
use Rattle.world_mutex.proofs.of_machine.laws.Seen.{held_seen}
use Rattle.world_mutex.proofs.world.World.is_locked.Goals as goal

pub returns : goal.returns
returns c = held_seen c.is_held.result c.self.inside.table.machine.lock.places (c.is_held.ensures ∙ (ap holders c.lock.ensures ∙ ap (λ (g : Guarded). holders g.lock) c.machine-2.ensures)) ∙ ap (λ w. is_some w.state.holder) c.self.view_is
