-- The word is held exactly if there is a holder.
use Rattle.world_barrier.proofs.Prelude.{ap, ◌∙◌, holders, held_seen, Barrier}
use Rattle.std.specs.Prelude.{is_some}
use Rattle.world_barrier.proofs.world.World.is_locked.Goals as goal

pub returns : goal.returns
returns c = held_seen c.is_held.result c.self.inside.table.machine.lock.courses (c.is_held.ensures ∙ (ap holders c.lock-2.ensures ∙ ap (λ (s : Barrier). holders s.lock) c.machine-2.ensures)) ∙ ap (λ w. is_some w.lock.holder) c.self.view_is
