-- The bit is set exactly where a party waits to write, or writes.
use Rattle.world_rwlock.proofs.Prelude.{ap, ◌∙◌, marked, Guarded, is_marked}
use Rattle.world_rwlock.proofs.laws.Sound.{marked_seen}
use Rattle.world_rwlock.proofs.world.World.is_writer_marked.Goals as goal

pub returns : goal.returns
returns c =
    let t = c.self.inside.table in
    marked_seen t.machine.lock t.stages t.opening t.machine.value (rw c.machine.ensures at c.laws-2.ensures.lock) c.laws.ensures.fits c.is_writer_marked.result
    (c.is_writer_marked.ensures ∙ ap marked (c.lock.ensures ∙ ap (λ (x : Guarded). x.lock) c.machine-2.ensures))
    ∙ ap (λ w. is_marked w.state.turn) c.self.view_is
