-- The word's number is the size of the reader set.
use Rattle.world_rwlock.proofs.Prelude.{ap, sym, ◌∙◌, readers, Guarded, how_many_read}
use Rattle.world_rwlock.proofs.table.Views.{how_many-read}
use Rattle.world_rwlock.proofs.world.World.readers.Goals as goal

pub returns : goal.returns
returns c =
    c.readers.ensures
    ∙ (ap readers (c.lock.ensures ∙ ap (λ (x : Guarded). x.lock) c.machine.ensures) ∙ (sym (how_many-read c.self.inside.table.machine.lock.places) ∙ ap how_many_read c.self.view_is))
