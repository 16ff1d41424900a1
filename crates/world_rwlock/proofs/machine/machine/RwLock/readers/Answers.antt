-- The readers are the word's.
use Rattle.world_rwlock.proofs.Prelude.{ap, sym, ◌∙◌, readers}
use Rattle.world_rwlock.proofs.machine.machine.RwLock.readers.Goals as goal

pub returns : goal.returns
returns c = sym c.self.invariant.sound.readers ∙ ap readers c.self.view_is
