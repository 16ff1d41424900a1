-- A reader that finds the writer's bit set is told so.
use Rattle.std.proofs.Common.{refl}
use Rattle.world_rwlock.proofs.program.word.Word.read.Goals as goal

pub returns-then-self : goal.returns-then-self
returns-then-self c = (c.if-self.true, refl)
