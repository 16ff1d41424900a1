-- An arrival is counted.
use Rattle.std.proofs.Common.{refl}
use Rattle.world_barrier.proofs.program.words.Words.arrive.Goals as goal

pub returns : goal.returns
returns c = refl
