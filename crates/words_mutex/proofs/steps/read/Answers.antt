use Rattle.std.proofs.Common.{rules}
use Rattle.words_mutex.proofs.Keeps.{reads}
use Rattle.words_mutex.proofs.steps.read.Goals as goal

pub load-requires : goal.load-requires
load-requires g c = (search rules, search rules, reads _ _ _ _ _ _ _ _ _)
