use Rattle.std.proofs.Common.{rules}
use Rattle.words_barrier.proofs.Allowed.{counted}
use Rattle.words_barrier.proofs.steps.count.Goals as goal

pub load-requires : goal.load-requires
load-requires g c = (search rules, search rules, counted _ _ _ _ _)
