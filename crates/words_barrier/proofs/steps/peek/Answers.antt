use Rattle.std.proofs.Common.{rules}
use Rattle.words_barrier.proofs.Allowed.{peeked}
use Rattle.words_barrier.proofs.steps.peek.Goals as goal

pub load-requires : goal.load-requires
load-requires g c = (search rules, search rules, peeked _ _ _ _ _)
