use Rattle.std.proofs.Common.{rules}
use Rattle.words_barrier.proofs.Allowed.{looked}
use Rattle.words_barrier.proofs.steps.look.Goals as goal

pub load-requires : goal.load-requires
load-requires g c = (search rules, search rules, looked _ _ _ _ _)
