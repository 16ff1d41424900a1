use Rattle.std.proofs.Common.{rules}
use Rattle.words_permits.proofs.Keeps.{peeks}
use Rattle.words_permits.proofs.steps.peek.Goals as goal

pub load-requires : goal.load-requires
load-requires g c = (search rules, search rules, peeks _ _ _ _ _ _ _)
