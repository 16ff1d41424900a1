use Rattle.std.proofs.Common.{rules}
use Rattle.words_access.proofs.Allowed.{looked_left}
use Rattle.words_access.proofs.steps.look_left.Goals as goal

pub load-requires : goal.load-requires
load-requires g c = (search rules, search rules, looked_left _ _ _ _ _ _ c.requires.waits.0)
