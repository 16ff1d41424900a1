use Rattle.std.proofs.Common.{rules}
use Rattle.words_access.proofs.Allowed.{left}
use Rattle.words_access.proofs.steps.leave.Goals as goal

pub fetch_sub-requires : goal.fetch_sub-requires
fetch_sub-requires g c = (search rules, search rules, left _ _ _ _ _ _ c.requires.reads)
