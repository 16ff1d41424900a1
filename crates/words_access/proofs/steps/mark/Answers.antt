use Rattle.std.proofs.Common.{rules}
use Rattle.words_access.proofs.Allowed.{marked}
use Rattle.words_access.proofs.steps.mark.Goals as goal

pub fetch_or-requires : goal.fetch_or-requires
fetch_or-requires g c = (search rules, search rules, marked _ _ _ _ _ _)
