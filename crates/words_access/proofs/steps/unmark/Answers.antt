use Rattle.std.proofs.Common.{rules}
use Rattle.words_access.proofs.Allowed.{unmarked}
use Rattle.words_access.proofs.steps.unmark.Goals as goal

pub fetch_sub-requires : goal.fetch_sub-requires
fetch_sub-requires g c = (search rules, search rules, unmarked _ _ _ _ _ _ c.requires.marks.0 c.requires.marks.1)
