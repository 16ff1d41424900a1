use Rattle.std.proofs.Common.{rules}
use Rattle.words_cell.proofs.Allowed.{emptied}
use Rattle.words_cell.proofs.steps.empty.Goals as goal

pub fetch_sub-requires : goal.fetch_sub-requires
fetch_sub-requires g c = (search rules, search rules, emptied _ _ _ _ _ _ _ c.requires.makes)
