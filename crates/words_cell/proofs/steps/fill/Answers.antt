use Rattle.std.proofs.Common.{rules}
use Rattle.words_cell.proofs.Allowed.{filled}
use Rattle.words_cell.proofs.steps.fill.Goals as goal

pub fetch_add-requires : goal.fetch_add-requires
fetch_add-requires g c = (search rules, search rules, filled _ _ _ _ _ _ _ c.requires.makes)
