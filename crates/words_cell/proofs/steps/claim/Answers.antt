use Rattle.std.proofs.Common.{rules}
use Rattle.words_cell.proofs.Allowed.{claimed}
use Rattle.words_cell.proofs.steps.claim.Goals as goal

pub compare_exchange-requires : goal.compare_exchange-requires
compare_exchange-requires g c = (search rules, search rules, claimed _ _ _ _ _ _ _)
