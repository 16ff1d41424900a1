use Rattle.std.proofs.Common.{rules}
use Rattle.words_cell.proofs.Allowed.{taken}
use Rattle.words_cell.proofs.steps.take.Goals as goal

pub compare_exchange-requires : goal.compare_exchange-requires
compare_exchange-requires g c = (search rules, search rules, taken _ _ _ _ _ _ _)
