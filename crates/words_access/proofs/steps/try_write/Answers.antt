use Rattle.std.proofs.Common.{rules}
use Rattle.words_access.proofs.Allowed.{tries_write}
use Rattle.words_access.proofs.steps.try_write.Goals as goal

pub compare_exchange-requires : goal.compare_exchange-requires
compare_exchange-requires g c = (search rules, search rules, tries_write _ _ _ _ _ _)
