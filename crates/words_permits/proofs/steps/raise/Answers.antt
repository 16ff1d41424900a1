use Rattle.std.proofs.Common.{rules}
use Rattle.words_permits.proofs.Keeps.{limit_seen, raised}
use Rattle.words_permits.proofs.steps.raise.Goals as goal

pub load-found-requires : goal.load-found-requires
load-found-requires g c = (search rules, search rules, limit_seen _ _ _ _ _ _ _)

pub compare_exchange-requires : goal.compare_exchange-requires
compare_exchange-requires g c = (search rules, search rules, raised _ _ _ _ _ _ _ _ _ (search rules) (search rules))
