use Rattle.std.proofs.Common.{rules, refl}
use Rattle.words_mutex.proofs.Keeps.{taken_from}
use Rattle.words_mutex.proofs.steps.exchange.Goals as goal

pub compare_exchange-requires : goal.compare_exchange-requires
compare_exchange-requires g c = (search rules, search rules, taken_from _ _ _ _ _ _ _ _ _ 0 refl c.requires.seen)
