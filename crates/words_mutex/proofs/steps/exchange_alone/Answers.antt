use Rattle.std.proofs.Common.{rules}
use Rattle.words_mutex.proofs.Keeps.{taken_alone}
use Rattle.words_mutex.proofs.steps.exchange_alone.Goals as goal

pub compare_exchange-requires : goal.compare_exchange-requires
compare_exchange-requires g c = (search rules, search rules, taken_alone _ _ _ _ _ _ _ _ _ c.requires.stands.0 c.requires.stands.1)
