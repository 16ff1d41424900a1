use Rattle.std.proofs.Common.{rules, refl}
use Rattle.words_access.proofs.Allowed.{upgraded}
use Rattle.words_access.proofs.steps.upgrade.Goals as goal

pub compare_exchange-requires : goal.compare_exchange-requires
compare_exchange-requires g c = (search rules, search rules, upgraded _ _ _ _ _ _ _ _ c.requires.clear c.requires.others refl c.requires.reads)
