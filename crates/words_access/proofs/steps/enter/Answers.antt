use Rattle.std.proofs.Common.{rules, refl}
use Rattle.words_access.proofs.Allowed.{entered}
use Rattle.words_access.proofs.steps.enter.Goals as goal

pub compare_exchange-requires : goal.compare_exchange-requires
compare_exchange-requires g c = (search rules, search rules, entered _ _ _ _ _ _ _ _ c.requires.clear c.requires.few refl c.requires.idle)
