use Rattle.std.proofs.Common.{rules}
use Rattle.words_mutex.proofs.Keeps.{uncounted_by}
use Rattle.words_mutex.proofs.steps.uncount.Goals as goal

pub fetch_sub-requires : goal.fetch_sub-requires
fetch_sub-requires g c = (search rules, search rules, uncounted_by _ _ _ _ _ _ _ _ _ c.requires.starved)
