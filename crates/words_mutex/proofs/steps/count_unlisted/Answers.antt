use Rattle.std.proofs.Common.{rules}
use Rattle.words_mutex.proofs.Keeps.{counted_unlisted_by}
use Rattle.words_mutex.proofs.steps.count_unlisted.Goals as goal

pub compare_exchange-requires : goal.compare_exchange-requires
compare_exchange-requires g c = (search rules, search rules, counted_unlisted_by _ _ _ _ _ _ _ _ _ c.args.found c.requires.few c.requires.waits)
