use Rattle.std.proofs.Common.{rules}
use Rattle.words_mutex.proofs.Keeps.{counted_listed_by}
use Rattle.words_mutex.proofs.steps.count_listed.Goals as goal

pub compare_exchange-requires : goal.compare_exchange-requires
compare_exchange-requires g c = (search rules, search rules, counted_listed_by _ _ _ _ _ _ _ _ _ c.args.found c.requires.few c.requires.waits.0 c.requires.waits.1 c.requires.waits.2)
