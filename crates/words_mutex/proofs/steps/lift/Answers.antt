use Rattle.std.proofs.Common.{rules}
use Rattle.words_mutex.proofs.Keeps.{lifted}
use Rattle.words_mutex.proofs.steps.lift.Goals as goal

pub fetch_or-requires : goal.fetch_or-requires
fetch_or-requires g c = (search rules, search rules, lifted _ _ _ _ _ _ _ _ _)
