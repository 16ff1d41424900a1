use Rattle.std.proofs.Common.{rules}
use Rattle.words_permits.proofs.Keeps.{lowered}
use Rattle.words_permits.proofs.steps.lower.Goals as goal

pub fetch_sub-requires : goal.fetch_sub-requires
fetch_sub-requires g c = (search rules, search rules, lowered _ _ _ _ _ _ _ c.args.permits c.requires.has)
