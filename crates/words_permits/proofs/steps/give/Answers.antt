use Rattle.std.proofs.Common.{rules}
use Rattle.words_permits.proofs.Keeps.{given}
use Rattle.words_permits.proofs.steps.give.Goals as goal

pub fetch_add-found-requires : goal.fetch_add-found-requires
fetch_add-found-requires g c = (search rules, search rules, given _ _ _ _ _ _ _ c.args.permits c.requires.has)
