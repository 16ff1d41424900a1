use Rattle.std.proofs.Common.{rules}
use Rattle.words_permits.proofs.Keeps.{given_new}
use Rattle.words_permits.proofs.steps.give_new.Goals as goal

pub fetch_add-found-requires : goal.fetch_add-found-requires
fetch_add-found-requires g c = (search rules, search rules, given_new _ _ _ _ _ _ _ c.args.permits c.requires.has)
