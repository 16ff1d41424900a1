use Rattle.words_access.proofs.Keeps.{alone_with}
use Rattle.words_access.proofs.laws.exclusion.Goals as goal

pub returns : goal.returns
returns g c s r = alone_with _ _ _ s r
