use Rattle.std.proofs.Common.{rules}
use Rattle.words_access.proofs.Allowed.{downed}
use Rattle.words_access.proofs.steps.down.Goals as goal

pub fetch_add-requires : goal.fetch_add-requires
fetch_add-requires g c = (search rules, search rules, downed _ _ _ _ _ _ c.requires.writes.0 c.requires.writes.1)
