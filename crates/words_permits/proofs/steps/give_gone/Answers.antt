use Rattle.std.proofs.Common.{rules, arith}
use Rattle.words_permits.proofs.Keeps.{gives-gone}
use Rattle.words_permits.proofs.steps.give_gone.Goals as goal

pub swap-requires : goal.swap-requires
swap-requires g c = let t = c.requires.table.2 in (search rules, search rules, gives-gone _ _ _ _ _ _ _ _ c.requires.list (omega (arith, t)) c.requires.stands)
