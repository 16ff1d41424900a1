use Rattle.std.proofs.Common.{rules, arith}
use Rattle.words_access.proofs.Allowed.{given_told_writer}
use Rattle.words_access.proofs.steps.give_told_writer.Goals as goal

pub swap-requires : goal.swap-requires
swap-requires g c = let t = c.requires.table.2 in (search rules, search rules, given_told_writer _ _ _ _ _ _ _ (omega (arith, t)) c.requires.lists c.requires.stands)
