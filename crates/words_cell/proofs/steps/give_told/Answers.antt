use Rattle.std.proofs.Common.{rules, arith}
use Rattle.words_cell.proofs.Allowed.{given_told}
use Rattle.words_cell.proofs.steps.give_told.Goals as goal

pub swap-requires : goal.swap-requires
swap-requires g c = let t = c.requires.table.2 in (search rules, search rules, given_told _ _ _ _ _ _ _ _ (omega (arith, t)) c.requires.lists c.requires.stands)
