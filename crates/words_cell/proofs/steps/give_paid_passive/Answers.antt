use Rattle.std.proofs.Common.{rules, arith}
use Rattle.words_cell.proofs.Allowed.{given_paid_passive}
use Rattle.words_cell.proofs.steps.give_paid_passive.Goals as goal

pub swap-requires : goal.swap-requires
swap-requires g c = let t = c.requires.table.2 in (search rules, search rules, given_paid_passive _ _ _ _ _ _ _ _ (omega (arith, t)) c.requires.lists)
