use Rattle.std.proofs.Common.{rules, arith}
use Rattle.words_access.proofs.Allowed.{given_paid_readers}
use Rattle.words_access.proofs.steps.give_paid_readers.Goals as goal

pub swap-requires : goal.swap-requires
swap-requires g c = let t = c.requires.table.2 in (search rules, search rules, given_paid_readers _ _ _ _ _ _ _ (omega (arith, t)) c.requires.lists)
