use Rattle.std.proofs.Common.{rules, arith}
use Rattle.words_barrier.proofs.Allowed.{given_gone}
use Rattle.words_barrier.proofs.steps.give_gone.Goals as goal

pub swap-requires : goal.swap-requires
swap-requires g c = let t = c.requires.table.2 in (search rules, search rules, given_gone _ _ _ _ _ _ (omega (arith, t)) c.requires.list c.requires.stands)
