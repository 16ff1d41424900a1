use Rattle.std.proofs.Common.{rules, arith}
use Rattle.words_mutex.proofs.Keeps.{gives-told}
use Rattle.words_mutex.proofs.steps.give_told.Goals as goal

pub swap-requires : goal.swap-requires
swap-requires g c = let l = c.requires.list in let t = c.requires.table.2 in
    (search rules, search rules, gives-told _ _ _ _ _ _ _ _ _ l.0 _ l.1.0 l.1.1 (omega (arith, t)) l.2.0 l.2.1 l.3 c.requires.stands.0 c.requires.stands.1)
