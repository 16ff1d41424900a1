use Rattle.std.proofs.Common.{rules, arith}
use Rattle.words_mutex.proofs.Keeps.{gives-gone}
use Rattle.words_mutex.proofs.steps.give_gone.Goals as goal

pub swap-requires : goal.swap-requires
swap-requires g c = let l = c.requires.list in let t = c.requires.table.2 in
    (search rules, search rules, gives-gone _ _ _ _ _ _ _ _ _ l.0 _ l.1.0 l.1.1 (omega (arith, t)) l.2.0 l.2.1 l.3 l.4 c.requires.stands.0 c.requires.stands.1 c.requires.stands.2)
