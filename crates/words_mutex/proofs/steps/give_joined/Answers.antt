use Rattle.std.proofs.Common.{rules, arith}
use Rattle.words_mutex.proofs.Keeps.{gives-joined}
use Rattle.words_mutex.proofs.Holding.{joined_same}
use Rattle.words_mutex.proofs.steps.give_joined.Goals as goal

pub swap-requires : goal.swap-requires
swap-requires g c = let l = c.requires.list in let t = c.requires.table.2 in
    (search rules, search rules, gives-joined _ _ _ _ _ _ _ _ _ l.0 _ l.1.0 l.1.1 (omega (arith, t)) l.2.0 l.2.1 (g.N.Numbered.number c.args.entry.now) l.3 l.4 l.5 c.requires.stands.0 c.requires.stands.1)

pub returns-clause-step : goal.returns-clause-step
returns-clause-step g c = joined_same _ _ c.args.inner.now.me c.args.new (g.N.Numbered.number c.args.entry.now) c.requires.list _ c.swap.ensures.2
