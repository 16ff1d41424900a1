use Rattle.std.proofs.Common.{rules, arith}
use Rattle.words_barrier.proofs.Allowed.{given_joined}
use Rattle.words_barrier.proofs.Holding.{joined_same}
use Rattle.words_barrier.proofs.steps.give_joined.Goals as goal

pub swap-requires : goal.swap-requires
swap-requires g c = let t = c.requires.table.2 in (search rules, search rules, given_joined _ _ _ _ _ _ (omega (arith, t)) (g.N.Numbered.number c.args.entry.now) c.requires.list c.requires.away)

pub returns-clause-step : goal.returns-clause-step
returns-clause-step g c = joined_same _ c.args.inner.now.me c.args.new (g.N.Numbered.number c.args.entry.now) c.requires.list _ c.swap.ensures.2
