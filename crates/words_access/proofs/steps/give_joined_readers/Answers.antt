use Rattle.std.proofs.Common.{rules, arith}
use Rattle.words_access.proofs.Allowed.{given_readers}
use Rattle.words_access.proofs.Holding.{joined_readers_same}
use Rattle.words_access.proofs.steps.give_joined_readers.Goals as goal

pub swap-requires : goal.swap-requires
swap-requires g c = let t = c.requires.table.2 in (search rules, search rules, given_readers _ _ _ _ _ _ _ (omega (arith, t)) (g.N.Numbered.number c.args.entry.now) c.requires.lists c.requires.away.0 c.requires.away.1)

pub returns-clause-step : goal.returns-clause-step
returns-clause-step g c = joined_readers_same _ _ c.args.inner.now.me c.args.new (g.N.Numbered.number c.args.entry.now) c.requires.lists _ c.swap.ensures.2
