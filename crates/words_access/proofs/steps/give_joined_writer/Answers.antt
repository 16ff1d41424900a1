use Rattle.std.proofs.Common.{rules, arith}
use Rattle.words_access.proofs.Allowed.{given_writer}
use Rattle.words_access.proofs.Holding.{joined_writer_same}
use Rattle.words_access.proofs.steps.give_joined_writer.Goals as goal

pub swap-requires : goal.swap-requires
swap-requires g c = let t = c.requires.table.2 in (search rules, search rules, given_writer _ _ _ _ _ _ _ (omega (arith, t)) (g.N.Numbered.number c.args.entry.now) c.requires.lists c.requires.away.0 c.requires.away.1 c.requires.marks)

pub returns-clause-step : goal.returns-clause-step
returns-clause-step g c = joined_writer_same _ _ c.args.inner.now.me c.args.new (g.N.Numbered.number c.args.entry.now) c.requires.lists _ c.swap.ensures.2
