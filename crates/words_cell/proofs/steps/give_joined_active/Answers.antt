use Rattle.std.proofs.Common.{rules, arith}
use Rattle.words_cell.proofs.Allowed.{given_active}
use Rattle.words_cell.proofs.Holding.{joined_active_same}
use Rattle.words_cell.proofs.steps.give_joined_active.Goals as goal

pub swap-requires : goal.swap-requires
swap-requires g c = let t = c.requires.table.2 in (search rules, search rules, given_active _ _ _ _ _ _ _ _ (omega (arith, t)) (g.N.Numbered.number c.args.entry.now) c.requires.lists c.requires.away.0 c.requires.away.1)

pub returns-clause-step : goal.returns-clause-step
returns-clause-step g c = joined_active_same g.S.Content.active g.S.Content.passive c.args.inner.now.me c.args.new (g.N.Numbered.number c.args.entry.now) c.requires.lists _ c.swap.ensures.2
