use Rattle.std.proofs.Common.{rules, arith, ap, ◌∙◌}
use Rattle.atomic_table.specs.Table.{rest}
use Rattle.words_permits.proofs.Keeps.{gives-joined, newest-is}
use Rattle.words_permits.specs.Seats.{joined_of}
use Rattle.words_permits.specs.Waiters.{Waiter}
use Rattle.words_permits.proofs.steps.give_joined.Goals as goal

pub swap-requires : goal.swap-requires
swap-requires g c = let l = c.requires.list in let t = c.requires.table.2 in (search rules, search rules, gives-joined _ _ _ _ _ _ _ _ l.0 l.1 (omega (arith, t)) c.requires.away)

pub returns-clause-step : goal.returns-clause-step
returns-clause-step g c w can = let m = c.args.inner.now.me in c.swap.ensures.2 ∙ ap (λ (u : Waiter). (joined_of u m.0, rest m.1)) (newest-is _ _ m c.args.new w can)
