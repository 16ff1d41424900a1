use Rattle.std.proofs.Common.{rules, arith}
use Rattle.words_permits.proofs.Keeps.{gives-paid}
use Rattle.words_permits.proofs.steps.give_paid.Goals as goal

pub swap-requires : goal.swap-requires
swap-requires g c = let t = c.requires.table.2 in (search rules, search rules, gives-paid _ _ _ _ _ _ _ _ c.args.available c.requires.list c.requires.seen.0 (omega (arith, t)) c.requires.seen.1)
