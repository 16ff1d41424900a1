use Rattle.std.proofs.Common.{rules, arith}
use Rattle.words_barrier.proofs.Allowed.{grabs}
use Rattle.words_barrier.proofs.Flags.{sets-one}
use Rattle.words_barrier.proofs.Holding.{held_of}
use Rattle.words_barrier.proofs.steps.grab.Goals as goal

pub fetch_or-requires : goal.fetch_or-requires
fetch_or-requires g c = (search rules, search rules, grabs _ _ _ _ _ 1 sets-one)

pub returns-clause-took : goal.returns-clause-took
returns-clause-took g c even = let t = c.fetch_or.ensures.2.0 even in held_of _ c.args.inner.now.me _ t.0 t.1

pub returns-clause-not : goal.returns-clause-not
returns-clause-not g c ne = c.fetch_or.ensures.2.1 (omega (arith, ne))
