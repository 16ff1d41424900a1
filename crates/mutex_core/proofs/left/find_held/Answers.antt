use Rattle.mutex_core.proofs.Looking.{finds, has}
use Rattle.mutex_core.proofs.left.find_held.Goals as goal

pub look-requires-clause-seen : goal.look-requires-clause-seen
look-requires-clause-seen g c = has c.loop.inner.me c.args.inner.now.me c.loop.invariant.2 c.requires.seen

pub returns-then-look-eq-HELD-clause-step : goal.returns-then-look-eq-HELD-clause-step
returns-then-look-eq-HELD-clause-step g c = finds c.loop.inner.me c.look.new.inner.me c.args.inner.now.me c.look.result c.look.ensures.step c.if-look-eq-HELD.true c.loop.invariant.2
