use Rattle.words_permits.specs.Waiters.{waiter}
use Rattle.semaphore_core.proofs.giving_back.give_entered.Goals as goal

pub give_joined-requires-clause-list : goal.give_joined-requires-clause-list
give_joined-requires-clause-list c = (waiter c.args.id.number c.args.permits, c.requires.list)

pub returns-clause-step : goal.returns-clause-step
returns-clause-step c = c.give_joined.ensures.step (waiter c.args.id.number c.args.permits) c.requires.list
