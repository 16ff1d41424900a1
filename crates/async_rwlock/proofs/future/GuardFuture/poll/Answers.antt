use Rattle.std.proofs.Common.{rules}
use Rattle.async_rwlock.proofs.future.GuardFuture.poll.Goals as goal

pub returns-in-Unowned-clause-turn : goal.returns-in-Unowned-clause-turn
returns-in-Unowned-clause-turn g c = let memory = g.met.G.Acquired.for_memory in search rules

pub returns-in-Refused-clause-turn : goal.returns-in-Refused-clause-turn
returns-in-Refused-clause-turn g c = let never = g.met.G.Acquired.never_finished in search rules
