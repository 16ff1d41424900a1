use Rattle.words_barrier.proofs.Wakeups.{running, at_rest, standing}
use Rattle.words_barrier.proofs.laws.no_lost_wakeup.Goals as goal

pub returns-clause-running : goal.returns-clause-running
returns-clause-running g c s r = running _ s r

pub returns-clause-at_rest : goal.returns-clause-at_rest
returns-clause-at_rest g c s r = at_rest _ s r

pub returns-clause-standing : goal.returns-clause-standing
returns-clause-standing g c s r = standing _ s r
