-- Whoever goes on as a starved party is starved if it waits.
use Rattle.mutex_core.proofs.words.Words.wait.Goals as goal

pub returns-in-Held-true-clause-since : goal.returns-in-Held-true-clause-since
returns-in-Held-true-clause-since g c = c.count_away.ensures.since c.args.since

pub returns-in-Starved-default-clause-since : goal.returns-in-Starved-default-clause-since
returns-in-Starved-default-clause-since g c = c.count_away-in-Starved-default.ensures.since c.args.since
