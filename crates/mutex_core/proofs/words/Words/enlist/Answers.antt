-- Whoever goes on as a starved party is starved if it waits.
use Rattle.mutex_core.proofs.words.Words.enlist.Goals as goal

pub returns-in-Starved-clause-since : goal.returns-in-Starved-clause-since
returns-in-Starved-clause-since g c = c.count_here.ensures.since c.args.since
