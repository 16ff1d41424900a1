-- Whoever goes on as a starved party is starved if it waits.
use Rattle.mutex_core.proofs.words.Words.poll_later.Goals as goal

pub returns-then-is_starved-2-clause-since : goal.returns-then-is_starved-2-clause-since
returns-then-is_starved-2-clause-since g c = c.strive.ensures.since c.args.waiting.since
