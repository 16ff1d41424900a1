use Rattle.barrier_core.proofs.raw.RawBarrier.poll_uncounted.Goals as goal

pub returns-clause-same : goal.returns-clause-same
returns-clause-same g c = c.arrive_on.ensures.same c.args.waiting.seat c.wait_lock-locked.ensures.same
