use Rattle.barrier_core.proofs.raw.RawBarrier.arrive_on.Goals as goal

pub returns-in-Got-clause-same : goal.returns-in-Got-clause-same
returns-in-Got-clause-same g c = λ seat by. c.arrive_with.ensures.same seat
