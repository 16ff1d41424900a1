-- An arrival of the generation that is not finished is not over.
use Rattle.world_barrier.proofs.program.words.Words.check.Goals as goal

pub returns-then-arrival-self : goal.returns-then-arrival-self
returns-then-arrival-self c = c.if-arrival-self.true
