-- A party is told what its entry says.
use Rattle.std.proofs.Common.{sym, ◌∙◌}
use Rattle.world_barrier.proofs.program.effects.ask_in.Goals as goal

pub returns-then-ask-clause-finds : goal.returns-then-ask-clause-finds
returns-then-ask-clause-finds c = sym c.ask.ensures.answer ∙ c.if-ask.true
