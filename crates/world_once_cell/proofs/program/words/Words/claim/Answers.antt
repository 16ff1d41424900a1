-- Only an empty cell's value is begun to be made.
use Rattle.world_once_cell.proofs.Prelude.{sym, ap, claimed_after, content_of, Found}
use Rattle.world_once_cell.proofs.program.words.Words.claim.Goals as goal

pub returns-in-Empty-clause-content : goal.returns-in-Empty-clause-content
returns-in-Empty-clause-content c = sym (ap (λ (f : Found). claimed_after c.args.party f (content_of c.args.self.now)) c.in-Empty.is)
