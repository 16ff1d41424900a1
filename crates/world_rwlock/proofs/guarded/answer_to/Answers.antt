-- A call that is over is answered by its end, over the number.
use Rattle.world_rwlock.proofs.Prelude.{ap, sym, ◌∙◌, answer_by}
use Rattle.world_rwlock.proofs.guarded.answer_to.Goals as goal

pub returns-in-End : goal.returns-in-End
returns-in-End c = c.answer.ensures ∙ sym (ap (answer_by c.args.value) c.in-End.is)
