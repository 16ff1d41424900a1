-- Nothing was told of a script that was answered, and what is told of another is that it is at fault.
use Rattle.std.proofs.Common.{sym, ◌∙◌}
use Rattle.lockrun_play.proofs.Faults.{at_fault, Keeps-same}
use Rattle.lockrun_play.proofs.script.run_script.Goals as goal

pub returns-in-Ok-clause-quiet : goal.returns-in-Ok-clause-quiet
returns-in-Ok-clause-quiet g c = λ zero. Keeps-same (g.E.Write.contents c.args.errors.now)

pub returns-in-Err-clause-fault : goal.returns-in-Err-clause-fault
returns-in-Err-clause-fault g c = λ one. at_fault c.in-Err.fault _ _ _ (sym c.report.ensures ∙ one) c.in-Err.ensures.fault
