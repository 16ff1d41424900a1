-- What the words ask for decides which clauses speak.
use Rattle.std.proofs.Common.{◌≡◌, ◌∙◌, ap}
use Rattle.std.specs.Prelude.{Some}
use Rattle.lockrun_play.specs.declared.task.Task.TheVariants.{Script, Threads}
use Rattle.lockrun_runner.proofs.Asked.{only_script, not_both, asks_of, asks_nothing}
use Rattle.lockrun_runner.proofs.program.run.Goals as goal

pub returns-in-Some-Script-clause-usage : goal.returns-in-Some-Script-clause-usage
returns-in-Some-Script-clause-usage g c = λ none. absurd (none Script (asks_of _ c.parse.result Script (c.in-Some-Script.is ∙ ap Some c.in-Some-Script.field-0-is) c.parse.ensures.asks))

pub returns-in-Some-Script-clause-threads : goal.returns-in-Some-Script-clause-threads
returns-in-Some-Script-clause-threads g c = λ count asks. absurd (not_both _ count (asks_of _ c.parse.result Script (c.in-Some-Script.is ∙ ap Some c.in-Some-Script.field-0-is) c.parse.ensures.asks) asks)

pub returns-in-Some-Threads-clause-usage : goal.returns-in-Some-Threads-clause-usage
returns-in-Some-Threads-clause-usage g c = λ none. absurd (none (Threads c.in-Some-Threads.workers) (asks_of _ c.parse.result (Threads c.in-Some-Threads.workers) (c.in-Some-Threads.is ∙ ap Some c.in-Some-Threads.field-0-is) c.parse.ensures.asks))

pub returns-in-Some-Threads-clause-script : goal.returns-in-Some-Threads-clause-script
returns-in-Some-Threads-clause-script g c = λ e zero. absurd (not_both _ c.in-Some-Threads.workers e (asks_of _ c.parse.result (Threads c.in-Some-Threads.workers) (c.in-Some-Threads.is ∙ ap Some c.in-Some-Threads.field-0-is) c.parse.ensures.asks))

pub returns-in-Some-Threads-clause-played : goal.returns-in-Some-Threads-clause-played
returns-in-Some-Threads-clause-played g c = λ e zero. absurd (not_both _ c.in-Some-Threads.workers e (asks_of _ c.parse.result (Threads c.in-Some-Threads.workers) (c.in-Some-Threads.is ∙ ap Some c.in-Some-Threads.field-0-is) c.parse.ensures.asks))

pub returns-in-Some-Threads-clause-long : goal.returns-in-Some-Threads-clause-long
returns-in-Some-Threads-clause-long g c = λ e. absurd (not_both _ c.in-Some-Threads.workers e (asks_of _ c.parse.result (Threads c.in-Some-Threads.workers) (c.in-Some-Threads.is ∙ ap Some c.in-Some-Threads.field-0-is) c.parse.ensures.asks))

pub returns-in-None-clause-asked : goal.returns-in-None-clause-asked
returns-in-None-clause-asked g c = λ task asks. absurd (asks_nothing _ c.parse.result c.in-None.is c.parse.ensures.none task asks)

pub returns-in-None-clause-threads : goal.returns-in-None-clause-threads
returns-in-None-clause-threads g c = λ count asks. absurd (asks_nothing _ c.parse.result c.in-None.is c.parse.ensures.none (Threads count) asks)

pub returns-in-None-clause-long : goal.returns-in-None-clause-long
returns-in-None-clause-long g c = λ e.
    let script : c.parse.result ≡ Some Script = only_script _ c.parse.result c.parse.ensures.asks c.parse.ensures.none e in
    absurd cc
