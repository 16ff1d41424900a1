use Rattle.std.proofs.Common.{◌≡◌, ℕ, List}
use Rattle.std.specs.Prelude.{Option, Result, Ok, Err, IfErr, OnOk, OnErr, IsOk}
use Rattle.lockrun_play.specs.declared.fault.Fault.{Fault}
use Rattle.lockrun_play.specs.declared.fault.Fault.TheVariants.{Write}
use Rattle.lockrun_play.specs.Plays.{TellsOfLine}
use Rattle.lockrun_play.proofs.Plays.{leads_new}
use Rattle.lockrun_play.proofs.script.answer_command.Goals as goal

-- A write's fault tells of no line.
only_of_a_write : {E : Type 0} (outcome : Result (Unit {0}) E) (result : Result (Unit {0}) Fault) (IsBadLine : ℕ → Type 0) (old new : Option (List ℕ)) → OnOk outcome (IsOk result) → OnErr outcome (result ≡ Err Write) → IfErr result (λ fault. TellsOfLine IsBadLine fault old new)
only_of_a_write (Ok done) (Ok said) IsBadLine old new ok err = tt
only_of_a_write (Ok done) (Err fault) IsBadLine old new ok err = cc
only_of_a_write (Err e) result IsBadLine old new ok err = rw err tt

pub returns-in-New-clause-leads : goal.returns-in-New-clause-leads
returns-in-New-clause-leads g c = leads_new _ _ _ _ _ _ _ c.in-New.is c.make.ensures.made

pub returns-in-Some-clause-fault : goal.returns-in-Some-clause-fault
returns-in-Some-clause-fault g c = only_of_a_write c.carry_out.result c.written.result _ _ _ c.written.ensures.ok c.written.ensures.err
