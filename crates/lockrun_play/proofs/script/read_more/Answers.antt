use Rattle.std.proofs.Common.{◌≡◌, refl}
use Rattle.std.specs.Prelude.{Result, Err}
use Rattle.lockrun_play.specs.declared.fault.Fault.{Fault}
use Rattle.lockrun_play.specs.declared.fault.Fault.TheVariants.{Memory, Read}
use Rattle.lockrun_play.proofs.script.read_more.Goals as goal

-- Memory that was refused is no failed read.
no_failed_read : {A : Type 0} (outcome : Result A Fault) → outcome ≡ Err Memory → outcome ≡ Err Read → ⊥
no_failed_read outcome memory failed = absurd cc

pub returns-in-Err-extend_from_slice-clause-failed : goal.returns-in-Err-extend_from_slice-clause-failed
returns-in-Err-extend_from_slice-clause-failed g c = λ failed. absurd (no_failed_read _ refl failed)
