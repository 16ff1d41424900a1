-- A text that is too long, and a line that is bad, are faults of the script.
use Rattle.std.proofs.Common.{◌≡◌, ◌⊎◌, inl, inr, ℕ, ap, sym}
use Rattle.lockrun_play.specs.Faults.{status_of}
use Rattle.lockrun_play.specs.declared.fault.Fault.{Fault}
use Rattle.lockrun_play.specs.declared.fault.Fault.TheVariants.{TooLong, BadLine}
use Rattle.lockrun_play.proofs.fault.Fault.status.Goals as goal

of_script : (fault : Fault) → (fault ≡ TooLong) ⊎ ((line : ℕ) × (fault ≡ BadLine line)) → 1 ≡ status_of fault
of_script fault (inl e) = sym (ap status_of e)
of_script fault (inr e) = sym (ap status_of e.1)

pub returns-in-TooLong : goal.returns-in-TooLong
returns-in-TooLong c = of_script c.args.self c.in-TooLong.is
