-- A lock that is given back is told of to the next.
use Rattle.std.proofs.Common.{refl}
use Rattle.lock_program.proofs.mutex.after_decision.Goals as goal

pub returns-in-Clear : goal.returns-in-Clear
returns-in-Clear c = rw c.in-Clear.is refl
