-- A starved party that finds the lock held asks for its notification.
use Rattle.std.proofs.Common.{refl}
use Rattle.lock_program.proofs.mutex.after_look_alone.Goals as goal

pub returns-in-Held : goal.returns-in-Held
returns-in-Held c = rw c.in-Held.is refl
