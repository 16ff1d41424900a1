-- Who is refused as starved is told so.
use Rattle.std.proofs.Common.{refl}
use Rattle.lock_program.proofs.refusal.Refusal.number.Goals as goal

pub returns-in-Starved : goal.returns-in-Starved
returns-in-Starved c = rw c.in-Starved.is refl
