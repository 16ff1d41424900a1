-- A set has its own value back.
use Rattle.std.proofs.Common.{refl}
use Rattle.sync_program.proofs.once_cell.got_at.Goals as goal

pub returns-in-Given : goal.returns-in-Given
returns-in-Given g c = rw c.in-Given.is refl
