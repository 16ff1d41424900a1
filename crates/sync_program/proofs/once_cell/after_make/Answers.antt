-- A maker that failed leaves an empty cell.
use Rattle.std.proofs.Common.{refl}
use Rattle.sync_program.proofs.once_cell.after_make.Goals as goal

pub returns-in-Failed : goal.returns-in-Failed
returns-in-Failed g c = rw c.in-Failed.is refl
