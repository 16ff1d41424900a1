-- A dropped maker makes the cell empty, and an initialisation that was refused stays one of its maker.
use Rattle.std.proofs.Common.{refl}
use Rattle.sync_program.proofs.once_cell.start.Goals as goal

pub returns-in-Poll-ToMake : goal.returns-in-Poll-ToMake
returns-in-Poll-ToMake g c = rw (c.in-Poll-ToMake.is-0, c.in-Poll-ToMake.is-1) refl

pub returns-in-Drop-Making : goal.returns-in-Drop-Making
returns-in-Drop-Making g c = rw (c.in-Drop-Making.is-0, c.in-Drop-Making.is-1) refl
