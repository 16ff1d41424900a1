-- A maker that failed is told of as one that failed.
use Rattle.std.proofs.Common.{refl}
use Rattle.world_once_cell.proofs.program.effects.polled.Goals as goal

pub returns-in-Fail : goal.returns-in-Fail
returns-in-Fail c = rw (c.in-Closure.is, c.in-Fail.is) refl
