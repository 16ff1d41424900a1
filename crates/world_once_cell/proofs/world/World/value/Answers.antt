-- The value of a full cell is told.
use Rattle.std.proofs.Common.{refl}
use Rattle.world_once_cell.proofs.world.World.value.Goals as goal

pub returns-in-Full : goal.returns-in-Full
returns-in-Full c = rw (← c.content.ensures, c.in-Full.is) refl
