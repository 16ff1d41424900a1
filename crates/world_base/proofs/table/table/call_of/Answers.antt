-- A call that began goes on.
use Rattle.std.proofs.Common.{refl}
use Rattle.world_base.proofs.table.table.call_of.Goals as goal

pub returns-in-Go-what : goal.returns-in-Go-what
returns-in-Go-what g c = rw (c.in-Inside.is, c.in-Go-what.is) refl
