-- While a call goes on, its party is inside.
use Rattle.std.proofs.Common.{refl}
use Rattle.world_base.proofs.table.stages.stage_after.Goals as goal

pub returns-in-Stepped : goal.returns-in-Stepped
returns-in-Stepped c = rw c.in-Stepped.is refl
