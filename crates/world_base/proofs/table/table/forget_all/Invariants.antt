use Rattle.world_base.proofs.Prelude.{◌≡◌, ◌++◌, take, drop, map, forgets}
use Rattle.world_base.proofs.table.table.forget_all.Given as goal

abbrev pub invariant-loop-stage : goal.invariant-loop-stage
invariant-loop-stage l = take l.stage-index l.stage-items ++ map forgets (drop l.stage-index l.stage-items) ≡ map forgets l.initial.stage-items
