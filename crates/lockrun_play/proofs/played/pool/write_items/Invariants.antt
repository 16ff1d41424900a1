use Rattle.std.proofs.Common.{◌++◌, codes}
use Rattle.std.specs.Prelude.{take, map, decimal}
use Rattle.std.specs.List.{join_with_byte}
use Rattle.std.specs.Io.KnownBytes.{Appends}
use Rattle.lockrun_play.proofs.played.pool.write_items.Given as goal

-- the items so far are written after the bracket
abbrev pub invariant-loop-index : goal.invariant-loop-index
invariant-loop-index g l = Appends (g.O.Write.contents l.fn.output) (g.O.Write.contents l.output) (codes "[" ++ join_with_byte 32 (map decimal (take l.index l.world.items)))
