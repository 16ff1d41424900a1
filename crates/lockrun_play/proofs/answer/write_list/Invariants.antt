use Rattle.std.proofs.Common.{◌++◌, codes}
use Rattle.std.specs.Prelude.{take, map}
use Rattle.std.specs.List.{join_with_byte}
use Rattle.std.specs.Io.KnownBytes.{Appends}
use Rattle.lockrun_play.specs.Answers.{entry_text}
use Rattle.lockrun_play.proofs.answer.write_list.Given as goal

-- the entries so far are written after the bracket
abbrev pub invariant-loop-index : goal.invariant-loop-index
invariant-loop-index g l = Appends (g.O.Write.contents l.fn.output) (g.O.Write.contents l.output) (codes "[" ++ join_with_byte 32 (map entry_text (take l.index (g.L.Listed.entries l.list))))
