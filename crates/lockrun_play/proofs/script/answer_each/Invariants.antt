use Rattle.std.proofs.Common.{◌+◌, ◌≤◌, length}
use Rattle.std.specs.Prelude.{All}
use Rattle.lockrun_script.specs.Lines.{lines_of}
use Rattle.lockrun_play.specs.declared.script.TheConstants.{LIMIT}
use Rattle.lockrun_play.specs.Scripts.{IsLine}
use Rattle.lockrun_play.proofs.Faults.{HasCome}
use Rattle.lockrun_play.proofs.Plays.{HasPlayed}
use Rattle.lockrun_play.proofs.script.answer_each.Given as goal

-- the lines so far were good, so all are if those left are; they were played; and so were they one by one, each of at least one byte
abbrev pub invariant-loop-rest : goal.invariant-loop-rest
invariant-loop-rest g l = record {
  good : All IsLine (lines_of l.rest) → All IsLine (lines_of l.text);
  played : HasPlayed l.text l.rest l.world (g.O.Write.contents l.fn.output) (g.O.Write.contents l.output);
  few : l.number + length l.rest ≤ length l.text;
  short : length l.text ≤ LIMIT;
  come : HasCome l.number l.text l.rest l.world (g.O.Write.contents l.fn.output) (g.O.Write.contents l.output);
}

abbrev pub decreases-loop-rest : goal.decreases-loop-rest
decreases-loop-rest g l = length l.rest
