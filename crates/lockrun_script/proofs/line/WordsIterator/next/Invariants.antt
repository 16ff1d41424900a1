use Rattle.std.proofs.Common.{◌≡◌, length}
use Rattle.lockrun_script.specs.Lines.{words_of}
use Rattle.lockrun_script.proofs.line.WordsIterator.next.Given as goal

-- the pieces that were passed over are no words, and nothing was taken
abbrev pub invariant-loop-rest : goal.invariant-loop-rest
invariant-loop-rest l = record {
  passed : words_of l.rest ≡ l.fn.self;
  kept : words_of l.self-inside.rest.now ≡ l.fn.self;
}

abbrev pub decreases-loop-rest : goal.decreases-loop-rest
decreases-loop-rest l = length l.rest
