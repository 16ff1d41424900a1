use Rattle.std.proofs.Common.{◌≡◌, ◌++◌, map}
use Rattle.lockrun_script.specs.Inputs.{WritesInputs}
use Rattle.lockrun_script.proofs.inputs.parse.Given as goal

-- the words so far give the inputs so far, and the others are still to come
abbrev pub invariant-loop-word : goal.invariant-loop-word
invariant-loop-word l = record {
  given : WritesInputs (map (λ word. word.now) l.yielded) l.inputs;
  others : l.fn.words ≡ map (λ word. word.now) l.yielded ++ l.word-iterator;
}
