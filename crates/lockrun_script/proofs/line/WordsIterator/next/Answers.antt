use Rattle.std.proofs.Common.{rules, sym, ◌∙◌, ap, length, arith}
use Rattle.lockrun_script.proofs.Lines.{words-taken, words-none}
use Rattle.lockrun_script.proofs.line.WordsIterator.next.Goals as goal

pub returns-then-not-is_empty-clause-steps : goal.returns-then-not-is_empty-clause-steps
returns-then-not-is_empty-clause-steps c =
    words-taken c.loop-rest.rest.now _ _ _ c.loop-rest.invariant.passed c.if-not-is_empty.ensures c.cut.ensures.piece c.cut.ensures.after

pub returns-then-not-is_empty-clause-goes : goal.returns-then-not-is_empty-clause-goes
returns-then-not-is_empty-clause-goes c =
    let taken = words-taken c.loop-rest.rest.now _ _ _ c.loop-rest.invariant.passed c.if-not-is_empty.ensures c.cut.ensures.piece c.cut.ensures.after in
    record { on = λ _. (tt, tt, omega (arith, ap length taken)); keeps = search rules; rests = search rules }

pub returns-clause-steps : goal.returns-clause-steps
returns-clause-steps c =
    let none = words-none c.loop-rest.rest.now c.loop-rest-test.ensures in
    let over = sym c.loop-rest.invariant.passed ∙ none in
    (over, c.loop-rest.invariant.kept ∙ over)
