-- A comment is skipped where all of it is printable.
use Rattle.std.proofs.Common.{Some, inr, sym, ap, ◌∙◌}
use Rattle.lockrun_script.proofs.line.is_skipped.Goals as goal

pub returns-then-first-eq35 : goal.returns-then-first-eq35
returns-then-first-eq35 c =
    let comment = sym c.in-Some.ensures.value ∙ ap Some c.if-first-eq35.true in
    ((λ printable. (c.is_printable.ensures.0 printable, inr comment)), (λ skipped. c.is_printable.ensures.1 skipped.0))
