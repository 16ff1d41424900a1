use Rattle.std.proofs.Common.{rules, refl, ◌∙◌, tests}
use Rattle.std.proofs.lemmas.Iterator.{YieldsList-from_slice}
use Rattle.std.proofs.lemmas.Iterator.Search.{position_from_yields_List}
use Rattle.lockrun_script.specs.Lines.{is_byte}
use Rattle.lockrun_script.proofs.Lines.{position-found}
use Rattle.lockrun_script.proofs.line.first_end.Goals as goal

pub returns : goal.returns
returns c =
    let found = position_from_yields_List (is_byte c.args.end) _ _ c.position.result c.position.ensures.ran (YieldsList-from_slice c.args.text.now cc) (λ x b q k. search (rules, tests)) in
    c.unwrap_or.ensures ∙ position-found (is_byte c.args.end) c.args.text.now _ _ refl found
