use Rattle.std.proofs.Common.{arith, sym, ◌∙◌, ap, drop, ◌+◌}
use Rattle.std.specs.Prelude.{not}
use Rattle.std.proofs.lemmas.List.Sums.{prefix_len-le-length}
use Rattle.lockrun_script.specs.Lines.{is_byte}
use Rattle.lockrun_script.proofs.Lines.{after-drop}
use Rattle.lockrun_script.proofs.line.cut.Goals as goal

pub split_at-requires : goal.split_at-requires
split_at-requires c = omega (arith, c.first_end.ensures, prefix_len-le-length (λ x. not (is_byte c.args.end x)) c.args.text.now)

pub returns-in-Some-clause-after : goal.returns-in-Some-clause-after
returns-in-Some-clause-after c =
    after-drop c.first_end.result c.args.text.now _ _ (sym c.split_at.ensures.back ∙ c.in-Some.ensures.cases.0)
    ∙ ap (λ n. drop (n + 1) c.args.text.now) c.first_end.ensures
