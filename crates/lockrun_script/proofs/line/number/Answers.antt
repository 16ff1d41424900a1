use Rattle.std.proofs.Common.{subst, sym, arith, ◌∙◌}
use Rattle.std.specs.Str.Parse.{ParsesUnsigned}
use Rattle.lockrun_script.proofs.Numbers.{no_text, text_is, no_number, a_number}
use Rattle.lockrun_script.proofs.line.number.Goals as goal

pub returns-in_err-text-clause-refused : goal.returns-in_err-text-clause-refused
returns-in_err-text-clause-refused c =
    rw c.from_residual.ensures (no_text _ _ c.args.word.now c.from_utf8.result c.from_utf8.ensures.cases (sym c.in_err-text.was ∙ c.ok.ensures.value))

pub returns-clause-value : goal.returns-clause-value
returns-clause-value c =
    let same = text_is (λ s. s.now) _ _ c.args.word.now c.from_utf8.result c.in_ok-text.text c.from_utf8.ensures.cases c.in_ok-text.ensures.value in
    a_number c.args.word.now c.parse.result c.ok-2.result (omega arith) (c.is_digits.ensures.0 c.if-not-is_digits.false) (subst (λ t. ParsesUnsigned 64 10 t c.parse.result) same c.parse.ensures.value.0) c.ok-2.ensures.value

pub returns-clause-refused : goal.returns-clause-refused
returns-clause-refused c =
    let same = text_is (λ s. s.now) _ _ c.args.word.now c.from_utf8.result c.in_ok-text.text c.from_utf8.ensures.cases c.in_ok-text.ensures.value in
    no_number c.args.word.now c.parse.result c.ok-2.result (c.is_digits.ensures.0 c.if-not-is_digits.false) (subst (λ t. ParsesUnsigned 64 10 t c.parse.result) same c.parse.ensures.value.0) c.ok-2.ensures.value
