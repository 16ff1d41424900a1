use Rattle.lockrun_script.proofs.Maker.{maker_added, maker_refused}
use Rattle.lockrun_script.proofs.inputs.with_word.Goals as goal

pub returns-in_err-inputs-in-Maker-clause-none : goal.returns-in_err-inputs-in-Maker-clause-none
returns-in_err-inputs-in-Maker-clause-none c = λ passed rest h.
    rw c.from_residual.ensures (λ i a.
    let told = c.in_err-inputs-in-Maker.ensures.asked i.made (maker_refused passed rest c.args.word.now c.args.inputs i h (c.is_pending.ensures.0 c.if-is_pending.true) (c.topic_of.ensures.maker c.in-Maker.is) a) in
    absurd cc)

pub returns-in_ok-inputs-in-Maker-clause-words : goal.returns-in_ok-inputs-in-Maker-clause-words
returns-in_ok-inputs-in-Maker-clause-words c = λ passed h.
    maker_added passed c.args.word.now c.args.inputs c.in_ok-inputs-in-Maker.field-0 h (c.is_pending.ensures.0 c.if-is_pending.true) (c.topic_of.ensures.maker c.in-Maker.is) c.in_ok-inputs-in-Maker.ensures.words
