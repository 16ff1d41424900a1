use Rattle.std.proofs.Common.{◌≡◌, List, ℕ, ◌∙◌, sym}
use Rattle.lockrun_script.proofs.Calls.{no_call, numbered}
use Rattle.lockrun_script.proofs.command.call.Goals as goal

pub returns-in_err-number-in-None-clause-asked : goal.returns-in_err-number-in-None-clause-asked
returns-in_err-number-in-None-clause-asked c = λ asked others h.
    let same : c.permits_call.new.words ≡ c.next.new.self = c.in-None.ensures.none in
    absurd (no_call c.args.words.now c.next.new.self others c.in_ok-word.word.now asked c.in_ok-word.ensures.steps
    (λ d. c.in_default.not-Some asked (c.plain_call.ensures.asked asked d))
    (λ d. let none = (c.in-None.ensures.asked asked others d).0 in absurd cc)
    (λ w rest are d. let some = c.in_err-number-in-None.ensures.none w rest (same ∙ are) d in absurd cc) h)

pub returns-in_ok-number-in-None-clause-asked : goal.returns-in_ok-number-in-None-clause-asked
returns-in_ok-number-in-None-clause-asked c = λ asked others h.
    let same : c.permits_call.new.words ≡ c.next.new.self = c.in-None.ensures.none in
    let (digits, are, writes) = c.in_ok-number-in-None.ensures.taken in
    numbered c.args.words.now c.next.new.self others c.number.new.words c.in_ok-word.word.now digits _ _ asked c.in_ok-word.ensures.steps
    (λ d. c.in_default.not-Some asked (c.plain_call.ensures.asked asked d))
    (λ d. let none = (c.in-None.ensures.asked asked others d).0 in absurd cc) (sym same ∙ are) writes (c.numbered_call.ensures.asked asked) h
