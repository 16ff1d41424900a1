use Rattle.std.proofs.Common.{◌≡◌, ℕ, Err, ◌<◌, List, length, ap, arith, length-append, rules}
use Rattle.std.specs.Prelude.{Option, Some, None, IfSome}
use Rattle.std.specs.Io.KnownBytes.{Keeps}
use Rattle.lockrun_play.specs.declared.script.TheConstants.{LIMIT}
use Rattle.lockrun_play.specs.Scripts.{IsStartOfScript}
use Rattle.lockrun_play.proofs.Faults.{unread, whole_fault, Keeps-same}
use Rattle.lockrun_play.proofs.script.script.Goals as goal

-- nothing was answered of a text that is too long
nothing_answered : {P : Type 0} (input now : Option (List ℕ)) → P → IfSome input (λ text. LIMIT < length text → P × Keeps now now)
nothing_answered None now p = tt
nothing_answered (Some text) now p = λ long. (p, Keeps-same now)

pub returns-then-len-gt-LIMIT-clause-long : goal.returns-then-len-gt-LIMIT-clause-long
returns-then-len-gt-LIMIT-clause-long g c = nothing_answered (g.I.Read.remaining c.args.input.now) (g.O.Write.contents c.args.output.now) (search rules)

-- an input is too long where what was read of it is
too_long : (input left now : Option (List ℕ)) (text : List ℕ) → IsStartOfScript input left text → LIMIT < length text → IfSome input (λ whole. (LIMIT < length whole) × Keeps now now)
too_long None left now text start long = tt
too_long (Some xs) None now text start long = absurd start.taken
too_long (Some xs) (Some ys) now text start long = (omega (arith, long, ap length start.taken, length-append text ys), Keeps-same now)

pub returns-then-len-gt-LIMIT-clause-fault : goal.returns-then-len-gt-LIMIT-clause-fault
returns-then-len-gt-LIMIT-clause-fault g c = too_long _ _ (g.O.Write.contents c.args.output.now) _ c.in_ok-text.ensures.start (omega arith)

pub returns-clause-fault : goal.returns-clause-fault
returns-clause-fault g c =
    whole_fault _ _ _ _ _ _ c.answer_lines.result _ c.in_ok-text.ensures.start (omega arith) (rw c.as_slice.ensures.value at c.answer_lines.ensures.fault) c.flush.ensures.bytes (search rules)

pub returns-in_err-text-clause-fault : goal.returns-in_err-text-clause-fault
returns-in_err-text-clause-fault g c =
    let same : c.from_residual.result ≡ Err c.in_err-text.field-0.0 = search rules in
    rw same (unread _ _ (g.O.Write.contents c.args.output.now) c.in_err-text.ensures.system)
