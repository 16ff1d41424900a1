use Rattle.std.proofs.Common.{◌≡◌, ◌∙◌, ap, sym}
use Rattle.lockrun_play.specs.Answers.{mark_text}
use lib.Utf8.{encode}
use Rattle.lockrun_play.proofs.answer.write_entry.Goals as goal
use Rattle.lockrun_play.proofs.answer.write_entry.Goals.{in-Waiting, in-Notified, in-Additional}

-- The letter is that of the mark.
pub returns : goal.returns
unfolding encode
returns g c =
    let letter : encode c.match-entry.letter ≡ mark_text c.args.entry.now.mark = elim c.match-entry.branch [
      | in-Waiting w ↦ ap encode w.letter-is ∙ sym (ap mark_text w.in-Waiting.is)
      | in-Notified w ↦ ap encode w.letter-is ∙ sym (ap mark_text w.in-Notified.is)
      | in-Additional w ↦ ap encode w.letter-is ∙ sym (ap mark_text w.in-Additional.is)
    ] in
    rw (sym letter) c.write.ensures.bytes
