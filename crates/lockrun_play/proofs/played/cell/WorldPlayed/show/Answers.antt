use Rattle.std.proofs.Common.{refl, subst}
use Rattle.std.specs.Prelude.{codes}
use Rattle.std.specs.Io.KnownBytes.{Appends}
use Rattle.lockrun_play.specs.Answers.{list_text}
use Rattle.lockrun_play.specs.Cell.{content_text}
use Rattle.lockrun_play.proofs.Texts.{Appends-named, Appends-both}
use Rattle.lockrun_play.proofs.played.cell.WorldPlayed.show.Goals as goal

pub returns : goal.returns
returns g c =
    let w = c.args.self.now in
    let content = subst (λ x. Appends (g.O.Write.contents c.args.output.now) (g.O.Write.contents c.write_content.new.output) (content_text x)) c.content.ensures c.in_ok-write_content.ensures in
    let active = Appends-named _ _ _ _ (codes " active=") (list_text w.active) _ content c.in_ok-write_list_of.ensures refl in
    let passive = Appends-named _ _ _ _ (codes " passive=") (list_text w.passive) _ active c.in_ok-write_list_of-2.ensures refl in
    Appends-both _ _ _ _ _ _ _ passive c.writeln.ensures.bytes refl
