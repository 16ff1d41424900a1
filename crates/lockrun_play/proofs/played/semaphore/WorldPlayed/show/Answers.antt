use Rattle.std.proofs.Common.{refl}
use Rattle.std.specs.Prelude.{codes}
use Rattle.lockrun_play.specs.Answers.{list_text}
use Rattle.lockrun_play.proofs.Texts.{Appends-named, Appends-both}
use Rattle.lockrun_play.specs.Semaphore.{text_of}
use Rattle.lockrun_play.proofs.played.semaphore.WorldPlayed.show.Goals as goal

pub returns : goal.returns
returns g c =
    let w = c.args.self.now in
    let list = Appends-named _ _ _ _ (codes " list=") (list_text w.entries) (text_of w) c.in_ok-write_semaphore.ensures c.in_ok-write_named_list.ensures (rw (c.available.ensures, c.limit.ensures) refl) in
    Appends-both _ _ _ _ _ _ _ list c.writeln.ensures.bytes refl
