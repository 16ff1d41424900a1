use Rattle.std.proofs.Common.{◌++◌, refl}
use Rattle.std.specs.Prelude.{codes}
use Rattle.lockrun_play.specs.Answers.{list_text}
use Rattle.lockrun_play.proofs.Texts.{Appends-named, Appends-both}
use Rattle.lockrun_play.specs.Barrier.{numbers_text}
use Rattle.lockrun_play.proofs.played.barrier.WorldPlayed.show.Goals as goal

pub returns : goal.returns
returns g c =
    let w = c.args.self.now in
    let lock = Appends-named _ _ _ _ (codes " lock=") (list_text w.lock_list) (numbers_text w ++ codes " lock=" ++ list_text w.lock_list) c.in_ok-write_barrier.ensures c.in_ok-write_list_of.ensures (rw (c.count.ensures, c.generation.ensures, c.is_locked.ensures, c.starved.ensures) refl) in
    let list = Appends-named _ _ _ _ (codes " list=") (list_text w.list) _ lock c.in_ok-write_list_of-2.ensures refl in
    Appends-both _ _ _ _ _ _ _ list c.writeln.ensures.bytes refl
