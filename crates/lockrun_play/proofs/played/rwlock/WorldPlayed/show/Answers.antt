use Rattle.std.proofs.Common.{◌≡◌, ◌++◌, Bool, true, false, ap, refl}
use Rattle.std.specs.Prelude.{codes, not}
use Rattle.lockrun_play.specs.Answers.{list_text}
use Rattle.lockrun_play.proofs.Texts.{Appends-named, Appends-both}
use Rattle.lockrun_play.specs.RwLock.{numbers_text}
use Rattle.lockrun_play.proofs.played.rwlock.WorldPlayed.show.Goals as goal

held_is : (held nobody : Bool) → not held ≡ nobody → held ≡ not nobody
held_is true nobody e = ap not e
held_is false nobody e = ap not e

pub returns : goal.returns
returns g c =
    let w = c.args.self.now in
    let turn = Appends-named _ _ _ _ (codes " turnlist=") (list_text w.turn_list) (numbers_text w ++ codes " turnlist=" ++ list_text w.turn_list) c.in_ok-write_rwlock.ensures c.in_ok-write_list_of.ensures (rw (held_is _ _ c.is_turn_held.ensures, c.starved.ensures, c.is_writer_marked.ensures, c.readers.ensures, c.value.ensures) refl) in
    let no_readers = Appends-named _ _ _ _ (codes " noreaders=") (list_text w.no_readers) _ turn c.in_ok-write_list_of-2.ensures refl in
    let no_writer = Appends-named _ _ _ _ (codes " nowriter=") (list_text w.no_writer) _ no_readers c.in_ok-write_list_of-3.ensures refl in
    Appends-both _ _ _ _ _ _ _ no_writer c.writeln.ensures.bytes refl
