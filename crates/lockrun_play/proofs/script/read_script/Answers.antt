use Rattle.std.proofs.Common.{◌+◌, ◌≤◌, ◌<◌, vec_len, length, take, arith, drop, length-append, length-drop, length-take, ap, ◌∙◌}
use Rattle.std.specs.Prelude.{Ok}
use Rattle.lockrun_play.proofs.Reading.{Consumes-more}
use Rattle.lockrun_play.proofs.script.read_script.Goals as goal

pub returns-in-IsAtEnd-clause-start : goal.returns-in-IsAtEnd-clause-start
returns-in-IsAtEnd-clause-start g c =
    let room : 0 < length (take c.min-room.result c.loop.chunk) = omega (arith, length-take c.min-room.result c.loop.chunk, c.loop.invariant.full, c.len.ensures, c.min-room.ensures, c.if-room-eq0.false) in
    let most : vec_len c.read_more.new.text ≤ vec_len c.loop.text + length (take c.min-room.result c.loop.chunk) = c.in_ok-read_more.ensures.most in
    record {
      taken = Consumes-more _ _ _ c.loop.text.items c.read_more.new.text.items c.loop.invariant.taken c.read_more.ensures.starts c.in_ok-read_more.ensures.moved;
      whole = λ _. c.read_more.ensures.end (c.in_ok-read_more.was ∙ ap Ok c.in-IsAtEnd.is) room;
      most = omega (arith, most, length-take c.min-room.result c.loop.chunk, c.read_more.new.text.ok.0, c.loop.text.ok.0, c.len.ensures, c.min-room.ensures, c.loop.invariant.most);
    }

pub loop-preserved : goal.loop-preserved
loop-preserved g c =
    let most : vec_len c.read_more.new.text ≤ vec_len c.loop.text + length (take c.min-room.result c.loop.chunk) = c.in_ok-read_more.ensures.most in
    record {
      taken = Consumes-more _ _ _ c.loop.text.items c.read_more.new.text.items c.loop.invariant.taken c.read_more.ensures.starts c.in_ok-read_more.ensures.moved;
      most = omega (arith, most, length-take c.min-room.result c.loop.chunk, c.read_more.new.text.ok.0, c.loop.text.ok.0, c.len.ensures, c.min-room.ensures, c.loop.invariant.most);
      full = omega (arith, length-append c.read_more.new.buffer (drop c.min-room.result c.loop.chunk), c.read_more.auto.buffer, length-take c.min-room.result c.loop.chunk, length-drop c.min-room.result c.loop.chunk, c.loop.invariant.full);
    }
