use Rattle.std.proofs.Common.{◌≡◌, ◌<◌, Err, arith, false-eqb, length, rules}
use Rattle.lockrun_script.specs.Lines.{is_byte}
use Rattle.lockrun_script.proofs.Lines.{lines-more}
use Rattle.lockrun_play.proofs.Faults.{come_none, come_more, come_fault, after_shorter}
use Rattle.lockrun_play.proofs.Plays.{played_none, played_more, played_all}
use Rattle.lockrun_play.proofs.Scripts.{lines-none}
use Rattle.lockrun_play.specs.Scripts.{IsLine}
use Rattle.lockrun_play.proofs.script.answer_each.Goals as goal

pub loop-rest-init : goal.loop-rest-init
loop-rest-init g c = record { good = λ all. all; played = rw c.requires.first (played_none _ _); few = omega arith; short = c.requires.short; come = rw c.requires.first (come_none _ _) }

pub loop-rest-preserved : goal.loop-rest-preserved
loop-rest-preserved g c = record {
  good = λ others.
      c.loop-rest.invariant.good (lines-more IsLine c.loop-rest.rest.now c.cut.result.0.now c.cut.result.1.now c.cut.ensures.piece c.cut.ensures.after c.in_ok-answer_line.ensures.line others);
  played = played_more _ _ _ _ _ _ _ _ _ c.loop-rest.invariant.played c.cut.ensures.piece c.cut.ensures.after c.in_ok-answer_line.ensures.played;
  few =
      let some : 0 < length c.loop-rest.rest.now = omega (arith, false-eqb _ 0 c.loop-rest-test.ensures) in
      after_shorter (is_byte 10) c.loop-rest.rest.now _ _ _ c.cut.ensures.after some c.loop-rest.invariant.few;
  short = c.loop-rest.invariant.short;
  come = come_more _ _ _ _ _ _ _ _ _ _ c.loop-rest.invariant.come c.loop-rest-test.ensures c.cut.ensures.piece c.cut.ensures.after c.in_ok-answer_line.ensures.played;
}

pub returns-clause-lines : goal.returns-clause-lines
returns-clause-lines g c = c.loop-rest.invariant.good (lines-none c.loop-rest.rest.now c.loop-rest-test.ensures)

pub returns-clause-played : goal.returns-clause-played
returns-clause-played g c = played_all _ _ _ _ _ c.loop-rest.invariant.played c.loop-rest-test.ensures

pub returns-in_err-answer_line-clause-fault : goal.returns-in_err-answer_line-clause-fault
returns-in_err-answer_line-clause-fault g c =
    let same : c.from_residual.result ≡ Err c.in_err-answer_line.field-0.0 = search rules in
    rw same (come_fault _ _ c.loop-rest.rest.now _ _ _ _ _ _ c.loop-rest.invariant.come c.loop-rest-test.ensures c.cut.ensures.piece c.in_err-answer_line.ensures.fault)
