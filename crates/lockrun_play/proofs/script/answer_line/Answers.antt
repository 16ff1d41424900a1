use Rattle.std.proofs.Common.{◌≡◌, true, inl, refl}
use Rattle.lockrun_play.proofs.Faults.{no_line, needs_world, Keeps-same}
use Rattle.lockrun_play.proofs.Plays.{answered}
use Rattle.lockrun_play.proofs.script.answer_line.Goals as goal

pub returns-in-Some-clause-played : goal.returns-in-Some-clause-played
returns-in-Some-clause-played g c = answered _ _ _ _ _ _ _ c.in-Some.ensures.words c.in-Some.ensures.line.0 c.in-Some.ensures.line.1 c.answer_command.ensures.leads

pub returns-in-None-clause-fault : goal.returns-in-None-clause-fault
returns-in-None-clause-fault g c = (
  (refl, inl (no_line c.args.line.now _ (λ skipped. let not : c.is_skipped.result ≡ true = c.is_skipped.ensures.1 skipped in cc) c.in-None.is c.parse.ensures.asked)),
  Keeps-same _,
)

pub returns-in-Some-clause-fault : goal.returns-in-Some-clause-fault
returns-in-Some-clause-fault g c =
    needs_world _ _ _ _ _ _ c.answer_command.result c.in-Some.ensures.words c.in-Some.ensures.line.0 c.in-Some.ensures.line.1 c.answer_command.ensures.fault
