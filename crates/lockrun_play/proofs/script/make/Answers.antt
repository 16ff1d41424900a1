use Rattle.std.proofs.Common.{rules}
use Rattle.lockrun_play.proofs.Faults.{Keeps-same}
use Rattle.lockrun_play.proofs.Plays.{made_new, made_none}
use Rattle.lockrun_play.proofs.script.make.Goals as goal

pub returns-in-Ok-clause-made : goal.returns-in-Ok-clause-made
returns-in-Ok-clause-made g c = made_new _ _ _ _ _ _ c.in-Ok.ensures.made c.in-Ok.ensures.fits (search rules)

pub returns-in-Err-Permits-clause-made : goal.returns-in-Err-Permits-clause-made
returns-in-Err-Permits-clause-made g c =
    made_none _ _ c.number.result _ _ _ _ c.in-Err-Permits.ensures.refused c.in-Err-Permits.field-0-is c.number.ensures (search rules)

pub returns-in-Err : goal.returns-in-Err
returns-in-Err g c = record { made = tt; system = Keeps-same (g.O.Write.contents c.args.output.now) }
