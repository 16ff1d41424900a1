use Rattle.std.proofs.Common.{ap}
use Rattle.lockrun_play.specs.Answers.{reply_text}
use Rattle.lockrun_play.proofs.played.carry_out.Goals as goal

-- The value that is put is that of the request.
pub returns-in-Put : goal.returns-in-Put
returns-in-Put g c = (reply_text c.put.result, rw c.in-Put.is (c.put.ensures.put, ap reply_text c.put.ensures.reply), c.write_reply.ensures)
