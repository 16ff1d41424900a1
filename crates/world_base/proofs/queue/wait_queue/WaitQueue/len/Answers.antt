use Rattle.world_base.proofs.Prelude.{sym, ◌∙◌, party_of}
use Rattle.world_base.proofs.of_queue.Rekeyed.{length-rekeyed}
use Rattle.world_base.proofs.queue.wait_queue.WaitQueue.len.Goals as goal

pub returns : goal.returns
returns c = rw (← c.self.view_is) (c.len.ensures ∙ sym (length-rekeyed party_of c.self.inside.list.entries))
