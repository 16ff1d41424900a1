use Rattle.world_base.proofs.Prelude.{sym, ◌∙◌, party_of, unladen, unweighed}
use Rattle.world_base.proofs.of_queue.Rekeyed.{length-rekeyed}
use Rattle.world_base.proofs.queue.weighted_queue.WeightedQueue.len.Goals as goal

pub returns : goal.returns
returns c = rw (← c.self.view_is) (c.len.ensures ∙ (sym (length-rekeyed unladen c.self.inside.list.entries) ∙ sym (length-rekeyed party_of (unweighed c.self.inside.list.entries))))
