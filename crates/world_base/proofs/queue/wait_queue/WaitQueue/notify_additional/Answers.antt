use Rattle.world_base.proofs.Prelude.{ap, arith, length, ◌∙◌, Additional, by_party, party_of, queue}
use Rattle.world_base.proofs.of_queue.Queues.{marked}
use Rattle.world_base.proofs.of_queue.Rekeyed.{rekeyed-mark_waiting}
use Rattle.world_base.proofs.queue.wait_queue.WaitQueue.notify_additional.Goals as goal

pub invariant_of-self : goal.invariant_of-self
invariant_of-self c =
    rw c.notify_additional.ensures.entries
    (marked c.self.inside.seats.items c.self.inside.list.entries c.self.inside.list.room c.self.invariant Additional c.args.n _ (omega (arith, c.notify_additional.ensures.room)))

pub returns : goal.returns
returns c = rw (← c.self.view_is) (ap (λ e. queue (length c.self.inside.seats.items) e) (ap by_party c.notify_additional.ensures.entries ∙ rekeyed-mark_waiting party_of Additional c.args.n c.self.inside.list.entries))
