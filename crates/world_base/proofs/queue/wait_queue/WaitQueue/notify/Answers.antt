use Rattle.world_base.proofs.Prelude.{◌-◌, ap, arith, length, ◌∙◌, Notified, marked_count, by_party, party_of, queue}
use Rattle.world_base.proofs.of_queue.Queues.{marked}
use Rattle.world_base.proofs.of_queue.Rekeyed.{rekeyed-notified}
use Rattle.world_base.proofs.queue.wait_queue.WaitQueue.notify.Goals as goal

pub invariant_of-self : goal.invariant_of-self
invariant_of-self c =
    rw c.notify.ensures.entries
    (marked c.self.inside.seats.items c.self.inside.list.entries c.self.inside.list.room c.self.invariant Notified (c.args.n - marked_count c.self.inside.list.entries) _ (omega (arith, c.notify.ensures.room)))

pub returns : goal.returns
returns c = rw (← c.self.view_is) (ap (λ e. queue (length c.self.inside.seats.items) e) (ap by_party c.notify.ensures.entries ∙ rekeyed-notified party_of c.self.inside.list.entries c.args.n))
