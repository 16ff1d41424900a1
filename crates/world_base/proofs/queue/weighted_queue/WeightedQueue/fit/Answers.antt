use Rattle.world_base.proofs.Prelude.{ap, arith, length, ◌∙◌, by_party, unweighed, weighted_queue}
use Rattle.world_base.proofs.of_queue.Weighted.{fits}
use Rattle.world_base.proofs.queue.weighted_queue.WeightedQueue.fit.Goals as goal

pub invariant_of-self : goal.invariant_of-self
invariant_of-self c =
    rw c.fit.ensures.entries
    (fits c.self.inside.seats.items c.self.inside.weights.items c.self.inside.list.entries c.self.inside.list.room c.self.invariant c.args.a c.fit.new.self.room (omega (arith, c.fit.ensures.room))).0

pub returns : goal.returns
returns c =
    rw (← c.self.view_is) (ap (λ e. weighted_queue (length c.self.inside.seats.items) e c.self.inside.weights.items) (ap (λ l. by_party (unweighed l)) c.fit.ensures.entries
    ∙ (fits c.self.inside.seats.items c.self.inside.weights.items c.self.inside.list.entries c.self.inside.list.room c.self.invariant c.args.a c.fit.new.self.room (omega (arith, c.fit.ensures.room))).1))
