use Rattle.world_base.proofs.Prelude.{◌≡◌, ◌<◌, None, length, refl, ap, sym, ◌∙◌, length-set, set, get_or_default, by_party, entries_of, unweighed, seat_at}
use Rattle.world_base.proofs.of_queue.Weighted.{seat, asked, takes}
use Rattle.world_base.proofs.queue.weighted_queue.WeightedQueue.remove.Goals as goal

-- the seat as it is read
pub remove-told-requires : goal.remove-told-requires
remove-told-requires c =
    let known : c.args.party < length c.self.inside.seats.items = rw (ap (λ q. q.parties) c.self.view_is) c.requires.known in
    let its : c.index.result.now ≡ seat_at c.self.inside.seats.items c.args.party = c.index.ensures ∙ get_or_default c.self.inside.seats.items c.args.party c.index.result.now None known in
    let some : 0 < entries_of c.args.party (by_party (unweighed c.self.inside.list.entries)) = rw (ap (λ q. q.entries) c.self.view_is) c.requires.listed in
    rw its (seat c.self.inside.seats.items c.self.inside.weights.items c.self.inside.list.entries c.self.inside.list.room c.self.invariant c.args.party known some)

pub invariant_of-self : goal.invariant_of-self
invariant_of-self c =
    let known : c.args.party < length c.self.inside.seats.items = rw (ap (λ q. q.parties) c.self.view_is) c.requires.known in
    let its : c.index.result.now ≡ seat_at c.self.inside.seats.items c.args.party = c.index.ensures ∙ get_or_default c.self.inside.seats.items c.args.party c.index.result.now None known in
    (takes c.self.inside.seats.items c.self.inside.weights.items c.self.inside.list.entries c.self.inside.list.room c.self.invariant c.args.party known c.remove-told.new.seat c.remove-told.new.list.entries c.remove-told.new.list.room c.remove-told.ensures.room (rw its at c.remove-told.ensures.gone)).0

pub returns-clause-gone : goal.returns-clause-gone
returns-clause-gone c =
    let known : c.args.party < length c.self.inside.seats.items = rw (ap (λ q. q.parties) c.self.view_is) c.requires.known in
    let its : c.index.result.now ≡ seat_at c.self.inside.seats.items c.args.party = c.index.ensures ∙ get_or_default c.self.inside.seats.items c.args.party c.index.result.now None known in
    let same : length (set c.self.inside.seats.items c.args.party c.remove-told.new.seat) ≡ length c.self.inside.seats.items = length-set c.self.inside.seats.items c.args.party c.remove-told.new.seat in
    rw (← c.self.view_is, same, (takes c.self.inside.seats.items c.self.inside.weights.items c.self.inside.list.entries c.self.inside.list.room c.self.invariant c.args.party known c.remove-told.new.seat c.remove-told.new.list.entries c.remove-told.new.list.room c.remove-told.ensures.room (rw its at c.remove-told.ensures.gone)).1) refl

pub returns-clause-answer : goal.returns-clause-answer
returns-clause-answer c =
    let known : c.args.party < length c.self.inside.seats.items = rw (ap (λ q. q.parties) c.self.view_is) c.requires.known in
    let its : c.index.result.now ≡ seat_at c.self.inside.seats.items c.args.party = c.index.ensures ∙ get_or_default c.self.inside.seats.items c.args.party c.index.result.now None known in
    rw (← c.self.view_is) (sym (asked c.self.inside.seats.items c.self.inside.weights.items c.self.inside.list.entries c.self.inside.list.room c.self.invariant c.args.party known c.remove-told.result (rw its at c.remove-told.ensures.asked)))
