use Rattle.world_base.proofs.Prelude.{◌≡◌, ◌<◌, None, length, sym, ap, ◌∙◌, get_or_default, by_party, entries_of, unweighed, seat_at}
use Rattle.world_base.proofs.of_queue.Weighted.{seat, asked, asks}
use Rattle.world_base.proofs.queue.weighted_queue.WeightedQueue.ask.Goals as goal

-- the seat as it is read
pub ask-told-requires : goal.ask-told-requires
ask-told-requires c =
    let known : c.args.party < length c.self.inside.seats.items = rw (ap (λ q. q.parties) c.self.view_is) c.requires.known in
    let its : c.index.result.now ≡ seat_at c.self.inside.seats.items c.args.party = c.index.ensures ∙ get_or_default c.self.inside.seats.items c.args.party c.index.result.now None known in
    let some : 0 < entries_of c.args.party (by_party (unweighed c.self.inside.list.entries)) = rw (ap (λ q. q.entries) c.self.view_is) c.requires.listed in
    rw its (seat c.self.inside.seats.items c.self.inside.weights.items c.self.inside.list.entries c.self.inside.list.room c.self.invariant c.args.party known some)

pub invariant_of-self : goal.invariant_of-self
invariant_of-self c =
    let known : c.args.party < length c.self.inside.seats.items = rw (ap (λ q. q.parties) c.self.view_is) c.requires.known in
    let its : c.index.result.now ≡ seat_at c.self.inside.seats.items c.args.party = c.index.ensures ∙ get_or_default c.self.inside.seats.items c.args.party c.index.result.now None known in
    (asks c.self.inside.seats.items c.self.inside.weights.items c.self.inside.list.entries c.self.inside.list.room c.self.invariant c.args.party known c.ask-told.new.seat c.ask-told.new.list.entries c.ask-told.new.list.room c.ask-told.ensures.room c.ask-told.result
    (rw its at c.ask-told.ensures.told) (rw its at c.ask-told.ensures.waiting)).0

pub returns-clause-answer : goal.returns-clause-answer
returns-clause-answer c =
    let known : c.args.party < length c.self.inside.seats.items = rw (ap (λ q. q.parties) c.self.view_is) c.requires.known in
    let its : c.index.result.now ≡ seat_at c.self.inside.seats.items c.args.party = c.index.ensures ∙ get_or_default c.self.inside.seats.items c.args.party c.index.result.now None known in
    rw (← c.self.view_is) (sym (asked c.self.inside.seats.items c.self.inside.weights.items c.self.inside.list.entries c.self.inside.list.room c.self.invariant c.args.party known c.ask-told.result (rw its at c.ask-told.ensures.asked)))

pub returns-clause-told : goal.returns-clause-told
returns-clause-told c =
    let known : c.args.party < length c.self.inside.seats.items = rw (ap (λ q. q.parties) c.self.view_is) c.requires.known in
    let its : c.index.result.now ≡ seat_at c.self.inside.seats.items c.args.party = c.index.ensures ∙ get_or_default c.self.inside.seats.items c.args.party c.index.result.now None known in
    rw (← c.self.view_is)
    (λ told. ((asks c.self.inside.seats.items c.self.inside.weights.items c.self.inside.list.entries c.self.inside.list.room c.self.invariant c.args.party known c.ask-told.new.seat c.ask-told.new.list.entries c.ask-told.new.list.room c.ask-told.ensures.room c.ask-told.result
    (rw its at c.ask-told.ensures.told) (rw its at c.ask-told.ensures.waiting)).1 told))

pub returns-clause-waiting : goal.returns-clause-waiting
returns-clause-waiting c =
    let known : c.args.party < length c.self.inside.seats.items = rw (ap (λ q. q.parties) c.self.view_is) c.requires.known in
    let its : c.index.result.now ≡ seat_at c.self.inside.seats.items c.args.party = c.index.ensures ∙ get_or_default c.self.inside.seats.items c.args.party c.index.result.now None known in
    rw (← c.self.view_is)
    (λ told. ((asks c.self.inside.seats.items c.self.inside.weights.items c.self.inside.list.entries c.self.inside.list.room c.self.invariant c.args.party known c.ask-told.new.seat c.ask-told.new.list.entries c.ask-told.new.list.room c.ask-told.ensures.room c.ask-told.result
    (rw its at c.ask-told.ensures.told) (rw its at c.ask-told.ensures.waiting)).2 told))
