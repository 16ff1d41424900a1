use Rattle.world_base.proofs.Prelude.{◌≡◌, ◌<◌, None, length, refl, ap, ◌∙◌, length-set, set, get_or_default, by_party, entries_of, seat_at}
use Rattle.world_base.proofs.of_queue.Queues.{roomy, joins}
use Rattle.world_base.proofs.queue.wait_queue.WaitQueue.join.Goals as goal

-- the seat as it is read
pub join-requires : goal.join-requires
join-requires c =
    let known : c.args.party < length c.self.inside.seats.items = rw (ap (λ q. q.parties) c.self.view_is) c.requires.known in
    let its : c.index.result.now ≡ seat_at c.self.inside.seats.items c.args.party = c.index.ensures ∙ get_or_default c.self.inside.seats.items c.args.party c.index.result.now None known in
    let out : entries_of c.args.party (by_party c.self.inside.list.entries) ≡ 0 = rw (ap (λ q. q.entries) c.self.view_is) c.requires.out in
    roomy c.self.inside.seats.items c.self.inside.list.entries c.self.inside.list.room c.self.invariant c.args.party known out (record { number = 0 })

pub invariant_of-self : goal.invariant_of-self
invariant_of-self c =
    let known : c.args.party < length c.self.inside.seats.items = rw (ap (λ q. q.parties) c.self.view_is) c.requires.known in
    let its : c.index.result.now ≡ seat_at c.self.inside.seats.items c.args.party = c.index.ensures ∙ get_or_default c.self.inside.seats.items c.args.party c.index.result.now None known in
    let out : entries_of c.args.party (by_party c.self.inside.list.entries) ≡ 0 = rw (ap (λ q. q.entries) c.self.view_is) c.requires.out in
    (joins c.self.inside.seats.items c.self.inside.list.entries c.self.inside.list.room c.self.invariant c.args.party known c.join.new.seat c.join.new.list.entries c.join.new.list.room out (rw its at c.join.ensures.list) c.join.ensures.room).0

pub returns : goal.returns
returns c =
    let known : c.args.party < length c.self.inside.seats.items = rw (ap (λ q. q.parties) c.self.view_is) c.requires.known in
    let its : c.index.result.now ≡ seat_at c.self.inside.seats.items c.args.party = c.index.ensures ∙ get_or_default c.self.inside.seats.items c.args.party c.index.result.now None known in
    let out : entries_of c.args.party (by_party c.self.inside.list.entries) ≡ 0 = rw (ap (λ q. q.entries) c.self.view_is) c.requires.out in
    let same : length (set c.self.inside.seats.items c.args.party c.join.new.seat) ≡ length c.self.inside.seats.items = length-set c.self.inside.seats.items c.args.party c.join.new.seat in
    rw (← c.self.view_is, same, (joins c.self.inside.seats.items c.self.inside.list.entries c.self.inside.list.room c.self.invariant c.args.party known c.join.new.seat c.join.new.list.entries c.join.new.list.room out (rw its at c.join.ensures.list) c.join.ensures.room).1) refl
