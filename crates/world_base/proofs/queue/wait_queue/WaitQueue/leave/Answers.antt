use Rattle.world_base.proofs.Prelude.{◌≡◌, ◌<◌, None, length, refl, ap, ◌∙◌, length-set, set, get_or_default, by_party, entries_of, seat_at}
use Rattle.world_base.proofs.of_queue.Queues.{seat, leaves}
use Rattle.world_base.proofs.queue.wait_queue.WaitQueue.leave.Goals as goal

-- the seat as it is read
pub leave-requires : goal.leave-requires
leave-requires c =
    let known : c.args.party < length c.self.inside.seats.items = rw (ap (λ q. q.parties) c.self.view_is) c.requires.known in
    let its : c.index.result.now ≡ seat_at c.self.inside.seats.items c.args.party = c.index.ensures ∙ get_or_default c.self.inside.seats.items c.args.party c.index.result.now None known in
    let some : 0 < entries_of c.args.party (by_party c.self.inside.list.entries) = rw (ap (λ q. q.entries) c.self.view_is) c.requires.listed in
    rw its (seat c.self.inside.seats.items c.self.inside.list.entries c.self.inside.list.room c.self.invariant c.args.party known some)

pub invariant_of-self : goal.invariant_of-self
invariant_of-self c =
    let known : c.args.party < length c.self.inside.seats.items = rw (ap (λ q. q.parties) c.self.view_is) c.requires.known in
    let its : c.index.result.now ≡ seat_at c.self.inside.seats.items c.args.party = c.index.ensures ∙ get_or_default c.self.inside.seats.items c.args.party c.index.result.now None known in
    (leaves c.self.inside.seats.items c.self.inside.list.entries c.self.inside.list.room c.self.invariant c.args.party known c.leave.new.seat c.leave.new.list.entries c.leave.new.list.room c.leave.ensures.room (rw its at c.leave.ensures.list)).0

pub returns : goal.returns
returns c =
    let known : c.args.party < length c.self.inside.seats.items = rw (ap (λ q. q.parties) c.self.view_is) c.requires.known in
    let its : c.index.result.now ≡ seat_at c.self.inside.seats.items c.args.party = c.index.ensures ∙ get_or_default c.self.inside.seats.items c.args.party c.index.result.now None known in
    let same : length (set c.self.inside.seats.items c.args.party c.leave.new.seat) ≡ length c.self.inside.seats.items = length-set c.self.inside.seats.items c.args.party c.leave.new.seat in
    rw (← c.self.view_is, same, (leaves c.self.inside.seats.items c.self.inside.list.entries c.self.inside.list.room c.self.invariant c.args.party known c.leave.new.seat c.leave.new.list.entries c.leave.new.list.room c.leave.ensures.room (rw its at c.leave.ensures.list)).1) refl
