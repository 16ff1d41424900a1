use Rattle.world_base.proofs.Prelude.{◌≡◌, false, ap, sym, ◌∙◌, is_marked_at, has_id, seat_of, IsSeatOf}
use Rattle.world_base.proofs.of_queue.Keys.{is_listed-key_at, with_key-same}
use Rattle.world_base.proofs.queue.seat.ask.Goals as goal

pub poll_entry-requires : goal.poll_entry-requires
poll_entry-requires c =
    let mine : IsSeatOf c.args.party c.args.list.now.entries c.in-Some.id = rw c.in-Some.is at c.requires in
    is_listed-key_at (has_id c.in-Some.id) c.args.list.now.entries _ mine

pub returns-else-poll_entry-clause-waiting : goal.returns-else-poll_entry-clause-waiting
returns-else-poll_entry-clause-waiting c =
    let mine : IsSeatOf c.args.party c.args.list.now.entries c.in-Some.id = rw c.in-Some.is at c.requires in
    let answer : is_marked_at (has_id c.in-Some.id) c.args.list.now.entries ≡ false = sym c.poll_entry.ensures.answer ∙ c.if-poll_entry.false in
    let same : c.poll_entry.new.self.entries ≡ c.args.list.now.entries =
    c.poll_entry.ensures.waiting c.if-poll_entry.false ∙ with_key-same (has_id c.in-Some.id) c.args.list.now.entries _ mine in
    λ _. ap (λ l. seat_of l c.args.seat.now) same
