use Rattle.world_base.proofs.Prelude.{◌≡◌, true, false, refl, ap, ◌∙◌, Some, None, ℕ, eq-eqb, is_marked_at, with_key, joined, has_id, slot_of}
use Rattle.world_base.proofs.of_queue.Keys.{with_key-joined, is_marked_at-joined}
use Rattle.world_base.proofs.queue.seat.join.Goals as goal

pub returns-clause-list : goal.returns-clause-list
returns-clause-list c =
    let new = c.in-Ok.ensures in
    let it : has_id {W = ℕ} c.in-Ok.id (slot_of c.in-Ok.id None) ≡ true = eq-eqb c.in-Ok.id.number c.in-Ok.id.number refl in
    let waits : c.poll_entry.result ≡ false =
    c.poll_entry.ensures.answer ∙ (ap (is_marked_at (has_id c.in-Ok.id)) new.joined ∙ is_marked_at-joined (has_id c.in-Ok.id) c.args.list.now.entries _ new.fresh it) in
    let at_back : c.poll_entry.new.self.entries ≡ joined c.args.list.now.entries (slot_of c.in-Ok.id (Some c.args.party)) =
    c.poll_entry.ensures.waiting waits ∙ (ap (with_key (has_id c.in-Ok.id) _) new.joined ∙ with_key-joined (has_id c.in-Ok.id) c.args.list.now.entries _ _ new.fresh it) in
    record { id = c.in-Ok.id; has_it = refl; fresh = new.fresh; entries = at_back }
