use Rattle.world_base.proofs.Prelude.{◌≡◌, true, false, refl, ap, ◌∙◌, Some, None, ℕ, eq-eqb, is_marked_at, with_key, joined, has_id}
use Rattle.weighted_event.specs.Loads.{laden, weight_at}
use Rattle.world_base.proofs.of_queue.Keys.{is_marked_at-joined}
use Rattle.world_base.proofs.of_queue.Weighted.{with_key-fresh}
use Rattle.world_base.proofs.queue.weighted_seat.join.Goals as goal

pub returns-clause-list : goal.returns-clause-list
returns-clause-list c =
    let new = c.in-Ok.ensures in
    let id = c.in-Ok.id in
    let l = c.args.list.now.entries in
    let it : has_id id (laden {W = ℕ} id c.args.weight None) ≡ true = eq-eqb id.number id.number refl in
    let waits : c.poll_entry.result ≡ false =
    c.poll_entry.ensures.answer ∙ (ap (is_marked_at (has_id id)) new.joined ∙ is_marked_at-joined (has_id id) l _ new.fresh it) in
    let at_back : c.poll_entry.new.self.entries ≡ joined l (laden id c.args.weight (Some c.args.party)) =
    c.poll_entry.ensures.waiting waits ∙ (ap (λ m. with_key (has_id id) (laden id (weight_at id m) (Some c.args.party)) m) new.joined ∙ with_key-fresh id c.args.party c.args.weight l new.fresh) in
    record { id = id; has_it = refl; fresh = new.fresh; entries = at_back }
