use Rattle.std.proofs.Common.{◌≡◌, ℕ, true, Some, sym, ap, ◌∙◌, subst}
use Rattle.lock_event.specs.Lists.{is_listed, is_marked_at, with_key}
use Rattle.lock_event.specs.Slots.{has_id}
use Rattle.lock_event.specs.Chains.{at_slot, is_in}
use Rattle.weighted_event.specs.Loads.{load, laden, weight_at}
use Rattle.lock_event.proofs.Ids.{is_listed-in, named, rewritten-with_key}
use Rattle.weighted_event.proofs.Loads.{weight_at-is}
use Rattle.weighted_event.specs.Ranks.{IsWeighted}
use Rattle.weighted_event.proofs.Ranks.{at_slot-in, IsRanked-listed, IsWeighted-out, IsWeighted-put}
use Rattle.weighted_event.proofs.weighted.WeightedEvent.poll_entry.Goals as goal

pub at-entry-requires : goal.at-entry-requires
at-entry-requires g c =
    let view = ap (λ v. v.entries) c.self.view_is in
    let listed : is_listed (has_id c.args.id) c.self.inside.chain.entries ≡ true = rw view c.requires in
    sym (is_listed-in c.args.id c.self.inside.chain.entries) ∙ listed

pub remove-requires-clause-listed : goal.remove-requires-clause-listed
remove-requires-clause-listed g c =
    let view = ap (λ v. v.entries) c.self.view_is in
    let listed : is_listed (has_id c.args.id) c.self.inside.chain.entries ≡ true = rw view c.requires in
    ap (λ v. is_in c.args.id.number v.entries) c.start.ensures ∙ (sym (is_listed-in c.args.id c.self.inside.chain.entries) ∙ listed)

pub leave-requires : goal.leave-requires
leave-requires g c =
    let start = ap (λ v. v.entries) c.start.ensures in
    IsRanked-listed c.args.id.number c.start.new.self.entries c.self.inside.ranks.row.items c.self.inside.ranks.kind (rw start c.self.invariant.ranks_are) (at_slot-in c.args.id.number c.start.new.self.entries c.remove.result.0 c.remove.ensures.entry)

pub invariant_of-self : goal.invariant_of-self
invariant_of-self g c =
    let start = ap (λ v. v.entries) c.start.ensures in
    let room : c.remove.new.self.room ≡ c.self.inside.chain.room = c.remove.ensures.room ∙ ap (λ v. v.room) c.start.ensures in
    let was : IsWeighted c.start.new.self.entries c.self.inside.chain.room c.self.inside.marked c.self.inside.ranks = subst (λ es. IsWeighted es c.self.inside.chain.room c.self.inside.marked c.self.inside.ranks) (sym start) c.self.invariant in
    rw (c.remove.ensures.entries, c.passed-self-inside.ensures, room) (IsWeighted-out c.args.id.number c.start.new.self.entries c.self.inside.chain.room c.self.inside.marked c.self.inside.ranks c.leave.new.ranks c.laws.ensures.apart was c.leave.ensures.items c.leave.ensures.kind c.leave.ensures.room)

pub returns-then-marked-clause-answer : goal.returns-then-marked-clause-answer
returns-then-marked-clause-answer g c =
    let view = ap (λ v. v.entries) c.self.view_is in
    sym c.if-marked.true ∙ (c.is_marked-marked.ensures ∙ (sym (named c.args.id c.self.inside.chain.entries c.at-entry.result.now c.at-entry.ensures).marked ∙ ap (λ es. is_marked_at (has_id c.args.id) es) view))

pub put-requires-clause-listed : goal.put-requires-clause-listed
put-requires-clause-listed g c =
    let view = ap (λ v. v.entries) c.self.view_is in
    let listed : is_listed (has_id c.args.id) c.self.inside.chain.entries ≡ true = rw view c.requires in
    ap (λ v. is_in c.args.id.number v.entries) c.start.ensures ∙ (sym (is_listed-in c.args.id c.self.inside.chain.entries) ∙ listed)

pub invariant_of-self-2 : goal.invariant_of-self-2
invariant_of-self-2 g c =
    let start = ap (λ v. v.entries) c.start.ensures in
    let room : c.put.new.chain.room ≡ c.self.inside.chain.room = c.put.ensures.room ∙ ap (λ v. v.room) c.start.ensures in
    let was : IsWeighted c.start.new.self.entries c.self.inside.chain.room c.self.inside.marked c.self.inside.ranks = subst (λ es. IsWeighted es c.self.inside.chain.room c.self.inside.marked c.self.inside.ranks) (sym start) c.self.invariant in
    let at_start : at_slot c.args.id.number c.start.new.self.entries ≡ Some c.at-entry.result.now = ap (λ v. at_slot c.args.id.number v.entries) c.start.ensures ∙ c.at-entry.ensures in
    rw (c.put.ensures.entries, room) (IsWeighted-put c.args.id.number (Some (load c.weight_of-weight.result (Some c.args.w))) c.start.new.self.entries c.self.inside.chain.room c.self.inside.marked c.self.inside.ranks c.at-entry.result.now at_start c.weight_of-weight.ensures was)

pub returns-clause-answer : goal.returns-clause-answer
returns-clause-answer g c =
    let view = ap (λ v. v.entries) c.self.view_is in
    sym c.if-marked.false ∙ (c.is_marked-marked.ensures ∙ (sym (named c.args.id c.self.inside.chain.entries c.at-entry.result.now c.at-entry.ensures).marked ∙ ap (λ es. is_marked_at (has_id c.args.id) es) view))

pub returns-clause-waiting : goal.returns-clause-waiting
returns-clause-waiting g c _ =
    let view = ap (λ v. v.entries) c.self.view_is in
    let same : c.start.new.self.entries ≡ c.args.self.now.entries = ap (λ v. v.entries) c.start.ensures ∙ view in
    let weight : c.weight_of-weight.result ≡ weight_at c.args.id c.args.self.now.entries =
    c.weight_of-weight.ensures ∙ (sym (weight_at-is c.args.id c.self.inside.chain.entries c.at-entry.result.now c.at-entry.ensures) ∙ ap (weight_at c.args.id) view) in
    c.put.ensures.entries
    ∙ (rewritten-with_key c.args.id (Some (load c.weight_of-weight.result (Some c.args.w))) c.start.new.self.entries
    ∙ (ap (λ es. with_key (has_id c.args.id) (laden c.args.id c.weight_of-weight.result (Some c.args.w)) es) same
    ∙ ap (λ (n : ℕ). with_key (has_id c.args.id) (laden c.args.id n (Some c.args.w)) c.args.self.now.entries) weight))
