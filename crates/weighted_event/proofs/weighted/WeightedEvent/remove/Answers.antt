use Rattle.std.proofs.Common.{◌≡◌, true, sym, ap, ◌∙◌, subst}
use Rattle.lock_event.specs.Lists.{is_listed, is_marked_at}
use Rattle.lock_event.specs.Slots.{has_id}
use Rattle.lock_event.specs.Chains.{is_in}
use Rattle.lock_event.proofs.Ids.{is_listed-in, named}
use Rattle.weighted_event.specs.Ranks.{IsWeighted}
use Rattle.weighted_event.proofs.Ranks.{at_slot-in, IsRanked-listed, IsWeighted-out}
use Rattle.weighted_event.proofs.weighted.WeightedEvent.remove.Goals as goal

pub remove-entry-requires-clause-listed : goal.remove-entry-requires-clause-listed
remove-entry-requires-clause-listed g c =
    let view = ap (λ v. v.entries) c.self.view_is in
    let listed : is_listed (has_id c.args.id) c.self.inside.chain.entries ≡ true = rw view c.requires in
    ap (λ v. is_in c.args.id.number v.entries) c.start.ensures ∙ (sym (is_listed-in c.args.id c.self.inside.chain.entries) ∙ listed)

pub leave-requires : goal.leave-requires
leave-requires g c =
    let start = ap (λ v. v.entries) c.start.ensures in
    IsRanked-listed c.args.id.number c.start.new.self.entries c.self.inside.ranks.row.items c.self.inside.ranks.kind (rw start c.self.invariant.ranks_are) (at_slot-in c.args.id.number c.start.new.self.entries c.remove-entry.result.0 c.remove-entry.ensures.entry)

pub invariant_of-self : goal.invariant_of-self
invariant_of-self g c =
    let start = ap (λ v. v.entries) c.start.ensures in
    let room : c.remove-entry.new.self.room ≡ c.self.inside.chain.room = c.remove-entry.ensures.room ∙ ap (λ v. v.room) c.start.ensures in
    let was : IsWeighted c.start.new.self.entries c.self.inside.chain.room c.self.inside.marked c.self.inside.ranks = subst (λ es. IsWeighted es c.self.inside.chain.room c.self.inside.marked c.self.inside.ranks) (sym start) c.self.invariant in
    rw (c.remove-entry.ensures.entries, c.passed-self-inside.ensures, room) (IsWeighted-out c.args.id.number c.start.new.self.entries c.self.inside.chain.room c.self.inside.marked c.self.inside.ranks c.leave.new.ranks c.laws.ensures.apart was c.leave.ensures.items c.leave.ensures.kind c.leave.ensures.room)

pub returns-clause-answer : goal.returns-clause-answer
returns-clause-answer g c =
    let same : c.start.new.self.entries ≡ c.args.self.now.entries = ap (λ v. v.entries) c.start.ensures ∙ ap (λ v. v.entries) c.self.view_is in
    let by = named c.args.id c.start.new.self.entries c.remove-entry.result.0 c.remove-entry.ensures.entry in
    c.is_marked.ensures ∙ (sym by.marked ∙ ap (λ es. is_marked_at (has_id c.args.id) es) same)
