use Rattle.std.proofs.Common.{◌≡◌, false, sym, ap, ◌∙◌, subst}
use Rattle.lock_event.specs.Lists.{is_marked_at}
use Rattle.lock_event.specs.Slots.{has_id}
use Rattle.lock_event.specs.Chains.{is_in}
use Rattle.weighted_event.specs.Loads.{kept_at}
use Rattle.lock_event.proofs.Ids.{named}
use Rattle.weighted_event.proofs.Loads.{kept_at-is, unlisted}
use Rattle.weighted_event.specs.Ranks.{IsWeighted}
use Rattle.weighted_event.proofs.Ranks.{at_slot-in, IsRanked-listed, IsWeighted-out}
use Rattle.weighted_event.proofs.weighted.WeightedEvent.withdraw.Goals as goal

pub returns-then-not-contains-clause-answer : goal.returns-then-not-contains-clause-answer
returns-then-not-contains-clause-answer g c =
    let view = ap (λ v. v.entries) c.self.view_is in
    let none : is_in c.args.id.number c.args.self.now.entries ≡ false = ap (λ es. is_in c.args.id.number es) (sym view) ∙ (sym c.contains.ensures ∙ c.if-not-contains.true) in
    sym (unlisted c.args.id c.args.self.now.entries none).marked

pub returns-then-not-contains-clause-waker : goal.returns-then-not-contains-clause-waker
returns-then-not-contains-clause-waker g c =
    let view = ap (λ v. v.entries) c.self.view_is in
    let none : is_in c.args.id.number c.args.self.now.entries ≡ false = ap (λ es. is_in c.args.id.number es) (sym view) ∙ (sym c.contains.ensures ∙ c.if-not-contains.true) in
    sym (unlisted c.args.id c.args.self.now.entries none).kept

pub returns-then-not-contains-clause-entries : goal.returns-then-not-contains-clause-entries
returns-then-not-contains-clause-entries g c =
    let view = ap (λ v. v.entries) c.self.view_is in
    let none : is_in c.args.id.number c.args.self.now.entries ≡ false = ap (λ es. is_in c.args.id.number es) (sym view) ∙ (sym c.contains.ensures ∙ c.if-not-contains.true) in
    sym (unlisted c.args.id c.args.self.now.entries none).stays

pub leave-requires : goal.leave-requires
leave-requires g c =
    let start = ap (λ v. v.entries) c.start.ensures in
    IsRanked-listed c.args.id.number c.start.new.self.entries c.self.inside.ranks.row.items c.self.inside.ranks.kind (rw start c.self.invariant.ranks_are) (at_slot-in c.args.id.number c.start.new.self.entries c.remove-gone.result.0 c.remove-gone.ensures.entry)

pub invariant_of-self : goal.invariant_of-self
invariant_of-self g c =
    let start = ap (λ v. v.entries) c.start.ensures in
    let room : c.remove-gone.new.self.room ≡ c.self.inside.chain.room = c.remove-gone.ensures.room ∙ ap (λ v. v.room) c.start.ensures in
    let was : IsWeighted c.start.new.self.entries c.self.inside.chain.room c.self.inside.marked c.self.inside.ranks = subst (λ es. IsWeighted es c.self.inside.chain.room c.self.inside.marked c.self.inside.ranks) (sym start) c.self.invariant in
    rw (c.remove-gone.ensures.entries, c.passed-self-inside.ensures, room) (IsWeighted-out c.args.id.number c.start.new.self.entries c.self.inside.chain.room c.self.inside.marked c.self.inside.ranks c.leave.new.ranks c.laws.ensures.apart was c.leave.ensures.items c.leave.ensures.kind c.leave.ensures.room)

pub returns-clause-answer : goal.returns-clause-answer
returns-clause-answer g c =
    let same : c.start.new.self.entries ≡ c.args.self.now.entries = ap (λ v. v.entries) c.start.ensures ∙ ap (λ v. v.entries) c.self.view_is in
    let by = named c.args.id c.start.new.self.entries c.remove-gone.result.0 c.remove-gone.ensures.entry in
    c.is_marked.ensures ∙ (sym by.marked ∙ ap (λ es. is_marked_at (has_id c.args.id) es) same)

pub returns-clause-waker : goal.returns-clause-waker
returns-clause-waker g c =
    let same : c.start.new.self.entries ≡ c.args.self.now.entries = ap (λ v. v.entries) c.start.ensures ∙ ap (λ v. v.entries) c.self.view_is in
    c.waker_of.ensures ∙ (sym (kept_at-is c.args.id c.start.new.self.entries c.remove-gone.result.0 c.remove-gone.ensures.entry) ∙ ap (λ es. kept_at c.args.id es) same)
