use Rattle.std.proofs.Common.{◌≡◌, Some, None, refl, sym, ap, ◌∙◌, subst}
use Rattle.weighted_event.specs.Loads.{load, weight_of, first_marked, marked_waker, without_marked_waker}
use Rattle.weighted_event.proofs.Loads.{first_marked-in, listed-at, nothing_emptied, emptied-is}
use Rattle.weighted_event.specs.Ranks.{IsWeighted}
use Rattle.weighted_event.proofs.Ranks.{IsWeighted-put}
use Rattle.weighted_event.proofs.weighted.WeightedEvent.next_waker.Goals as goal

pub returns-in_default-clause-waker : goal.returns-in_default-clause-waker
returns-in_default-clause-waker g c =
    let view = ap (λ v. v.entries) c.self.view_is in
    sym (nothing_emptied c.args.self.now.entries (ap (λ es. first_marked es) (sym view) ∙ (sym c.self.invariant.one.0 ∙ c.in_default.is))).0

pub returns-in_default-clause-entries : goal.returns-in_default-clause-entries
returns-in_default-clause-entries g c =
    let view = ap (λ v. v.entries) c.self.view_is in
    sym (nothing_emptied c.args.self.now.entries (ap (λ es. first_marked es) (sym view) ∙ (sym c.self.invariant.one.0 ∙ c.in_default.is))).1

pub take_waker-requires-clause-listed : goal.take_waker-requires-clause-listed
take_waker-requires-clause-listed g c =
    let start = ap (λ v. v.entries) c.start.ensures in
    first_marked-in c.start.new.self.entries c.in-Some.key (ap (λ es. first_marked es) start ∙ (sym c.self.invariant.one.0 ∙ c.in-Some.is))

pub invariant_of-self : goal.invariant_of-self
invariant_of-self g c =
    let start = ap (λ v. v.entries) c.start.ensures in
    let first : first_marked c.start.new.self.entries ≡ Some c.in-Some.key = ap (λ es. first_marked es) start ∙ (sym c.self.invariant.one.0 ∙ c.in-Some.is) in
    let at = listed-at c.start.new.self.entries c.in-Some.key (first_marked-in c.start.new.self.entries c.in-Some.key first) in
    let after = rw at.1 at c.take_waker.ensures.entries in
    let room : c.take_waker.new.chain.room ≡ c.self.inside.chain.room = c.take_waker.ensures.room ∙ ap (λ v. v.room) c.start.ensures in
    let was : IsWeighted c.start.new.self.entries c.self.inside.chain.room c.self.inside.marked c.self.inside.ranks = subst (λ es. IsWeighted es c.self.inside.chain.room c.self.inside.marked c.self.inside.ranks) (sym start) c.self.invariant in
    rw (after, room) (IsWeighted-put c.in-Some.key (Some (load (weight_of at.0.key) None)) c.start.new.self.entries c.self.inside.chain.room c.self.inside.marked c.self.inside.ranks at.0 at.1 refl was)

pub returns-clause-waker : goal.returns-clause-waker
returns-clause-waker g c =
    let start = ap (λ v. v.entries) c.start.ensures in
    let first : first_marked c.start.new.self.entries ≡ Some c.in-Some.key = ap (λ es. first_marked es) start ∙ (sym c.self.invariant.one.0 ∙ c.in-Some.is) in
    let at = listed-at c.start.new.self.entries c.in-Some.key (first_marked-in c.start.new.self.entries c.in-Some.key first) in
    let waker = rw at.1 at c.take_waker.ensures.waker in
    waker ∙ (sym (emptied-is c.in-Some.key c.start.new.self.entries at.0 first c.laws.ensures.apart at.1).0 ∙ ap (λ es. marked_waker es) (start ∙ ap (λ v. v.entries) c.self.view_is))

pub returns-clause-entries : goal.returns-clause-entries
returns-clause-entries g c =
    let start = ap (λ v. v.entries) c.start.ensures in
    let first : first_marked c.start.new.self.entries ≡ Some c.in-Some.key = ap (λ es. first_marked es) start ∙ (sym c.self.invariant.one.0 ∙ c.in-Some.is) in
    let at = listed-at c.start.new.self.entries c.in-Some.key (first_marked-in c.start.new.self.entries c.in-Some.key first) in
    let after = rw at.1 at c.take_waker.ensures.entries in
    after ∙ ((emptied-is c.in-Some.key c.start.new.self.entries at.0 first c.laws.ensures.apart at.1).1 ∙ ap (λ es. without_marked_waker es) (start ∙ ap (λ v. v.entries) c.self.view_is))
