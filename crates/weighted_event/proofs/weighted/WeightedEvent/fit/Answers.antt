use Rattle.std.proofs.Common.{◌≡◌, ◌+◌, ◌<◌, ◌≤◌, length, true, Some, None, sym, ap, ◌∙◌, subst, arith}
use Rattle.lock_event.specs.declared.event.Mark.TheVariants.{Notified}
use Rattle.lock_event.specs.Lists.{marked_count}
use Rattle.lock_event.specs.Chains.{AreApart, is_in, rewritten, with_mark}
use Rattle.weighted_event.specs.Weights.{fitted}
use Rattle.weighted_event.specs.Loads.{weight_of, first_fit, first_marked, told}
use Rattle.weighted_event.proofs.Weights.{fitted_marks}
use Rattle.weighted_event.proofs.Loads.{some_there, none_there, not-fitted, told-fitted, first_fit-in}
use Rattle.weighted_event.specs.Ranks.{IsWeighted}
use Rattle.weighted_event.proofs.Ranks.{IsWeighted-told, few_visits}
use Rattle.weighted_event.proofs.weighted.WeightedEvent.fit.Goals as goal

pub returns-then-is_some-clause-entries : goal.returns-then-is_some-clause-entries
returns-then-is_some-clause-entries g c =
    let view : c.self.inside.chain.entries ≡ c.args.self.now.entries = ap (λ v. v.entries) c.self.view_is in
    let same : c.start.new.self.entries ≡ c.args.self.now.entries = ap (λ v. v.entries) c.start.ensures ∙ view in
    let some : 0 < marked_count c.args.self.now.entries = some_there c.args.self.now.entries c.self.inside.marked (c.self.invariant.one.0 ∙ ap (λ es. first_marked es) view) (sym c.is_some.ensures ∙ c.if-is_some.true) in
    same ∙ sym (not-fitted c.args.a c.args.self.now.entries some)

pub returns-then-is_some-clause-told : goal.returns-then-is_some-clause-told
returns-then-is_some-clause-told g c wanted =
    let after : c.start.new.self.entries ≡ fitted weight_of c.args.a c.args.self.now.entries =
    let view : c.self.inside.chain.entries ≡ c.args.self.now.entries = ap (λ v. v.entries) c.self.view_is in
    let same : c.start.new.self.entries ≡ c.args.self.now.entries = ap (λ v. v.entries) c.start.ensures ∙ view in
    let some : 0 < marked_count c.args.self.now.entries = some_there c.args.self.now.entries c.self.inside.marked (c.self.invariant.one.0 ∙ ap (λ es. first_marked es) view) (sym c.is_some.ensures ∙ c.if-is_some.true) in
    same ∙ sym (not-fitted c.args.a c.args.self.now.entries some)
    in rw after (fitted_marks weight_of c.args.a c.args.self.now.entries wanted)

pub returns-in_default-clause-entries : goal.returns-in_default-clause-entries
returns-in_default-clause-entries g c =
    let view : c.self.inside.chain.entries ≡ c.args.self.now.entries = ap (λ v. v.entries) c.self.view_is in
    let same : c.start.new.self.entries ≡ c.args.self.now.entries = ap (λ v. v.entries) c.start.ensures ∙ view in
    let none : marked_count c.args.self.now.entries ≡ 0 = none_there c.args.self.now.entries c.self.inside.marked (c.self.invariant.one.0 ∙ ap (λ es. first_marked es) view) (sym c.is_some.ensures ∙ c.if-is_some.false) in
    let fits : first_fit c.args.a c.args.self.now.entries ≡ None = ap (λ es. first_fit c.args.a es) (sym same) ∙ (sym c.search-found.ensures.found ∙ c.in_default.is) in
    c.search-found.ensures.entries ∙ (same ∙ (ap (λ o. told o c.args.self.now.entries) (sym fits) ∙ told-fitted c.args.a c.args.self.now.entries none (subst AreApart same c.laws.ensures.apart)))

pub returns-in_default-clause-told : goal.returns-in_default-clause-told
returns-in_default-clause-told g c wanted =
    let after : c.search-found.new.chain.entries ≡ fitted weight_of c.args.a c.args.self.now.entries =
    let view : c.self.inside.chain.entries ≡ c.args.self.now.entries = ap (λ v. v.entries) c.self.view_is in
    let same : c.start.new.self.entries ≡ c.args.self.now.entries = ap (λ v. v.entries) c.start.ensures ∙ view in
    let none : marked_count c.args.self.now.entries ≡ 0 = none_there c.args.self.now.entries c.self.inside.marked (c.self.invariant.one.0 ∙ ap (λ es. first_marked es) view) (sym c.is_some.ensures ∙ c.if-is_some.false) in
    let fits : first_fit c.args.a c.args.self.now.entries ≡ None = ap (λ es. first_fit c.args.a es) (sym same) ∙ (sym c.search-found.ensures.found ∙ c.in_default.is) in
    c.search-found.ensures.entries ∙ (same ∙ (ap (λ o. told o c.args.self.now.entries) (sym fits) ∙ told-fitted c.args.a c.args.self.now.entries none (subst AreApart same c.laws.ensures.apart)))
    in rw after (fitted_marks weight_of c.args.a c.args.self.now.entries wanted)

pub mark-requires-clause-listed : goal.mark-requires-clause-listed
mark-requires-clause-listed g c =
    ap (is_in c.in-Some.key) c.search-found.ensures.entries ∙ first_fit-in c.args.a c.start.new.self.entries c.in-Some.key (sym c.search-found.ensures.found ∙ c.in-Some.is)

pub mark-requires-clause-counts : goal.mark-requires-clause-counts
mark-requires-clause-counts g c =
    let before : c.search-found.new.chain.visits + 1 ≤ length c.start.new.self.entries = rw c.in-Some.is at c.search-found.ensures.before in
    omega (arith, before, c.laws.ensures.fits)

pub invariant_of-self-2 : goal.invariant_of-self-2
invariant_of-self-2 g c =
    let same : c.search-found.new.chain.entries ≡ c.self.inside.chain.entries = c.search-found.ensures.entries ∙ ap (λ v. v.entries) c.start.ensures in
    let room : c.mark.new.self.room ≡ c.self.inside.chain.room = c.mark.ensures.room ∙ (c.search-found.ensures.room ∙ ap (λ v. v.room) c.start.ensures) in
    let none : marked_count c.search-found.new.chain.entries ≡ 0 =
    ap (λ es. marked_count es) same ∙ none_there c.self.inside.chain.entries c.self.inside.marked c.self.invariant.one.0 (sym c.is_some.ensures ∙ c.if-is_some.false) in
    let listed : is_in c.in-Some.key c.search-found.new.chain.entries ≡ true =
    ap (is_in c.in-Some.key) c.search-found.ensures.entries ∙ first_fit-in c.args.a c.start.new.self.entries c.in-Some.key (sym c.search-found.ensures.found ∙ c.in-Some.is) in
    let was : IsWeighted c.search-found.new.chain.entries c.self.inside.chain.room c.self.inside.marked c.self.inside.ranks = subst (λ es. IsWeighted es c.self.inside.chain.room c.self.inside.marked c.self.inside.ranks) (sym same) c.self.invariant in
    rw (c.mark.ensures.entries, room) (IsWeighted-told c.in-Some.key c.search-found.new.chain.entries c.self.inside.chain.room c.self.inside.marked c.self.inside.ranks listed none was)

pub returns-clause-entries : goal.returns-clause-entries
returns-clause-entries g c =
    let view : c.self.inside.chain.entries ≡ c.args.self.now.entries = ap (λ v. v.entries) c.self.view_is in
    let same : c.start.new.self.entries ≡ c.args.self.now.entries = ap (λ v. v.entries) c.start.ensures ∙ view in
    let none : marked_count c.args.self.now.entries ≡ 0 = none_there c.args.self.now.entries c.self.inside.marked (c.self.invariant.one.0 ∙ ap (λ es. first_marked es) view) (sym c.is_some.ensures ∙ c.if-is_some.false) in
    let fits : first_fit c.args.a c.args.self.now.entries ≡ Some c.in-Some.key = ap (λ es. first_fit c.args.a es) (sym same) ∙ (sym c.search-found.ensures.found ∙ c.in-Some.is) in
    c.mark.ensures.entries
    ∙ (ap (λ es. rewritten c.in-Some.key (with_mark Notified) es) (c.search-found.ensures.entries ∙ same)
    ∙ (ap (λ o. told o c.args.self.now.entries) (sym fits) ∙ told-fitted c.args.a c.args.self.now.entries none (subst AreApart same c.laws.ensures.apart)))

pub returns-clause-told : goal.returns-clause-told
returns-clause-told g c wanted =
    let after : c.mark.new.self.entries ≡ fitted weight_of c.args.a c.args.self.now.entries =
    let view : c.self.inside.chain.entries ≡ c.args.self.now.entries = ap (λ v. v.entries) c.self.view_is in
    let same : c.start.new.self.entries ≡ c.args.self.now.entries = ap (λ v. v.entries) c.start.ensures ∙ view in
    let none : marked_count c.args.self.now.entries ≡ 0 = none_there c.args.self.now.entries c.self.inside.marked (c.self.invariant.one.0 ∙ ap (λ es. first_marked es) view) (sym c.is_some.ensures ∙ c.if-is_some.false) in
    let fits : first_fit c.args.a c.args.self.now.entries ≡ Some c.in-Some.key = ap (λ es. first_fit c.args.a es) (sym same) ∙ (sym c.search-found.ensures.found ∙ c.in-Some.is) in
    c.mark.ensures.entries
    ∙ (ap (λ es. rewritten c.in-Some.key (with_mark Notified) es) (c.search-found.ensures.entries ∙ same)
    ∙ (ap (λ o. told o c.args.self.now.entries) (sym fits) ∙ told-fitted c.args.a c.args.self.now.entries none (subst AreApart same c.laws.ensures.apart)))
    in rw after (fitted_marks weight_of c.args.a c.args.self.now.entries wanted)

pub returns-in_default-clause-few : goal.returns-in_default-clause-few
returns-in_default-clause-few g c =
    let room = ap (λ v. v.room) c.self.view_is in
    rw (← room, c.visits-self-inside.ensures) (few_visits c.search-found.new.chain.visits c.self.inside.ranks.row.path c.self.inside.chain.room c.self.inside.ranks.row.room c.search-found.ensures.few c.search-found.ensures.path c.self.invariant.lean)

pub returns-clause-few : goal.returns-clause-few
returns-clause-few g c =
    let room = ap (λ v. v.room) c.self.view_is in
    let few = rw c.in-Some.is at c.search-found.ensures.few_before in
    rw (← room, c.visits-self-inside-2.ensures ∙ c.mark.ensures.visits) (few_visits (c.search-found.new.chain.visits + 1) c.self.inside.ranks.row.path c.self.inside.chain.room c.self.inside.ranks.row.room few c.search-found.ensures.path c.self.invariant.lean)
