use Rattle.std.proofs.Common.{◌≡◌, ◌+◌, Some, None, sym, ap, ◌∙◌, arith, add-one, drop}
use Rattle.lock_event.specs.Chains.{first_of, is_in, following, at_slot}
use Rattle.weighted_event.specs.Loads.{first_fit}
use Rattle.weighted_event.proofs.Loads.{has_place, walked}
use Rattle.weighted_event.proofs.weighted.find.Goals as goal

pub at-requires : goal.at-requires
at-requires g c =
    ap (is_in c.in-Some.key) c.loop.invariant.entries ∙ has_place c.args.chain.now.entries c.loop.counter c.in-Some.key (omega arith) c.laws.ensures.apart (sym c.loop.invariant.at ∙ c.in-Some.is)

pub returns-then-weight_of-a-clause-found : goal.returns-then-weight_of-a-clause-found
returns-then-weight_of-a-clause-found g c =
    let at = walked c.args.a c.args.chain.now.entries c.loop.counter c.in-Some.key c.at.result.now (omega arith) c.laws.ensures.apart (sym c.loop.invariant.at ∙ c.in-Some.is) (ap (at_slot c.in-Some.key) (sym c.loop.invariant.entries) ∙ c.at.ensures) in
    sym (at.fits (omega (arith, c.weight_of.ensures, c.if-weight_of-a.true))) ∙ c.loop.invariant.found

pub after-at-requires : goal.after-at-requires
after-at-requires g c =
    let same : c.look.new.self.entries ≡ c.args.chain.now.entries = ap (λ v. v.entries) c.look.ensures ∙ c.loop.invariant.entries in
    ap (is_in c.in-Some.key) same ∙ has_place c.args.chain.now.entries c.loop.counter c.in-Some.key (omega arith) c.laws.ensures.apart (sym c.loop.invariant.at ∙ c.in-Some.is)

pub loop-preserved : goal.loop-preserved
loop-preserved g c =
    let es = c.args.chain.now.entries in
    let same : c.look.new.self.entries ≡ es = ap (λ v. v.entries) c.look.ensures ∙ c.loop.invariant.entries in
    let at = walked c.args.a es c.loop.counter c.in-Some.key c.at.result.now (omega arith) c.laws.ensures.apart (sym c.loop.invariant.at ∙ c.in-Some.is) (ap (at_slot c.in-Some.key) (sym c.loop.invariant.entries) ∙ c.at.ensures) in
    record {
      entries = same;
      room = ap (λ v. v.room) c.look.ensures ∙ c.loop.invariant.room;
      visits = ap (λ v. v.visits) c.look.ensures ∙ ap (λ n. n + 1) c.loop.invariant.visits;
      at = c.after-at.ensures ∙ (ap (following (Some c.in-Some.key)) same ∙ (at.next ∙ ap (λ n. first_of (drop n es) None) (sym (add-one c.loop.counter))));
      found = ap (λ n. first_fit c.args.a (drop n es)) (add-one c.loop.counter) ∙ (sym (at.short (omega (arith, c.weight_of.ensures, c.if-weight_of-a.false))) ∙ c.loop.invariant.found);
    }
