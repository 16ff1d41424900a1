use Rattle.std.proofs.Common.{◌≡◌, ℕ, ◌++◌, ◌∷◌, [], length, take, sym, ap, ◌∙◌, arith, add-one}
use Rattle.std.proofs.lemmas.Option.{same_Some}
use Rattle.std.proofs.lemmas.List.{length-take-le}
use Rattle.weighted_event.specs.Rows.{item, is_in}
use Rattle.lock_event.specs.Chains.{number, at_slot, after_slot}
use Rattle.weighted_event.specs.Loads.{weight_of}
use Rattle.weighted_event.specs.Ranks.{ranked}
use Rattle.lock_event.proofs.Chains.{place}
use Rattle.weighted_event.proofs.Loads.{has_place}
use Rattle.weighted_event.proofs.Ranks.{take_ranked, not_yet_in, length-ranked}
use Rattle.weighted_event.proofs.weighted.bring_in.Goals as goal

pub loop-preserved : goal.loop-preserved
loop-preserved g c =
    let es = c.args.chain.now.entries in
    let here = place es c.loop.counter (omega (arith, c.loop-test.true, c.len-end.ensures)) c.laws.ensures.apart in
    let key : number here.e ≡ c.in-Some.key = same_Some (number here.e) c.in-Some.key (sym here.slot ∙ (sym c.loop.invariant.at ∙ c.in-Some.is)) in
    let it : here.e ≡ c.at.result.now = same_Some here.e c.at.result.now (sym here.at ∙ (ap (λ (k : ℕ). at_slot k es) key ∙ c.at.ensures)) in
    let weight : weight_of here.e.key ≡ c.weight_of.result = ap (λ e. weight_of e.key) it ∙ sym c.weight_of.ensures in
    let its : item (number here.e) (weight_of here.e.key) ≡ item c.in-Some.key c.weight_of.result = ap (λ (k : ℕ). item k (weight_of here.e.key)) key ∙ ap (λ (w : ℕ). item c.in-Some.key w) weight in
    record {
      items = rw (add-one c.loop.counter)
          (c.push.ensures.items
          ∙ (ap (λ xs. xs ++ item c.in-Some.key c.weight_of.result ∷ []) c.loop.invariant.items
          ∙ (ap (λ x. ranked (take c.loop.counter es) ++ x ∷ []) (sym its) ∙ sym (take_ranked es c.loop.counter here.e here.here))));
      room = c.push.ensures.room ∙ c.loop.invariant.room;
      at = rw (add-one c.loop.counter) (c.after-at.ensures ∙ (ap (λ (k : ℕ). after_slot k es) (sym key) ∙ here.next));
    }

pub push-requires-clause-room : goal.push-requires-clause-room
push-requires-clause-room g c =
    let few : length (take c.loop.counter c.args.chain.now.entries) ≡ c.loop.counter = length-take-le c.loop.counter c.args.chain.now.entries (omega (arith, c.loop-test.true, c.len-end.ensures)) in
    omega (arith, c.loop-test.true, c.len-end.ensures, ap length c.loop.invariant.items, length-ranked (take c.loop.counter c.args.chain.now.entries), few, c.loop.invariant.room, c.requires.room)

pub push-requires-clause-fresh : goal.push-requires-clause-fresh
push-requires-clause-fresh g c =
    let es = c.args.chain.now.entries in
    let here = place es c.loop.counter (omega (arith, c.loop-test.true, c.len-end.ensures)) c.laws.ensures.apart in
    let key : number here.e ≡ c.in-Some.key = same_Some (number here.e) c.in-Some.key (sym here.slot ∙ (sym c.loop.invariant.at ∙ c.in-Some.is)) in
    ap (is_in c.in-Some.key) c.loop.invariant.items ∙ (ap (λ (k : ℕ). is_in k (ranked (take c.loop.counter es))) (sym key) ∙ not_yet_in es c.loop.counter here.e c.laws.ensures.apart here.here)

pub at-requires : goal.at-requires
at-requires g c = has_place c.args.chain.now.entries c.loop.counter c.in-Some.key (omega (arith, c.loop-test.true, c.len-end.ensures)) c.laws.ensures.apart (sym c.loop.invariant.at ∙ c.in-Some.is)

pub after-at-requires : goal.after-at-requires
after-at-requires g c = has_place c.args.chain.now.entries c.loop.counter c.in-Some.key (omega (arith, c.loop-test.true, c.len-end.ensures)) c.laws.ensures.apart (sym c.loop.invariant.at ∙ c.in-Some.is)

pub returns-in_default-clause-items : goal.returns-in_default-clause-items
returns-in_default-clause-items g c =
    let here = place c.args.chain.now.entries c.loop.counter (omega (arith, c.loop-test.true, c.len-end.ensures)) c.laws.ensures.apart in
    absurd (c.in_default.not-Some (number here.e) (c.loop.invariant.at ∙ here.slot))

pub returns-in_default-clause-room : goal.returns-in_default-clause-room
returns-in_default-clause-room g c = c.loop.invariant.room
