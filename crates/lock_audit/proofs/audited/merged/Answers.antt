use Rattle.std.proofs.Common.{◌≡◌, ◌∷◌, [], arith, length-append, refl, sym, ap, ◌∙◌, map-id}
use Rattle.std.proofs.lemmas.Iterator.Consumers.{YieldsList-end}
use Rattle.std.proofs.lemmas.Iterator.Adapters.{YieldsList-from_vec}
use Rattle.lock_audit.specs.Numbers.{Numbers, sums}
use Rattle.lock_audit.proofs.Counting.{sums_more}
use Rattle.lock_audit.proofs.audited.merged.Goals as goal

pub loop-share-preserved : goal.loop-share-preserved
loop-share-preserved g c =
    let one : c.share.inside.tokens.parts ≡ 1 = c.share.invariant in
    record {
      parts = omega (arith, one, c.merge.ensures.parts, c.loop-share.invariant.parts, length-append {A = Numbers} c.loop-share.yielded (c.in-Some.share ∷ []));
      counted = rw (sums_more, c.merge.ensures.numbers, c.loop-share.invariant.counted, c.share.view_is) refl;
    }

pub returns-clause-parts : goal.returns-clause-parts
returns-clause-parts g c =
    let gives = c.into_iter-share-iterator.ensures.into_iter_gives in
    let all = c.args.shares in
    let end = YieldsList-end (YieldsList-from_vec {s = c.into_iter-share-iterator.result} all.items gives.0 (gives.1 ∙ all.ok.0)) c.loop-share.yielded c.loop-share.share-iterator c.loop-share.yielded_by c.next.result c.next.new.self c.in-None.is c.next.ensures.steps in
    c.loop-share.invariant.parts ∙ (end.1 ∙ sym all.ok.0)

pub returns-clause-numbers : goal.returns-clause-numbers
returns-clause-numbers g c =
    let gives = c.into_iter-share-iterator.ensures.into_iter_gives in
    let all = c.args.shares in
    let end = YieldsList-end (YieldsList-from_vec {s = c.into_iter-share-iterator.result} all.items gives.0 (gives.1 ∙ all.ok.0)) c.loop-share.yielded c.loop-share.share-iterator c.loop-share.yielded_by c.next.result c.next.new.self c.in-None.is c.next.ensures.steps in
    c.loop-share.invariant.counted ∙ ap sums (sym (map-id c.loop-share.yielded) ∙ end.0)
