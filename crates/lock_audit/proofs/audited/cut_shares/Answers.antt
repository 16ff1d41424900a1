use Rattle.std.proofs.Common.{◌≡◌, ◌++◌, ◌∷◌, [], List, arith, rules, subst, sym}
use Rattle.std.specs.List.{All}
use Rattle.std.proofs.lemmas.List.Elements.{All-append, All-cons}
use Rattle.lock_audit.specs.Numbers.{Numbers, nothing}
use Rattle.lock_audit.proofs.audited.cut_shares.Goals as goal

-- one more of which nothing is counted
one_more : (ns ms : List Numbers) (n : Numbers) → ms ≡ ns ++ n ∷ [] → All (λ m. m ≡ nothing) ns → n ≡ nothing → All (λ m. m ≡ nothing) ms
one_more ns ms n e all none =
    let P : Numbers → Type 0 = λ m. m ≡ nothing in
    subst (All P) (sym e) (All-append P ns (n ∷ []) all (All-cons P n [] none (λ k d l. absurd (omega arith))))

pub loop-preserved : goal.loop-preserved
loop-preserved g c =
    let more : ◌≡◌ {A = List Numbers} c.push.new.self.items (c.loop.all.items ++ c.cut.result.numbers ∷ []) = search rules in
    record {
      parts = omega (arith, c.loop.invariant.parts, c.cut.ensures.left);
      cut = search rules;
      none = c.cut.ensures.left_numbers;
      nothing = one_more _ _ _ more c.loop.invariant.nothing c.cut.ensures.numbers;
    }

pub loop-init : goal.loop-init
loop-init g c = record {
  parts = omega arith;
  cut = c.new-all.ensures.len;
  none = c.requires.nothing;
  nothing = rw c.new-all.ensures.items (λ k d l. absurd (omega (arith, l)));
}
