use Rattle.std.proofs.Common.{◌≡◌, ℕ, ◌+◌, ◌-◌, ◌*◌, ◌^◌, ◌<◌, ◌≤◌, List, length, drop, refl, sym, ap, ◌∙◌, subst, arith}
use Rattle.weighted_event.specs.Trees.{AreLeast}
use Rattle.weighted_event.proofs.Heaps.{none_below, to_left, to_right, above_places, level_up, last_level, some_path, places_found, few_nodes}
use Rattle.weighted_event.proofs.tree.Tree.first.Goals as goal
use Rattle.weighted_event.proofs.tree.Tree.first.Goals.{then-nodes-at, else-nodes-at}

pub returns-then-nodes-most-clause-place : goal.returns-then-nodes-most-clause-place
returns-then-nodes-most-clause-place c =
    let same = c.as_slice-nodes.ensures.value in
    let view : drop c.self.inside.places c.self.inside.nodes.items ≡ c.args.self.now.weights = ap (λ v. v.weights) c.self.view_is in
    rw (← view) (none_below c.self.inside.nodes.items c.self.inside.places c.args.a c.self.invariant.least c.self.invariant.count (rw same at c.if-nodes-most.true))

pub loop-init : goal.loop-init
loop-init c = record {
  here = record { low = omega arith; high = omega arith; enough = c.if-nodes-most.false; heavier = λ k low high. absurd (omega (arith, low, high)) };
  visits = refl;
}

pub overflow_add-visits : goal.overflow_add-visits
overflow_add-visits c = omega (arith, c.loop.invariant.visits, c.loop-test.true)

pub overflow_mul-at : goal.overflow_mul-at
overflow_mul-at c =
    let inner : c.loop.at < c.self.inside.places = above_places c.loop.counter c.self.inside.path c.self.inside.places (2 ^ (c.loop.counter - 1)) c.loop.at c.loop.auto.counter c.loop-test.true (c.self.invariant.complete (omega arith)) refl c.loop.invariant.here.high in
    omega (arith, c.self.invariant.count, c.as_slice-nodes.ensures.len, ap length c.as_slice-nodes.ensures.value)

pub offset_bounds-nodes-at : goal.offset_bounds-nodes-at
offset_bounds-nodes-at c =
    let inner : c.loop.at < c.self.inside.places = above_places c.loop.counter c.self.inside.path c.self.inside.places (2 ^ (c.loop.counter - 1)) c.loop.at c.loop.auto.counter c.loop-test.true (c.self.invariant.complete (omega arith)) refl c.loop.invariant.here.high in
    omega (arith, c.self.invariant.count, c.as_slice-nodes.ensures.len, ap length c.as_slice-nodes.ensures.value)

pub bounds-nodes-at : goal.bounds-nodes-at
bounds-nodes-at c =
    let inner : c.loop.at < c.self.inside.places = above_places c.loop.counter c.self.inside.path c.self.inside.places (2 ^ (c.loop.counter - 1)) c.loop.at c.loop.auto.counter c.loop-test.true (c.self.invariant.complete (omega arith)) refl c.loop.invariant.here.high in
    omega (arith, c.self.invariant.count, ap length c.as_slice-nodes.ensures.value)

pub loop-preserved : goal.loop-preserved
loop-preserved c =
    let inner : c.loop.at < c.self.inside.places = above_places c.loop.counter c.self.inside.path c.self.inside.places (2 ^ (c.loop.counter - 1)) c.loop.at c.loop.auto.counter c.loop-test.true (c.self.invariant.complete (omega arith)) refl c.loop.invariant.here.high in
    let least : AreLeast c.as_slice-nodes.result.now c.self.inside.places = subst (λ (ns : List ℕ). AreLeast ns c.self.inside.places) (sym c.as_slice-nodes.ensures.value) c.self.invariant.least in
    let e : c.loop.counter + 1 - 1 ≡ c.loop.counter = omega arith in
    let up : 2 ^ (c.loop.counter + 1 - 1) ≡ 2 * 2 ^ (c.loop.counter - 1) = ap (λ (n : ℕ). 2 ^ n) e ∙ level_up c.loop.counter c.loop.auto.counter in
    let some : 0 < 2 ^ (c.loop.counter - 1) = omega (arith, c.loop.invariant.here.low, c.loop.invariant.here.high) in
    record {
      here = rw up (elim c.if-nodes-at.branch [
        | then-nodes-at w ↦
            let turn : c.loop.at * 2 ≡ 2 * c.loop.at = omega arith in
            let it : c.if-nodes-at.at ≡ 2 * c.loop.at + 1 = w.at-is ∙ ap (λ n. n + 1) turn in
            rw it (to_right c.as_slice-nodes.result.now c.self.inside.places c.args.a (2 ^ (c.loop.counter - 1)) c.loop.at least inner some c.loop.invariant.here (rw turn at w.if-nodes-at.true))
        | else-nodes-at w ↦
            let turn : c.loop.at * 2 ≡ 2 * c.loop.at = omega arith in
            let it : c.if-nodes-at.at ≡ 2 * c.loop.at = w.at-is ∙ turn in
            rw it (to_left c.as_slice-nodes.result.now c.self.inside.places c.args.a (2 ^ (c.loop.counter - 1)) c.loop.at least inner some c.loop.invariant.here (rw turn at w.if-nodes-at.false))
      ]);
      visits = ap (λ n. n + 1) c.loop.invariant.visits;
    }

pub overflow_sub-result : goal.overflow_sub-result
overflow_sub-result c =
    let whole = c.self.invariant.complete (omega arith) in
    let some : 1 ≤ c.self.inside.path = some_path c.self.inside.path c.self.inside.places whole in
    let last : 2 ^ (c.loop.counter - 1) ≡ c.self.inside.places = ap (λ (n : ℕ). 2 ^ (n - 1)) (let e : c.loop.counter ≡ c.self.inside.path = omega arith in e) ∙ last_level c.self.inside.path c.self.inside.places whole in
    omega (arith, last, c.loop.invariant.here.low)

pub returns-clause-place : goal.returns-clause-place
returns-clause-place c =
    let whole = c.self.invariant.complete (omega arith) in
    let some : 1 ≤ c.self.inside.path = some_path c.self.inside.path c.self.inside.places whole in
    let last : 2 ^ (c.loop.counter - 1) ≡ c.self.inside.places = ap (λ (n : ℕ). 2 ^ (n - 1)) (let e : c.loop.counter ≡ c.self.inside.path = omega arith in e) ∙ last_level c.self.inside.path c.self.inside.places whole in
    let view : drop c.self.inside.places c.self.inside.nodes.items ≡ c.args.self.now.weights = ap (λ v. v.weights) c.self.view_is in
    rw (← view, ← c.as_slice-nodes.ensures.value) (places_found c.as_slice-nodes.result.now c.self.inside.places c.args.a (2 ^ (c.loop.counter - 1)) c.loop.at (ap length c.as_slice-nodes.ensures.value ∙ c.self.invariant.count) last c.loop.invariant.here)

pub returns-then-self-eq0-clause-few : goal.returns-then-self-eq0-clause-few
returns-then-self-eq0-clause-few c = omega arith

pub returns-then-nodes-most-clause-few : goal.returns-then-nodes-most-clause-few
returns-then-nodes-most-clause-few c =
    let view : drop c.self.inside.places c.self.inside.nodes.items ≡ c.args.self.now.weights = ap (λ v. v.weights) c.self.view_is in
    rw (← view) (few_nodes c.self.inside.nodes.items c.self.inside.places c.self.inside.path 1 c.self.invariant (some_path c.self.inside.path c.self.inside.places (c.self.invariant.complete (omega arith))))

pub returns-clause-few : goal.returns-clause-few
returns-clause-few c =
    let view : drop c.self.inside.places c.self.inside.nodes.items ≡ c.args.self.now.weights = ap (λ v. v.weights) c.self.view_is in
    let some : 1 ≤ c.self.inside.path = some_path c.self.inside.path c.self.inside.places (c.self.invariant.complete (omega arith)) in
    rw (← view) (few_nodes c.self.inside.nodes.items c.self.inside.places c.self.inside.path c.loop.visits c.self.invariant (omega (arith, c.loop.invariant.visits)))

pub returns-clause-visits : goal.returns-clause-visits
returns-clause-visits c =
    let some : 1 ≤ c.self.inside.path = some_path c.self.inside.path c.self.inside.places (c.self.invariant.complete (omega arith)) in
    let view : c.self.inside.path ≡ c.args.self.now.path = ap (λ v. v.path) c.self.view_is in
    omega (arith, view, c.loop.invariant.visits)
