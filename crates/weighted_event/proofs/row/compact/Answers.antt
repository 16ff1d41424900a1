use Rattle.std.proofs.Common.{ap, ◌∙◌, refl, arith}
use Rattle.weighted_event.specs.Rows.{gathered}
use Rattle.weighted_event.proofs.Kept.{Packed-skip, Packed-keep, Packed-move, Packed-all}
use Rattle.weighted_event.proofs.row.compact.Goals as goal
use Rattle.weighted_event.proofs.row.compact.Goals.{in-Some, then-to-from, else-to-from, in_default}

pub loop-from-init : goal.loop-from-init
loop-from-init c = record {
  packed = record { row = c.requires.row; same = refl; before = omega arith; gap = λ q low high. absurd (omega (arith, high)); full = λ q below. absurd (omega (arith, below)) };
  path = refl;
}

pub shift-requires-clause-row : goal.shift-requires-clause-row
shift-requires-clause-row c = c.loop-from.invariant.packed.row

pub shift-requires-clause-empty : goal.shift-requires-clause-empty
shift-requires-clause-empty c = c.loop-from.invariant.packed.gap c.loop-from.to (omega arith) c.if-to-from.true

pub overflow_add-to : goal.overflow_add-to
overflow_add-to c = omega (arith, c.loop-from.invariant.packed.before)

pub loop-from-preserved : goal.loop-from-preserved
loop-from-preserved c = record {
  packed = elim c.match-items-from.branch [
    | in-Some w ↦ elim w.if-to-from.branch [
      | then-to-from v ↦
          let moved = Packed-move (gathered c.args.items.now) c.loop-from.tree.weights v.shift.new.tree.weights c.loop-from.items v.shift.new.items c.loop-from.places v.shift.new.places c.loop-from.to c.loop-from.from w.in-Some.it c.loop-from.invariant.packed v.if-to-from.true w.in-Some.is v.shift.ensures.row v.shift.ensures.items in
          rw (w.tree-is ∙ v.tree-is, w.items-is ∙ v.items-is, w.places-is ∙ v.places-is, w.to-is) moved
      | else-to-from v ↦
          let stays = Packed-keep (gathered c.args.items.now) c.loop-from.tree.weights c.loop-from.items c.loop-from.places c.loop-from.to c.loop-from.from w.in-Some.it c.loop-from.invariant.packed v.if-to-from.false w.in-Some.is in
          rw (w.tree-is ∙ v.tree-is, w.items-is ∙ v.items-is, w.places-is ∙ v.places-is, w.to-is) stays
    ]
    | in_default w ↦
        let stays = Packed-skip (gathered c.args.items.now) c.loop-from.tree.weights c.loop-from.items c.loop-from.places c.loop-from.to c.loop-from.from c.loop-from.invariant.packed w.in_default.is in
        rw (w.tree-is, w.items-is, w.places-is, w.to-is) stays
  ];
  path = elim c.match-items-from.branch [
    | in-Some w ↦ elim w.if-to-from.branch [
      | then-to-from v ↦ ap (λ t. t.path) w.tree-is ∙ (ap (λ t. t.path) v.tree-is ∙ (v.shift.ensures.path ∙ c.loop-from.invariant.path))
      | else-to-from v ↦ ap (λ t. t.path) w.tree-is ∙ (ap (λ t. t.path) v.tree-is ∙ c.loop-from.invariant.path)
    ]
    | in_default w ↦ ap (λ t. t.path) w.tree-is ∙ c.loop-from.invariant.path
  ];
}

pub returns-clause-row : goal.returns-clause-row
returns-clause-row c = (Packed-all (gathered c.args.items.now) c.loop-from.tree.weights c.loop-from.items c.loop-from.places c.loop-from.to c.loop-from.from c.loop-from.invariant.packed (omega (arith, c.loop-from.auto.items)) (omega (arith, c.loop-from.auto.items))).0

pub returns-clause-items : goal.returns-clause-items
returns-clause-items c = c.loop-from.invariant.packed.same

pub returns-clause-end : goal.returns-clause-end
returns-clause-end c = (Packed-all (gathered c.args.items.now) c.loop-from.tree.weights c.loop-from.items c.loop-from.places c.loop-from.to c.loop-from.from c.loop-from.invariant.packed (omega (arith, c.loop-from.auto.items)) (omega (arith, c.loop-from.auto.items))).1
