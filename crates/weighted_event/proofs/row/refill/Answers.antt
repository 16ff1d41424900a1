use Rattle.std.proofs.Common.{◌≡◌, ◌+◌, ◌++◌, ◌∷◌, [], suc, length, take, ap, sym, ◌∙◌, arith, add-one}
use Rattle.std.proofs.lemmas.List.{length_push}
use Rattle.weighted_event.specs.Rows.{gathered, is_in}
use Rattle.weighted_event.proofs.Gathers.{take_item, take_vacant, not_yet, fewer}
use Rattle.weighted_event.proofs.row.refill.Goals as goal
use Rattle.weighted_event.proofs.row.refill.Goals.{in-Some, in_default}

pub push-requires-clause-room : goal.push-requires-clause-room
push-requires-clause-room c =
    let more : length (gathered (take (suc c.loop-at.at) c.args.items.now)) ≡ length (gathered (take c.loop-at.at c.args.items.now)) + 1 =
    ap length (take_item c.args.items.now c.loop-at.at c.in-Some.it c.in-Some.is) ∙ length_push (gathered (take c.loop-at.at c.args.items.now)) c.in-Some.it in
    omega (arith, more, fewer c.args.items.now (suc c.loop-at.at), ap length c.loop-at.invariant.items, c.loop-at.invariant.room, c.requires.room)

pub push-requires-clause-fresh : goal.push-requires-clause-fresh
push-requires-clause-fresh c =
    ap (is_in c.in-Some.it.key) c.loop-at.invariant.items
    ∙ not_yet c.args.items.now c.loop-at.at c.in-Some.it.key (λ q y before here same. absurd (omega (arith, before, c.requires.apart q c.loop-at.at y c.in-Some.it here c.in-Some.is same)))

pub loop-at-preserved : goal.loop-at-preserved
loop-at-preserved c = record {
  items = rw (add-one c.loop-at.at) (elim c.match-items-at.branch [
    | in-Some w ↦
        ap (λ r. r.items) w.row-is
        ∙ (w.push.ensures.items ∙ (ap (λ xs. xs ++ w.in-Some.it ∷ []) c.loop-at.invariant.items ∙ sym (take_item c.args.items.now c.loop-at.at w.in-Some.it w.in-Some.is)))
    | in_default w ↦ ap (λ r. r.items) w.row-is ∙ (c.loop-at.invariant.items ∙ sym (take_vacant c.args.items.now c.loop-at.at w.in_default.is))
  ]);
  room = elim c.match-items-at.branch [
    | in-Some w ↦ ap (λ r. r.room) w.row-is ∙ (w.push.ensures.room ∙ c.loop-at.invariant.room)
    | in_default w ↦ ap (λ r. r.room) w.row-is ∙ c.loop-at.invariant.room
  ];
}
