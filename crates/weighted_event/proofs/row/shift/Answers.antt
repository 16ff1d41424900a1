use Rattle.std.proofs.Common.{◌≡◌, ap, ◌∙◌, set}
use Rattle.weighted_event.proofs.Kept.{IsRow-shift}
use Rattle.weighted_event.proofs.row.shift.Goals as goal

pub returns-clause-row : goal.returns-clause-row
returns-clause-row c =
    let weights : c.set-2.new.self.weights ≡ set (set c.args.tree.now.weights c.args.to c.args.it.weight) c.args.from 18446744073709551616 =
    c.set-2.ensures.weights ∙ ap (λ ws. set ws c.args.from 18446744073709551616) c.set.ensures.weights in
    rw (weights, c.note.ensures) (IsRow-shift c.args.tree.now.weights c.args.items.now c.args.places.now c.args.to c.args.from c.args.it c.requires.row c.requires.before c.requires.there)
