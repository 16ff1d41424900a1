use Rattle.std.proofs.Common.{◌≡◌, ◌+◌, ◌++◌, ◌∷◌, [], false, ap, ◌∙◌, arith}
use Rattle.weighted_event.specs.Rows.{gathered, is_in}
use Rattle.weighted_event.proofs.Gathers.{gathered-put}
use Rattle.weighted_event.proofs.Kept.{IsRow-put, none_has}
use Rattle.weighted_event.proofs.row.add.Goals as goal

pub returns-clause-row : goal.returns-clause-row
returns-clause-row c =
    let v = c.vacant_place-at in
    let fresh : is_in c.args.it.key (gathered v.new.items) ≡ false = ap (is_in c.args.it.key) v.ensures.items ∙ c.requires.fresh in
    rw (c.set.ensures.weights, c.note.ensures)
    (IsRow-put v.new.tree.weights v.new.items v.new.places v.result v.result (v.result + 1) c.args.it v.ensures.row v.ensures.there (none_has v.new.items c.args.it.key fresh) (omega arith) (omega arith) (omega (arith, v.ensures.there)))

pub returns-clause-items : goal.returns-clause-items
returns-clause-items c =
    let v = c.vacant_place-at in
    gathered-put v.new.items v.result c.args.it v.ensures.there v.ensures.row.vacant ∙ ap (λ xs. xs ++ c.args.it ∷ []) v.ensures.items
