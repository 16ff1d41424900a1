use Rattle.std.proofs.Common.{◌≡◌, length, ap, ◌∙◌, arith, Some, None}
use Rattle.std.proofs.lemmas.List.{length-map}
use Rattle.weighted_event.specs.Trees.{IsFirstPlace}
use Rattle.weighted_event.specs.Rows.{gathered, weight_in, IsFirstFit}
use Rattle.weighted_event.proofs.Kept.{row_found, row_none}
use Rattle.weighted_event.proofs.row.Row.find.Goals as goal

pub returns-in-Some-clause-item : goal.returns-in-Some-clause-item
returns-in-Some-clause-item c =
    let view : gathered c.self.inside.items.items ≡ c.args.self.now.items = ap (λ v. v.items) c.self.view_is in
    let found : IsFirstPlace c.args.a c.self.inside.tree.weights (Some c.in-Some.at) = rw c.in-Some.is at c.first-way.ensures.place in
    rw (← view) (row_found c.self.inside.tree.weights c.self.inside.items.items c.self.inside.places.items c.self.inside.end c.args.a c.in-Some.at c.index.result.now c.self.invariant.0 (omega arith) found c.index.ensures)

pub returns-in-Some-clause-few : goal.returns-in-Some-clause-few
returns-in-Some-clause-few c =
    let view : length c.self.inside.places.items ≡ c.args.self.now.room = ap (λ v. v.room) c.self.view_is in
    let many : length c.self.inside.tree.weights ≡ length c.self.inside.items.items = ap length c.self.invariant.0.weighed ∙ length-map c.self.inside.items.items weight_in in
    omega (arith, c.first-way.ensures.few, view, many, c.self.invariant.0.room)

pub returns-in-None-clause-item : goal.returns-in-None-clause-item
returns-in-None-clause-item c =
    let view : gathered c.self.inside.items.items ≡ c.args.self.now.items = ap (λ v. v.items) c.self.view_is in
    let found : IsFirstPlace c.args.a c.self.inside.tree.weights None = rw c.in-None.is at c.first-way.ensures.place in
    let none : IsFirstFit c.args.a (gathered c.self.inside.items.items) None = row_none c.self.inside.tree.weights c.self.inside.items.items c.self.inside.places.items c.self.inside.end c.args.a c.self.invariant.0 found in
    rw (← view) none

pub returns-in-None-clause-few : goal.returns-in-None-clause-few
returns-in-None-clause-few c =
    let view : length c.self.inside.places.items ≡ c.args.self.now.room = ap (λ v. v.room) c.self.view_is in
    let many : length c.self.inside.tree.weights ≡ length c.self.inside.items.items = ap length c.self.invariant.0.weighed ∙ length-map c.self.inside.items.items weight_in in
    omega (arith, c.first-way.ensures.few, view, many, c.self.invariant.0.room)
