use Rattle.std.proofs.Common.{◌≡◌, length, ap, ◌∙◌, arith}
use Rattle.std.proofs.lemmas.List.{length-map}
use Rattle.weighted_event.specs.Rows.{gathered, is_in, without, weight_in}
use Rattle.weighted_event.proofs.Gathers.{without-shorter}
use Rattle.weighted_event.proofs.Kept.{IsRow-out}
use Rattle.weighted_event.proofs.row.Row.remove.Goals as goal

pub place_of-at-requires : goal.place_of-at-requires
place_of-at-requires c =
    let view : gathered c.self.inside.items.items ≡ c.args.self.now.items = ap (λ v. v.items) c.self.view_is in
    rw (c.deref.ensures.value, c.deref-2.ensures.value) (record { apart = c.self.invariant.0.apart; noted = c.self.invariant.0.placed; listed = ap (is_in c.args.key) view ∙ c.requires })

pub set-requires : goal.set-requires
set-requires c = omega (arith, c.place_of-at.ensures.there, ap length c.deref.ensures.value, ap length c.self.invariant.0.weighed, length-map c.self.inside.items.items weight_in)

pub index_mut-requires : goal.index_mut-requires
index_mut-requires c = omega (arith, c.place_of-at.ensures.there, ap length c.deref.ensures.value)

pub invariant_of-self : goal.invariant_of-self
invariant_of-self c =
    let out = ap length (rw c.deref.ensures.value at c.place_of-at.ensures.out) in (
      rw c.set.ensures.weights (IsRow-out c.self.inside.tree.weights c.self.inside.items.items c.self.inside.places.items c.self.inside.end c.place_of-at.result c.self.invariant.0),
      omega (arith, out, without-shorter c.args.key (gathered c.self.inside.items.items), c.self.invariant.1),
    )

pub returns-clause-items : goal.returns-clause-items
returns-clause-items c =
    let view : gathered c.self.inside.items.items ≡ c.args.self.now.items = ap (λ v. v.items) c.self.view_is in
    rw c.deref.ensures.value at c.place_of-at.ensures.out ∙ ap (without c.args.key) view
