use Rattle.std.proofs.Common.{◌≡◌, ◌*◌, length, replicate, ap, ◌∙◌, None, arith}
use Rattle.weighted_event.specs.Rows.{gathered}
use Rattle.weighted_event.proofs.Kept.{IsRow-empty, all_new, twice_up, gather_nobody}
use Rattle.weighted_event.proofs.row.Row.with_room.Goals as goal

pub with_places-requires-clause-complete : goal.with_places-requires-clause-complete
with_places-requires-clause-complete c = twice_up c.in-Some.power c.in-Some.room c.in-Some.ensures.power

pub invariant_of-result : goal.invariant_of-result
invariant_of-result c =
    let items : c.resize.new.self.items ≡ replicate (2 * c.in-Some.room) None = all_new (2 * c.in-Some.room) _ None c.new-items.result.items c.resize.new.self.items c.new-items.ensures.items c.new-items.ensures.len c.in_ok-resize.ensures.items in
    let places : c.resize-2.new.self.items ≡ replicate c.in-Some.room 0 = all_new c.in-Some.room _ 0 c.new-places.result.items c.resize-2.new.self.items c.new-places.ensures.items c.new-places.ensures.len c.in_ok-resize-2.ensures.items in
    let none : length (gathered (replicate (2 * c.in-Some.room) None)) ≡ 0 = ap length (gather_nobody (2 * c.in-Some.room)) in
    rw (items, places, c.in_ok-tree.ensures.weights) (IsRow-empty c.in-Some.room, omega (arith, none))

pub returns-clause-items : goal.returns-clause-items
returns-clause-items c =
    let items : c.resize.new.self.items ≡ replicate (2 * c.in-Some.room) None = all_new (2 * c.in-Some.room) _ None c.new-items.result.items c.resize.new.self.items c.new-items.ensures.items c.new-items.ensures.len c.in_ok-resize.ensures.items in
    ap gathered items ∙ gather_nobody (2 * c.in-Some.room)
