-- An empty cell is taken by the first solo poll.
use Rattle.world_once_cell.proofs.Prelude.{ℕ, refl, Answer, Call, Inputs, Active, World, IsSound, IsAwake, IsFreeAndWanted, known_of}
use Rattle.world_base.proofs.of_table.Bounds.{first_takes, first_marked}
use Rattle.world_once_cell.specs.Bound.{PassesOver, IsBounded}
use Rattle.world_once_cell.proofs.whole.Promises.{keeps_promises}

never_passed : (w : World) (p : ℕ) (i : Inputs) (a : Answer) (v : World) → PassesOver w p i a v → ⊥
never_passed w p i a v o =
    let kept = keeps_promises (known_of w) w p Call.Poll i o.whole.more a v o.whole.runs o.whole.ended in
    o.not_taken (kept.solo refl o.solo.pending o.solo.marked o.free)

pub bounded : (w : World) → IsSound w → IsAwake w → IsFreeAndWanted w → IsBounded w
bounded w sound awake wanted =
    let some = first_marked w.active sound.active_in_order (awake.marked wanted) in
    record {
      some_marked = (some.0, some.1, awake.waiting Active some.0 some.2);
      one_takes = first_takes PassesOver (λ v. v.active) w (λ p i a v. never_passed w p i a v) wanted.1;
    }
