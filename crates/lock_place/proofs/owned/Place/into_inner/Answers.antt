-- The row has one slot, and it is filled.
use Rattle.std.proofs.Common.{arith}
use Rattle.lock_place.proofs.owned.Place.into_inner.Goals as goal

pub take-value-requires : goal.take-value-requires
take-value-requires g c =
    (rw c.into_slots-row.ensures.1 (omega arith), c.into_slots-row.ensures.3 0 (omega arith) (rw c.into_slots-row.ensures.1 (omega arith)))
