-- What a list ends as where what one of its entries keeps to be woken with is lent to be written.
use Rattle.std.specs.Prelude.{Option, Some}
use Rattle.std.specs.Borrow.{Lends, LendsIf, MutBor, Fml, RattleType}
use Rattle.std.specs.contracts.option.Option as option
use Rattle.lock_event.specs.declared.event.EntryId.{EntryId}
use Rattle.lock_event.specs.Lists.{with_key}
use Rattle.lock_event.specs.Slots.{has_id}
use Rattle.lock_event.specs.Waiting.{Waiters}
use Rattle.weighted_event.specs.declared.weighted.Load.{Load}
use Rattle.weighted_event.specs.Loads.{load, weight_in, laden, weight_at}
use Rattle.weighted_event.specs.contracts.weighted.Load as carried
use Rattle.weighted_event.specs.contracts.weighted.WeightedEvent.{the_row}

-- The load keeps its weight, and the waker that is last written.
abbrev pub LendsBeside : (W : RattleType) → MutBor (Option (Load W.Denot)) → MutBor (Option W.Denot) → Fml
LendsBeside W s r = Lends (option.the_row (carried.the_row W)) (option.the_row W) s r (λ w. Some (load (weight_in s.now) w))

-- The list whose entry of this id keeps w, with its weight as it was.
abbrev pub weighted_with : {W : Type 0} → Waiters (Load W) → EntryId → Option W → Waiters (Load W)
weighted_with e id w = record e { entries = with_key (has_id id) (laden id (weight_at id e.entries) w) e.entries }

-- Where a place is lent, the entry keeps what is last written there; where none is, the list stays as it is.
abbrev pub LendsWakerOf : (W : RattleType) → EntryId → MutBor (Waiters (Load W.Denot)) → Option (MutBor (Option W.Denot)) → Fml
LendsWakerOf W id s r = LendsIf (the_row W) (option.the_row W) s r (weighted_with s.now id) s.now
