-- What an event list ends as where the waker of a waiting entry is lent to be written.
use Rattle.std.specs.Prelude.{Option}
use Rattle.std.specs.Borrow.{LendsIf, MutBor, Fml, RattleType}
use Rattle.std.specs.contracts.option.Option as option
use Rattle.lock_event.specs.declared.event.EntryId.{EntryId}
use Rattle.lock_event.specs.Lists.{with_key}
use Rattle.lock_event.specs.Slots.{has_id, slot_of}
use Rattle.lock_event.specs.Waiting.{Waiters}
use Rattle.lock_event.specs.contracts.event.Event.{the_row}

-- The list whose entry of this id keeps w.
abbrev pub event_with : {W : Type 0} → Waiters W → EntryId → Option W → Waiters W
event_with e id w = record e { entries = with_key (has_id id) (slot_of id w) e.entries }

-- Where a place is lent, the entry keeps what is last written there; where none is, the list stays as it is.
abbrev pub LendsWakerOf : (W : RattleType) → EntryId → MutBor (Waiters W.Denot) → Option (MutBor (Option W.Denot)) → Fml
LendsWakerOf W id s r = LendsIf (the_row W) (option.the_row W) s r (event_with s.now id) s.now
