-- The entries of a list by their numbers.
use Rattle.words_base.specs.Waiting.{unless}
use Rattle.std.specs.Prelude.{ℕ, List, [], ◌∷◌}
use Rattle.lock_event.specs.declared.event.Entry.{Entry}
use Rattle.lock_event.specs.declared.event.Slot.{Slot}
use Rattle.lock_event.specs.Lists.{is_marked}

module _ {W : Type 0} where
  -- The numbers of the entries that are not notified, in their order.
  abbrev pub waiting_in : List (Entry (Slot W)) → List ℕ
  waiting_in [] = []
  waiting_in (e ∷ es) = unless (is_marked e.mark) e.key.id.number (waiting_in es)

  -- The numbers of all entries, notified or not, in their order.
  abbrev pub numbers_in : List (Entry (Slot W)) → List ℕ
  numbers_in [] = []
  numbers_in (e ∷ es) = e.key.id.number ∷ numbers_in es
