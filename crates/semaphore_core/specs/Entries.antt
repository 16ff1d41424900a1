-- What calls on a list do, as far as the rule of the semaphore asks: who stands in it, and how many are notified.
use Rattle.std.specs.Prelude.{◌≡◌, ℕ, ◌≤◌, List, [], ◌∷◌, ◌++◌}
use Rattle.lock_event.specs.Lists.{marked_count}
use Rattle.weighted_event.specs.Loads.{weight_of}
use Rattle.lock_event.specs.declared.event.Entry.{Entry}
use Rattle.lock_event.specs.declared.event.Slot.{Slot}
use Rattle.weighted_event.specs.declared.weighted.Load.{Load}
use Rattle.words_permits.specs.Waiters.{Waiter, waiter, StandsIn, HasNo, all_but, AreWaiters}

module _ {W : Type 0} where
  -- who stands in the entries
  abbrev pub waiters_in : List (Entry (Slot (Load W))) → List Waiter
  waiters_in [] = []
  waiters_in (e ∷ es) = waiter e.key.id.number (weight_of e.key) ∷ waiters_in es

  module _ (old new : List (Entry (Slot (Load W)))) where
    -- One has joined at the back for so many permits, and isn't notified.
    abbrev pub HasJoined : ℕ → ℕ → Type 0
    HasJoined entry k = (waiters_in new ≡ waiters_in old ++ waiter entry k ∷ []) × (marked_count new ≡ marked_count old) × HasNo entry (waiters_in old)

    -- The same stand in the list, and as many are notified.
    abbrev pub IsUnchanged : Type 0
    IsUnchanged = (waiters_in new ≡ waiters_in old) × (marked_count new ≡ marked_count old)

    -- The entry of this number has left, and each other stands where it did, if no two had one number.
    abbrev pub IsGone : ℕ → Type 0
    IsGone entry = AreWaiters (waiters_in old) → waiters_in new ≡ all_but entry (waiters_in old)

    -- This entry has left, which was not notified.
    abbrev pub HasLeft : ℕ → Type 0
    HasLeft entry = IsGone entry × (marked_count new ≡ marked_count old)

    -- One is notified, if so many are enough for any, and none if they aren't and none was before.
    abbrev pub IsTold : ℕ → Type 0
    IsTold available =
        (waiters_in new ≡ waiters_in old)
        × (marked_count old ≤ marked_count new)
        × ((w : Waiter) → StandsIn (waiters_in new) w → w.weight ≤ available → 1 ≤ marked_count new)
        × (marked_count old ≡ 0 → 1 ≤ marked_count new → (w : Waiter) × StandsIn (waiters_in new) w × (w.weight ≤ available))
