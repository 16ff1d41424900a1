-- Who is marked in a list, before and after.
use Rattle.std.specs.Prelude.{◌≡◌, ◌≢◌, ℕ, true, List}
use Rattle.lock_event.specs.declared.event.Entry.{Entry}
use Rattle.lock_event.specs.Lists.{is_marked_at}
use Rattle.world_base.specs.queue.Parties.{is_party}

-- Whoever is marked in the new list, but for this party, was marked in the old one.
abbrev pub MarksNobody : ℕ → List (Entry ℕ) → List (Entry ℕ) → Type 0
MarksNobody p old new = (q : ℕ) → q ≢ p → is_marked_at (is_party q) new ≡ true → is_marked_at (is_party q) old ≡ true
