-- What a contract sees of a `WaitQueue`.
use Rattle.std.specs.Prelude.{◌≡◌, ℕ, ◌<◌, ◌≤◌, List, length, Option}
use Rattle.std.specs.List.{sum_by}
use Rattle.lock_event.specs.declared.event.Entry.{Entry}
use Rattle.lock_event.specs.declared.event.Slot.{Slot}
use Rattle.lock_event.specs.declared.event.EntryId.{EntryId}
use Rattle.lock_event.specs.Lists.{IsMarkedFirst}
use Rattle.world_base.specs.queue.Parties.{by_party, entries_of}
use Rattle.world_base.specs.queue.Seats.{IsSeatedIf, taken, seat_at}

-- How many parties there are, and the entries from front to back, each with its party.
pub record Queue : Type 0 where
  pub parties : ℕ
  pub entries : List (Entry ℕ)

-- The queue of so many parties with these entries.
abbrev pub queue : ℕ → List (Entry ℕ) → Queue
queue parties entries = record { parties = parties; entries = entries }

-- Each party has one seat and one entry there, or neither, and there is room for all parties.
pub record IsWaiting (seats : List (Option EntryId)) (entries : List (Entry (Slot ℕ))) (room : ℕ) : Type 0 where
  pub owners : (p : ℕ) → entries_of p (by_party entries) ≡ taken (seat_at seats p)
  pub seated : (p : ℕ) → p < length seats → IsSeatedIf p entries (seat_at seats p)
  pub size : sum_by taken seats ≡ length entries
  pub enough : length seats ≤ room

-- What always holds of such a queue: no party has two entries, none past the last party has one,
-- and marked entries stand before waiting ones.
pub record IsQueue (q : Queue) : Type 0 where
  pub once : (p : ℕ) → entries_of p q.entries ≤ 1
  pub known : (p : ℕ) → q.parties ≤ p → entries_of p q.entries ≡ 0
  pub in_order : IsMarkedFirst q.entries
