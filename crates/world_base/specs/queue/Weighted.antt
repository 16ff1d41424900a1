-- What a contract sees of a `WeightedQueue`, and of one party's seat in it.
use Rattle.std.specs.Prelude.{◌≡◌, ℕ, ◌≤◌, Bool, true, false, List, [], ◌∷◌, length, Option, Some, None, IsSomeAnd, slice_index_or}
use Rattle.lock_event.specs.declared.event.Entry.{Entry}
use Rattle.lock_event.specs.declared.event.Slot.{Slot}
use Rattle.lock_event.specs.declared.event.EntryId.{EntryId}
use Rattle.weighted_event.specs.declared.weighted.Load.{Load}
use Rattle.lock_event.specs.Lists.{joined, without, is_listed, is_marked_at, marked_count}
use Rattle.weighted_event.specs.Loads.{laden, weight_of, waker_in}
use Rattle.lock_event.specs.Slots.{has_id, slot_of}
use Rattle.world_base.specs.queue.Parties.{rekeyed, party_of, entries_of}
use Rattle.world_base.specs.queue.Queues.{IsWaiting}

-- A slot without its weight, and a list without weights.
abbrev pub unladen : Slot (Load ℕ) → Slot ℕ
unladen s = slot_of s.id (waker_in s.waker)

abbrev pub unweighed : List (Entry (Slot (Load ℕ))) → List (Entry (Slot ℕ))
unweighed l = rekeyed unladen l

-- How many parties there are; the entries from front to back, each with its party; and for each party the weight that it joined with last, 0 if it never did.
pub record WeightedQueue : Type 0 where
  pub parties : ℕ
  pub entries : List (Entry ℕ)
  pub weights : List ℕ

abbrev pub weighted_queue : ℕ → List (Entry ℕ) → List ℕ → WeightedQueue
weighted_queue parties entries weights = record { parties = parties; entries = entries; weights = weights }

-- The weight of this party.
abbrev pub weight_in : List ℕ → ℕ → ℕ
weight_in weights p = slice_index_or weights p 0

-- Each entry has the weight of its party.
abbrev pub IsWeighed : List ℕ → List (Entry (Slot (Load ℕ))) → Type 0
IsWeighed weights [] = Unit {0}
IsWeighed weights (e ∷ es) = (weight_of e.key ≡ weight_in weights (party_of (unladen e.key))) × IsWeighed weights es

-- Each party has one seat and one entry there, or neither, there is room for all parties, and each entry has its party's weight.
pub record IsWeightedWaiting (seats : List (Option EntryId)) (weights : List ℕ) (entries : List (Entry (Slot (Load ℕ)))) (room : ℕ) : Type 0 where
  pub waiting : IsWaiting seats (unweighed entries) room
  pub weighed : IsWeighed weights entries
  pub as_many : length weights ≡ length seats

-- What always holds of such a queue: no party has two entries, none past the last party has one, and at most one entry is marked, wherever it stands.
pub record IsWeightedQueue (q : WeightedQueue) : Type 0 where
  pub once : (p : ℕ) → entries_of p q.entries ≤ 1
  pub known : (p : ℕ) → q.parties ≤ p → entries_of p q.entries ≡ 0
  pub one_marked : marked_count q.entries ≤ 1

-- ---- One party's seat

pub record WeightedSeat : Type 0 where
  pub entries : List (Entry (Slot (Load ℕ)))
  pub id : Option EntryId

abbrev pub weighted_seat : List (Entry (Slot (Load ℕ))) → Option EntryId → WeightedSeat
weighted_seat entries id = record { entries = entries; id = id }

-- The party has a seat, and its entry stands in the list.
abbrev pub IsListedSeat : WeightedSeat → Type 0
IsListedSeat s = IsSomeAnd s.id (λ id. is_listed (has_id id) s.entries ≡ true)

-- The party joins with this weight: it gets a seat that no entry had, and its waiting entry is at the back.
pub record JoinsWeighted (party weight : ℕ) (s t : WeightedSeat) : Type 0 where
  pub id : EntryId
  pub has_it : t.id ≡ Some id
  pub fresh : is_listed (has_id id) s.entries ≡ false
  pub entries : t.entries ≡ joined s.entries (laden id weight (Some party))

-- The party gives up its seat, and its entry is gone.
pub record DepartsWeighted (s t : WeightedSeat) : Type 0 where
  pub id : EntryId
  pub had_it : s.id ≡ Some id
  pub gone : t.id ≡ None
  pub entries : t.entries ≡ without (has_id id) s.entries

-- Whether the entry at the party's seat is marked.
pub record AskedWeighted (s : WeightedSeat) (marked : Bool) : Type 0 where
  pub id : EntryId
  pub had_it : s.id ≡ Some id
  pub answer : is_marked_at (has_id id) s.entries ≡ marked
