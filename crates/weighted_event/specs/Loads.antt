-- What stands in an entry of a `WeightedEvent`.
use Rattle.std.specs.Prelude.{◌≡◌, ℕ, ◌≤◌, true, false, if◌then◌else◌, List, [], ◌∷◌, Option, Some, None}
use Rattle.lock_event.specs.declared.event.Entry.{Entry}
use Rattle.lock_event.specs.declared.event.EntryId.{EntryId}
use Rattle.lock_event.specs.declared.event.Slot.{Slot}
use Rattle.lock_event.specs.declared.event.Mark.TheVariants.{Notified}
use Rattle.weighted_event.specs.declared.weighted.Load.{Load}
use Rattle.lock_event.specs.declared.event.Asked.{Asked}
use Rattle.lock_event.specs.declared.event.Asked.TheVariants as asked
use Rattle.lock_event.specs.Lists.{is_marked, marked_count, is_marked_at, is_listed, without, with_key}
use Rattle.lock_event.specs.Slots.{has_id, slot_of}
use Rattle.lock_event.specs.Chains.{number, rewritten, with_mark, with_waker}
use Rattle.weighted_event.specs.Weights.{is_enough}

module _ {W : Type 0} where
  abbrev pub load : ℕ → Option W → Load W
  load w waker = record { weight = w; waker = waker }

  abbrev pub weight_in : Option (Load W) → ℕ
  weight_in None = 0
  weight_in (Some l) = l.weight

  abbrev pub waker_in : Option (Load W) → Option W
  waker_in None = None
  waker_in (Some l) = l.waker

  abbrev pub weight_of : Slot (Load W) → ℕ
  weight_of s = weight_in s.waker

  -- What a slot has of this id, with a weight, and a waker or none.
  abbrev pub laden : EntryId → ℕ → Option W → Slot (Load W)
  laden id w waker = slot_of id (Some (load w waker))

  -- The weight of the entry that has this id.
  abbrev pub weight_at : EntryId → List (Entry (Slot (Load W))) → ℕ
  weight_at id [] = 0
  weight_at id (e ∷ es) = if has_id id e.key then weight_of e.key else weight_at id es

  -- What the entry of this id keeps to be woken with, if it stands in the list and keeps something.
  abbrev pub kept_at : EntryId → List (Entry (Slot (Load W))) → Option W
  kept_at id [] = None
  kept_at id (e ∷ es) = if has_id id e.key then waker_in e.key.waker else kept_at id es

  -- As `HasAsked` of an `Event`: the entry keeps its weight.
  abbrev pub HasAskedFor : EntryId → Option W → List (Entry (Slot (Load W))) → Asked W → List (Entry (Slot (Load W))) → Type 0
  HasAskedFor id w old (asked.Notified kept unused) new =
      (is_marked_at (has_id id) old ≡ true) × (new ≡ without (has_id id) old) × (kept ≡ kept_at id old) × (unused ≡ w)
  HasAskedFor id w old (asked.Waiting kept) new =
      (is_listed (has_id id) old ≡ true) × (is_marked_at (has_id id) old ≡ false) × (new ≡ with_key (has_id id) (laden id (weight_at id old) w) old) × (kept ≡ kept_at id old)
  HasAskedFor id w old (asked.Unlisted unused) new =
      (is_listed (has_id id) old ≡ false) × (new ≡ old) × (unused ≡ w)

  -- The slot of the first entry that is marked.
  abbrev pub first_marked : List (Entry (Slot (Load W))) → Option ℕ
  first_marked [] = None
  first_marked (e ∷ es) = if is_marked e.mark then Some (number e) else first_marked es

  -- At most one entry is marked, and it has this slot.
  abbrev pub IsOneMarked : List (Entry (Slot (Load W))) → Option ℕ → Type 0
  IsOneMarked es marked = (marked ≡ first_marked es) × (marked_count es ≤ 1)

  -- The slot of the first entry that so many are enough for.
  abbrev pub first_fit : ℕ → List (Entry (Slot (Load W))) → Option ℕ
  first_fit a [] = None
  first_fit a (e ∷ es) = if is_enough weight_of a e then Some (number e) else first_fit a es

  -- What the marked entry keeps to be woken with.
  abbrev pub marked_waker : List (Entry (Slot (Load W))) → Option W
  marked_waker [] = None
  marked_waker (e ∷ es) = if is_marked e.mark then waker_in e.key.waker else marked_waker es

  -- The entry with its weight and no waker.
  abbrev pub lightened : Entry (Slot (Load W)) → Entry (Slot (Load W))
  lightened e = with_waker (Some (load (weight_of e.key) None)) e

  -- The list where the marked entry keeps nothing to be woken with.
  abbrev pub without_marked_waker : List (Entry (Slot (Load W))) → List (Entry (Slot (Load W)))
  without_marked_waker [] = []
  without_marked_waker (e ∷ es) = if is_marked e.mark then lightened e ∷ es else e ∷ without_marked_waker es

-- The list where the entry in this slot, if one is named, is notified.
abbrev pub told : {W : Type 0} → Option ℕ → List (Entry (Slot W)) → List (Entry (Slot W))
told None es = es
told (Some key) es = rewritten key (with_mark Notified) es
