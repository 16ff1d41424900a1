-- What steps tell, and what a seat has that has the list out.
use Rattle.std.specs.Prelude.{◌≡◌, ◌≢◌, ℕ, ◌%◌, ◌<◌, ◌≤◌, ◌⊎◌, true, List, [], ◌∷◌, ◌++◌, length}
use Rattle.atomic_table.specs.Table.{Me, rest}
use Rattle.lock_place.specs.Held.{RoomId}
use Rattle.words_base.specs.Waiting.{IsNew, all_but}
use Rattle.words_mutex.specs.Rule.{SaysEmpty}
use Rattle.words_mutex.specs.Seats.{listing_of, got_of, saw_held_of, saw_starved_of, saw_of}
use Rattle.words_mutex.specs.declared.view.View.{View}

-- Nothing has changed for the seat.
abbrev pub Kept : {S : Type 0} → Me S View → Me S View → Type 0
Kept m m' = m' ≡ m

-- A look that found r.
abbrev pub Looked : {S : Type 0} → Me S View → ℕ → Me S View → Type 0
Looked m r m' = (r % 2 ≡ 1 → m' ≡ (saw_held_of r m.0, m.1)) × (r % 2 ≡ 0 → r ≢ 0 → m' ≡ (saw_starved_of r m.0, m.1)) × (r ≡ 0 → m' ≡ (saw_of r m.0, m.1))

-- The seat has got the lock from the word n, and the right to the value is out with it.
abbrev pub Got : {S : Type 0} → (RoomId → ℕ → S → Type 0) → ℕ → Me S View → Me S View → Type 0
Got {S} is_right n m m' = (m'.0 ≡ got_of n m.0) × ((right : S) × (m'.1 ≡ (1, right) ∷ m.1) × is_right m.0.room m.0.deed right)

-- The seat has the lock, and this lies in the slot of the right that is out with it.
abbrev pub HasRight : {S : Type 0} → (RoomId → ℕ → S → Type 0) → Me S View → Type 0
HasRight {S} is_right m = (m.0.holds ≡ true) × ((right : S) × (m.1 ≡ (1, right) ∷ rest m.1) × is_right m.0.room m.0.deed right)

-- What a seat has else is as it was.
abbrev pub IsSame : View → View → Type 0
IsSame v w = (w.holds ≡ v.holds) × (w.starved ≡ v.starved) × (w.owes ≡ v.owes) × (w.listed ≡ v.listed) × (w.fresh ≡ v.fresh) × (w.entry ≡ v.entry) × (w.room ≡ v.room) × (w.deed ≡ v.deed) × (w.found ≡ v.found)

-- The list is out with the seat.
abbrev pub Out : {S : Type 0} → Me S View → S → Type 0
Out m list = (m.0.has_list ≡ true) × (m.1 ≡ (0, list) ∷ rest m.1)

-- What may be written into the list's word as the list is given back.
abbrev pub Says : {S : Type 0} → (S → List ℕ) → S → ℕ → Type 0
Says entries_of list n = (n % 4 ≡ 0) × (SaysEmpty n → entries_of list ≡ [])

module _ {S : Type 0} (entries_of : S → List ℕ) (marked_of : S → ℕ) where
  -- From an even word the seat has the list, and knows its entries.
  abbrev pub Grabbed : Me S View → ℕ → Me S View → Type 0
  Grabbed m r m' = (r % 2 ≡ 0 → (list : S) × (m' ≡ (listing_of (entries_of list) (marked_of list) m.0, (0, list) ∷ m.1))) × (r % 2 ≡ 1 → m' ≡ m)

  -- The seat has the list out, and knows its entries.
  abbrev pub IsHeld : Me S View → Type 0
  IsHeld m = (list : S) × (m.0.has_list ≡ true) × (m.0.entries ≡ entries_of list) × (m.0.marked ≡ marked_of list) × (m.1 ≡ (0, list) ∷ rest m.1)

-- The list may be given back with this word: an entry has joined, the seat's has left that was notified, one has been notified and no second beside it,
-- the seat's has left and what it was notified of has gone on, or nothing has changed.
module _ {S : Type 0} (entries_of : S → List ℕ) (marked_of : S → ℕ) (m : Me S View) (n : ℕ) where
  abbrev pub CanJoin : ℕ → Type 0
  CanJoin k = (list : S) × Out m list × Says entries_of list n × (entries_of list ≡ m.0.entries ++ k ∷ []) × (marked_of list ≡ m.0.marked) × IsNew k m.0.entries

  abbrev pub CanHear : Type 0
  CanHear = (list : S) × Out m list × Says entries_of list n × (entries_of list ≡ all_but m.0.entry m.0.entries)

  abbrev pub CanPay : Type 0
  CanPay = (list : S) × Out m list × Says entries_of list n × (entries_of list ≡ m.0.entries) × (0 < length (entries_of list) → 0 < marked_of list) × ((marked_of list ≤ m.0.marked) ⊎ (marked_of list ≤ 1))

  abbrev pub CanLeave : Type 0
  CanLeave = (list : S) × Out m list × Says entries_of list n × (entries_of list ≡ all_but m.0.entry m.0.entries) × (0 < length (entries_of list) → 0 < m.0.marked → 0 < marked_of list)

  abbrev pub CanStay : Type 0
  CanStay = (list : S) × Out m list × Says entries_of list n × (entries_of list ≡ m.0.entries) × (marked_of list ≡ m.0.marked)
