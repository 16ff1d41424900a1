-- What steps tell, and what a seat has that has the list out.
use Rattle.std.specs.Prelude.{◌≡◌, ℕ, ◌+◌, ◌%◌, ◌<◌, ◌≤◌, true, [], ◌∷◌}
use Rattle.atomic_table.specs.Table.{Me, rest}
use Rattle.words_base.specs.Lists.{Listed, Stays, PaysAll, Joins, Leaves}
use Rattle.words_barrier.specs.Rule.{SaysEmpty}
use Rattle.words_barrier.specs.Seats.{saw_of, counted_of, finished_by, eased_of, listing_of}
use Rattle.words_barrier.specs.declared.view.View.{View}

module _ {S : Type 0} where
  -- A look found r generations finished.
  abbrev pub Looked : Me S View → ℕ → Me S View → Type 0
  Looked m r m' = m' ≡ (saw_of r m.0, m.1)

  -- The same, by which its arrival is counted.
  abbrev pub Counted : Me S View → ℕ → Me S View → Type 0
  Counted m r m' = m' ≡ (counted_of r m.0, m.1)

  -- The seat has written n: one generation more is finished than it found.
  abbrev pub Finished : Me S View → ℕ → Me S View → Type 0
  Finished m n m' = (n ≡ m.0.found + 1) × (m' ≡ (finished_by m.0, m.1))

  -- A look at the list's word found r.
  abbrev pub Peeked : Me S View → ℕ → Me S View → Type 0
  Peeked m r m' = (4 ≤ r % 8 → m' ≡ m) × (r % 8 < 4 → m' ≡ (eased_of m.0, m.1))

-- What a seat has else is as it was.
abbrev pub IsSame : View → View → Type 0
IsSame v w = (w.owes ≡ v.owes) × (w.listed ≡ v.listed) × (w.fresh ≡ v.fresh) × (w.counted ≡ v.counted) × (w.led ≡ v.led) × (w.entry ≡ v.entry) × (w.found ≡ v.found) × (w.generation ≡ v.generation)

module _ {S : Type 0} (listed_of : S → Listed) where
  -- From an even word the seat has the list, and knows what it has.
  abbrev pub Grabbed : Me S View → ℕ → Me S View → Type 0
  Grabbed m r m' = (r % 2 ≡ 0 → (list : S) × (m' ≡ (listing_of (listed_of list) m.0, (0, list) ∷ m.1))) × (r % 2 ≡ 1 → m' ≡ m)

  -- The seat has the list out, and knows what it has.
  abbrev pub IsHeld : Me S View → Type 0
  IsHeld m = (list : S) × (m.0.has_list ≡ true) × (m.0.list ≡ listed_of list) × (m.1 ≡ (0, list) ∷ rest m.1)

-- The list that is out with a seat may be given back with this word.
module _ {S : Type 0} (listed_of : S → Listed) (m : Me S View) (n : ℕ) where
  -- The list is out with the seat, and the word says whether it has entries.
  abbrev pub Out : S → Type 0
  Out list = (m.0.has_list ≡ true) × (m.1 ≡ (0, list) ∷ rest m.1) × (n % 4 ≡ 0) × (SaysEmpty n → (listed_of list).waiting ≡ [])

  -- One has joined.
  abbrev pub CanJoin : ℕ → Type 0
  CanJoin k = (list : S) × Out list × Joins k m.0.list (listed_of list)

  -- The seat's entry has left.
  abbrev pub CanLeave : Type 0
  CanLeave = (list : S) × Out list × Leaves m.0.entry m.0.list (listed_of list)

  -- All are notified.
  abbrev pub CanPay : Type 0
  CanPay = (list : S) × Out list × PaysAll m.0.list (listed_of list)

  -- Nothing changes for the seat.
  abbrev pub CanStay : Type 0
  CanStay = (list : S) × Out list × Stays m.0.list (listed_of list)
