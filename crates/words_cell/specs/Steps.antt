-- What steps tell, and what a seat has that has the lists out.
use Rattle.std.specs.Prelude.{◌≡◌, ◌≢◌, ℕ, ◌%◌, ◌<◌, ◌≤◌, Bool, true, false, [], ◌∷◌}
use Rattle.atomic_table.specs.Table.{Me, rest}
use Rattle.words_base.specs.Lists.{Listed, Stays, Pays, PaysAll, Joins, Leaves, HandsOn}
use Rattle.words_cell.specs.Rule.{SaysEmpty}
use Rattle.words_cell.specs.Seats.{saw_of, saw_full_of, claimed_of, missed_of, late_of, taken_by, having_found, eased_of, listing_of}
use Rattle.words_cell.specs.declared.view.View.{View}

module _ {S : Type 0} where
  -- Nothing has changed for the seat.
  abbrev pub Kept : Me S View → Me S View → Type 0
  Kept m m' = m' ≡ m

  -- A look at the cell found r.
  abbrev pub Looked : Me S View → ℕ → Me S View → Type 0
  Looked m r m' = (r ≤ 2) × (r ≡ 2 → m' ≡ (saw_full_of m.0, m.1)) × (r ≢ 2 → m' ≡ (saw_of r m.0, m.1))

  -- A claim found r.
  abbrev pub Claimed : Me S View → ℕ → Me S View → Type 0
  Claimed m r m' = (r ≤ 2) × (r ≡ 0 → m' ≡ (claimed_of m.0, m.1)) × (r ≡ 1 → m' ≡ (missed_of m.0, m.1)) × (r ≡ 2 → m' ≡ (late_of m.0, m.1))

  -- A take found r.
  abbrev pub Took : Me S View → ℕ → Me S View → Type 0
  Took m r m' = (r ≡ 2 → m' ≡ (taken_by m.0, m.1)) × (r ≢ 2 → m' ≡ (having_found r m.0, m.1))

  -- A look at the word of the lists found r.
  abbrev pub Peeked : Me S View → ℕ → Me S View → Type 0
  Peeked m r m' = (4 ≤ r % 8 → m' ≡ m) × (r % 8 < 4 → m' ≡ (eased_of m.0, m.1))

-- What a seat has else is as it was.
abbrev pub IsSame : View → View → Type 0
IsSame v w = (w.makes ≡ v.makes) × (w.owes ≡ v.owes) × (w.owes_active ≡ v.owes_active) × (w.owes_passive ≡ v.owes_passive) × (w.in_active ≡ v.in_active) × (w.in_passive ≡ v.in_passive) × (w.fresh ≡ v.fresh) × (w.entry ≡ v.entry) × (w.found ≡ v.found) × (w.taken ≡ v.taken)

module _ {S : Type 0} (active_of passive_of : S → Listed) where
  -- From an even word the seat has the lists, and knows what they have.
  abbrev pub Grabbed : Me S View → ℕ → Me S View → Type 0
  Grabbed m r m' = (r % 2 ≡ 0 → (lists : S) × (m' ≡ (listing_of (active_of lists) (passive_of lists) m.0, (0, lists) ∷ m.1))) × (r % 2 ≡ 1 → m' ≡ m)

  -- The seat has the lists out, and knows what they have.
  abbrev pub IsHeld : Me S View → Type 0
  IsHeld m = (lists : S) × (m.0.has_lists ≡ true) × (m.0.active ≡ active_of lists) × (m.0.passive ≡ passive_of lists) × (m.1 ≡ (0, lists) ∷ rest m.1)

-- The entry of a seat that stands in the list has left it so; where it doesn't stand in it, the list stays.
abbrev pub LeftIf : Bool → (Listed → Listed → Type 0) → Listed → Listed → Type 0
LeftIf true Left old new = Left old new
LeftIf false Left old new = Stays old new

-- The lists that are out with a seat may be given back with this word.
module _ {S : Type 0} (active_of passive_of : S → Listed) (m : Me S View) (n : ℕ) where
  -- The lists are out with the seat, and the word says whether they have entries.
  abbrev pub Out : S → Type 0
  Out lists = (m.0.has_lists ≡ true) × (m.1 ≡ (0, lists) ∷ rest m.1) × (n % 4 ≡ 0) × (SaysEmpty n → ((active_of lists).waiting ≡ []) × ((passive_of lists).waiting ≡ []))

  -- One has joined those that would make.
  abbrev pub CanJoinActive : ℕ → Type 0
  CanJoinActive k = (lists : S) × Out lists × Joins k m.0.active (active_of lists) × Stays m.0.passive (passive_of lists)

  -- One has joined those that wait.
  abbrev pub CanJoinPassive : ℕ → Type 0
  CanJoinPassive k = (lists : S) × Out lists × Stays m.0.active (active_of lists) × Joins k m.0.passive (passive_of lists)

  -- The seat's entry was notified, and has left those that would make.
  abbrev pub CanHear : Type 0
  CanHear = (lists : S) × Out lists × Leaves m.0.entry m.0.active (active_of lists) × Stays m.0.passive (passive_of lists)

  -- The seat's entry has left the list in which it stood: of those that would make, what it was notified of has gone on.
  abbrev pub CanLeave : Type 0
  CanLeave = (lists : S) × Out lists × LeftIf m.0.in_active (HandsOn m.0.entry) m.0.active (active_of lists) × LeftIf m.0.in_passive (Leaves m.0.entry) m.0.passive (passive_of lists)

  -- One that would make is notified.
  abbrev pub CanPay : Type 0
  CanPay = (lists : S) × Out lists × Pays m.0.active (active_of lists) × Stays m.0.passive (passive_of lists)

  -- All that would make are.
  abbrev pub CanPayActive : Type 0
  CanPayActive = (lists : S) × Out lists × PaysAll m.0.active (active_of lists) × Stays m.0.passive (passive_of lists)

  -- All that wait are.
  abbrev pub CanPayPassive : Type 0
  CanPayPassive = (lists : S) × Out lists × Stays m.0.active (active_of lists) × PaysAll m.0.passive (passive_of lists)

  -- Both lists stay.
  abbrev pub CanStay : Type 0
  CanStay = (lists : S) × Out lists × Stays m.0.active (active_of lists) × Stays m.0.passive (passive_of lists)
