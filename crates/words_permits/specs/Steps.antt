-- What steps tell, and what a seat has that has the list out.
use Rattle.std.specs.Prelude.{◌≡◌, ◌≢◌, ℕ, ◌%◌, ◌+◌, ◌-◌, ◌<◌, ◌≤◌, true, List, [], ◌∷◌, ◌++◌}
use Rattle.atomic_table.specs.Table.{Me, Step, rest}
use Rattle.words_permits.specs.Rule.{SaysEmpty}
use Rattle.words_permits.specs.Seats.{having_taken, having_given, having_given_new, having_raised, listing_of}
use Rattle.words_permits.specs.Waiters.{Waiter, waiter, StandsIn, last_or, HasNo, all_but, AreWaiters}
use Rattle.words_permits.specs.declared.view.View.{View}

-- From the word expected: the permits are those that the word is lower by.
abbrev pub Takes : {S : Type 0} → Step S → Me S View → ℕ → Me S View → Type 0
Takes step m r m' = (r ≡ step.first → m' ≡ (having_taken (step.first - step.second) step.second m.0, m.1)) × (r ≢ step.first → m' ≡ m)

-- The number that is then available doesn't wrap.
abbrev pub Gives : {S : Type 0} → Step S → Me S View → ℕ → Me S View → Type 0
Gives step m r m' = (m' ≡ (having_given step.first (r + step.first) m.0, m.1)) × (r + step.first < 18446744073709551616)

abbrev pub GivesNew : {S : Type 0} → Step S → Me S View → ℕ → Me S View → Type 0
GivesNew step m r m' = (m' ≡ (having_given_new step.first (r + step.first) m.0, m.1)) × (r + step.first < 18446744073709551616)

-- From the word expected: under way is what the word is higher by.
abbrev pub Raises : {S : Type 0} → Step S → Me S View → ℕ → Me S View → Type 0
Raises step m r m' = (r ≡ step.first → m' ≡ (having_raised (step.second - step.first) m.0, m.1)) × (r ≢ step.first → m' ≡ m)

-- What a seat has else is as it was.
abbrev pub IsSame : View → View → Type 0
IsSame v w =
    (w.permits ≡ v.permits) × (w.under_way ≡ v.under_way) × (w.found ≡ v.found) × (w.limit ≡ v.limit) × (w.added ≡ v.added) × (w.forgotten ≡ v.forgotten)
    × (w.owes ≡ v.owes) × (w.seen ≡ v.seen) × (w.listed ≡ v.listed) × (w.fresh ≡ v.fresh) × (w.entry ≡ v.entry) × (w.weight ≡ v.weight)

-- What may be written into the list's word as the list is given back.
abbrev pub Says : List Waiter → ℕ → Type 0
Says waiters n = (n % 4 ≡ 0) × (SaysEmpty n → waiters ≡ [])

module _ {S : Type 0} (waiters_of : S → List Waiter) (marked_of : S → ℕ) where
  -- From an even word the seat has the list, and knows who stands in it.
  abbrev pub Grabbed : Me S View → ℕ → Me S View → Type 0
  Grabbed m r m' = (r % 2 ≡ 0 → (list : S) × (m' ≡ (listing_of (waiters_of list) (marked_of list) m.0, (0, list) ∷ m.1)) × AreWaiters (waiters_of list)) × (r % 2 ≡ 1 → m' ≡ m)

  -- The seat has the list out, and knows who stands in it.
  abbrev pub IsHeld : Me S View → Type 0
  IsHeld m = (list : S) × (m.0.has_list ≡ true) × (m.0.waiters ≡ waiters_of list) × (m.0.marked ≡ marked_of list) × (m.1 ≡ (0, list) ∷ rest m.1) × AreWaiters (waiters_of list)

-- Who has joined last, of the list that is out.
abbrev pub newest : {S : Type 0} → (S → List Waiter) → List (ℕ × S) → Waiter
newest waiters_of [] = waiter 0 0
newest waiters_of (x ∷ xs) = last_or (waiter 0 0) (waiters_of x.1)

-- The list may be given back with this word: an entry has joined, one has left that was notified, one has left that was not, one has
-- been notified, if so many permits are enough for any, and none if they aren't, or nothing has changed.
module _ {S : Type 0} (waiters_of : S → List Waiter) (marked_of : S → ℕ) (m : Me S View) (n : ℕ) where
  -- The list is out with the seat, and may be given back with this word.
  abbrev pub Out : S → Type 0
  Out list = (m.0.has_list ≡ true) × (m.1 ≡ (0, list) ∷ rest m.1) × Says (waiters_of list) n

  abbrev pub CanJoin : Waiter → Type 0
  CanJoin w = (list : S) × Out list × (waiters_of list ≡ m.0.waiters ++ w ∷ []) × (marked_of list ≡ m.0.marked) × HasNo w.entry m.0.waiters × (0 < w.weight)

  abbrev pub CanHear : ℕ → Type 0
  CanHear entry = (list : S) × Out list × (waiters_of list ≡ all_but entry m.0.waiters)

  abbrev pub CanLeave : ℕ → Type 0
  CanLeave entry = (list : S) × Out list × (waiters_of list ≡ all_but entry m.0.waiters) × (marked_of list ≡ m.0.marked)

  abbrev pub CanPay : ℕ → Type 0
  CanPay available =
      (list : S)
      × Out list
      × (waiters_of list ≡ m.0.waiters)
      × (m.0.marked ≤ marked_of list)
      × ((w : Waiter) → StandsIn (waiters_of list) w → w.weight ≤ available → 1 ≤ marked_of list)
      × (m.0.marked ≡ 0 → 1 ≤ marked_of list → (w : Waiter) × StandsIn (waiters_of list) w × (w.weight ≤ available))

  abbrev pub CanStay : Type 0
  CanStay = (list : S) × Out list × (waiters_of list ≡ m.0.waiters) × (marked_of list ≡ m.0.marked)
