-- What always holds of the table of a semaphore and its waiting list, between any two atomic steps.
use Rattle.std.specs.Prelude.{◌≡◌, ℕ, ◌+◌, ◌<◌, ◌≤◌, ◌%◌, ◌^◌, ◌⊎◌, Bool, true, false, List, [], length, slice_index}
use mathlib.Core.Option.{some}
use lib.ListN.{get_elem?}
use Rattle.atomic_table.specs.Table.{State}
use Rattle.words_base.specs.Sums.{number, total}
use Rattle.words_base.specs.Waiting.{Matched}
use Rattle.words_permits.specs.Waiters.{Waiter, StandsIn, AreWaiters, numbers}
use Rattle.words_permits.specs.declared.view.View.{View}

abbrev pub permits_of : View → ℕ
permits_of v = v.permits

abbrev pub under_way_of : View → ℕ
under_way_of v = v.under_way

abbrev pub added_of : View → ℕ
added_of v = v.added

abbrev pub forgotten_of : View → ℕ
forgotten_of v = v.forgotten

abbrev pub has_list_out : View → Bool
has_list_out v = v.has_list

-- A list's word doesn't say that the list may have entries.
abbrev pub SaysEmpty : ℕ → Type 0
SaysEmpty word = word % 8 < 4

-- The seat owes a notification of as many permits as are available: of those that it saw, or it has to look first.
abbrev pub OwesOf : ℕ → View → Type 0
OwesOf available v = (v.owes ≡ true) × ((v.seen ≡ false) ⊎ (available ≤ v.found))

-- The seat stands in the list, and this is its entry.
abbrev pub IsEntryOf : Waiter → View → Type 0
IsEntryOf w v = (v.listed ≡ true) × (v.entry ≡ w.entry) × (v.weight ≡ w.weight)

-- The entry of this number is the seat's.
abbrev pub IsNumberOf : ℕ → View → Type 0
IsNumberOf n v = (v.listed ≡ true) × (v.entry ≡ n)

-- The seat has this entry, and no look of it has found too few since it joined.
abbrev pub IsFreshIn : Waiter → View → Type 0
IsFreshIn w v = IsEntryOf w v × (v.fresh ≡ true)

module _ (views : List View) where
  abbrev pub SomeSeat : (View → Type 0) → Type 0
  SomeSeat P = (i : ℕ) × (v : View) × (get_elem? views i ≡ some v) × P v

  -- Each of these entries is of a seat that stands in the list.
  abbrev pub AreOfSeats : List Waiter → Type 0
  AreOfSeats waiters = (w : Waiter) → StandsIn waiters w → SomeSeat (IsEntryOf w)

  -- No wake-up is lost, where so many permits are available, these stand in the list and so many of them are notified: one is notified, or a
  -- seat owes a notification of as many permits as are available, or whoever these are enough for has joined and found no fewer since.
  abbrev pub LosesNone : ℕ → List Waiter → ℕ → Type 0
  LosesNone available waiters marked =
      (1 ≤ marked) ⊎ (SomeSeat (OwesOf available) ⊎ ((w : Waiter) → StandsIn waiters w → w.weight ≤ available → SomeSeat (IsFreshIn w)))

-- The word 0 is the number of available permits, and the word 2 is the limit. The word 1 is the list's: it is odd while a seat has the list out,
-- its bit 2 says that somebody may sleep for the list, its bit 4 that the list may have entries, and eight times the notifications that the
-- list has had are added to it. The list lies in the slot 0, or a seat has it out, which knows what it was when it took it out.
pub record Ruled {S : Type 0} (waiters_of : S → List Waiter) (marked_of : S → ℕ) (start : ℕ) (s : State S View) : Type 0 where
  pub words : 2 < length s.words
  pub fits : slice_index s.words 2 < 2 ^ 64
  -- each permit within the limit is available, a seat's, or under way to being available
  pub permits : slice_index s.words 0 + total permits_of s.views + total under_way_of s.views ≡ slice_index s.words 2
  -- the limit is what it was at the start, with what was added and without what was forgotten
  pub limit : slice_index s.words 2 + total forgotten_of s.views ≡ start + total added_of s.views
  pub one_out : number has_list_out s.views ≤ 1
  pub is_out : slice_index s.words 1 % 2 ≡ number has_list_out s.views
  pub waiters : List Waiter
  pub marked : ℕ
  pub sound : AreWaiters waiters
  -- each entry of the list, notified or not, is of a seat that stands in it for as many permits
  pub standing : AreOfSeats s.views waiters
  -- each seat that stands in it has its entry there, and no two have one
  pub matched : Matched IsNumberOf (numbers waiters) s.views
  pub wakes : LosesNone s.views (slice_index s.words 0) waiters marked
  pub unlisted : SaysEmpty (slice_index s.words 1) → waiters ≡ []
  pub home : number has_list_out s.views ≡ 0 → (list : S) × (get_elem? s.homes 0 ≡ some (some list)) × (waiters_of list ≡ waiters) × (marked_of list ≡ marked)
  pub out : (i : ℕ) (v : View) → get_elem? s.views i ≡ some v → v.has_list ≡ true → (v.waiters ≡ waiters) × (v.marked ≡ marked)
