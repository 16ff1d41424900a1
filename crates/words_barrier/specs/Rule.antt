-- What always holds of the table of a barrier and its waiting list, between any two atomic steps of any number of seats.
use Rattle.std.specs.Prelude.{◌≡◌, ℕ, ◌<◌, ◌≤◌, ◌%◌, ◌⊎◌, Bool, true, false, List, [], length, slice_index}
use mathlib.Core.Option.{some}
use lib.ListN.{get_elem?}
use Rattle.atomic_table.specs.Table.{State}
use Rattle.words_base.specs.Sums.{number}
use Rattle.words_base.specs.Lists.{Listed, nobody}
use Rattle.words_base.specs.Waiting.{SomeSeat, AreOf, Matched}
use Rattle.words_barrier.specs.declared.view.View.{View}

abbrev pub first_view : View
first_view = record { owes = false; listed = false; fresh = false; counted = false; led = false; has_list = false; entry = 0; found = 0; generation = 0; list = nobody }

abbrev pub has_list_out : View → Bool
has_list_out v = v.has_list

-- It has finished a generation, and has to notify all that stand in the list.
abbrev pub Owes : View → Type 0
Owes v = v.owes ≡ true

-- The entry n is the seat's, which has joined and not looked since, or has found, since it joined, as many generations finished as there are.
abbrev pub WaitsFor : ℕ → ℕ → View → Type 0
WaitsFor finished n v = (v.listed ≡ true) × (v.entry ≡ n) × ((v.fresh ≡ true) ⊎ (v.found ≡ finished))

-- The entry of this number is the seat's.
abbrev pub IsEntryOf : ℕ → View → Type 0
IsEntryOf n v = (v.listed ≡ true) × (v.entry ≡ n)

-- No wake-up is lost: a seat owes the whole list a notification, or each entry that isn't notified is of a seat that waits for the
-- generation which is under way, or has not looked yet since it joined.
abbrev pub LosesNone : ℕ → List ℕ → List View → Type 0
LosesNone finished waiting views = SomeSeat Owes views ⊎ AreOf (WaitsFor finished) waiting views

-- Word 1 is odd while a seat has the list out. Its bit 2 says that somebody may sleep for it, its bit 4 that it may have entries, and eight times
-- the notifications that the list has had are added to it.
abbrev pub IsListWord : List ℕ → List View → Type 0
IsListWord words views = (number has_list_out views ≤ 1) × (slice_index words 1 % 2 ≡ number has_list_out views)

-- The list's word doesn't say that the list may have entries.
abbrev pub SaysEmpty : ℕ → Type 0
SaysEmpty word = word % 8 < 4

-- Word 0 is how many generations are finished. The list is known: it lies in the slot 0, or a seat has it out, which knows it as it was when it took
-- it out. Each entry, notified or not, is of a seat that stands in the list, each seat that stands there has its entry in it, and no two have one.
pub record Ruled {S : Type 0} (listed_of : S → Listed) (s : State S View) : Type 0 where
  pub two_words : 1 < length s.words
  pub list_word : IsListWord s.words s.views
  pub list : Listed
  pub wakes : LosesNone (slice_index s.words 0) list.waiting s.views
  pub matched : Matched IsEntryOf list.entries s.views
  pub unlisted : SaysEmpty (slice_index s.words 1) → list.waiting ≡ []
  pub home : number has_list_out s.views ≡ 0 → (queue : S) × (get_elem? s.homes 0 ≡ some (some queue)) × (listed_of queue ≡ list)
  pub out : (i : ℕ) (v : View) → get_elem? s.views i ≡ some v → v.has_list ≡ true → v.list ≡ list
