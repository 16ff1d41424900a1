-- What always holds of the table of a mutex, its waiting list and the right to its value, between any two atomic steps.
use Rattle.std.specs.Prelude.{◌≡◌, ℕ, ◌+◌, ◌<◌, ◌≤◌, ◌%◌, ◌⊎◌, Bool, true, false, List, [], length, slice_index}
use mathlib.Core.Option.{some}
use lib.ListN.{get_elem?}
use Rattle.atomic_table.specs.Table.{State}
use Rattle.lock_place.specs.Held.{RoomId}
use Rattle.words_base.specs.Sums.{number}
use Rattle.words_base.specs.MutexWord.{IsWord}
use Rattle.words_base.specs.Waiting.{Matched}
use Rattle.words_mutex.specs.declared.view.View.{View}

abbrev pub first_view : RoomId → ℕ → View
first_view room deed = record { holds = false; starved = false; owes = false; listed = false; fresh = false; has_list = false; entry = 0; entries = []; marked = 0; room = room; deed = deed; found = 0 }

-- Which seats have a flag.
abbrev pub is_holder : View → Bool
is_holder v = v.holds

abbrev pub is_starved : View → Bool
is_starved v = v.starved

abbrev pub is_owing : View → Bool
is_owing v = v.owes

abbrev pub is_listed : View → Bool
is_listed v = v.listed

abbrev pub is_fresh : View → Bool
is_fresh v = v.fresh

abbrev pub has_list_out : View → Bool
has_list_out v = v.has_list

-- A seat that has joined and not looked yet has an entry. A seat that is counted as starved, holds nothing and owes nothing has an entry and has looked.
abbrev pub KeepsPlace : View → Type 0
KeepsPlace v = (v.fresh ≡ true → v.listed ≡ true) × (v.starved ≡ true → v.owes ≡ false → v.holds ≡ false → (v.listed ≡ true) × (v.fresh ≡ false))

-- The word 1 is odd while a seat has the list out. Its bit 2 says that somebody may sleep for the list, its bit 4 that the list may have entries, and
-- eight times the notifications that the list has had are added to it.
abbrev pub IsListWord : List ℕ → List View → Type 0
IsListWord words views = (1 < length words) × (number has_list_out views ≤ 1) × (slice_index words 1 % 2 ≡ number has_list_out views)

-- A list's word doesn't say that the list may have entries.
abbrev pub SaysEmpty : ℕ → Type 0
SaysEmpty word = word % 8 < 4

-- No wake-up is lost in a list of so many entries, so many of them notified: one is notified, or a seat holds the lock, or a seat owes, or there
-- are no more entries than seats that have joined and not looked yet.
abbrev pub LosesNone : ℕ → ℕ → List View → Type 0
LosesNone len marked views = (1 ≤ marked + (number is_holder views + number is_owing views)) ⊎ (len ≤ number is_fresh views)

-- The entry of this number is the seat's.
abbrev pub IsEntryOf : ℕ → View → Type 0
IsEntryOf n v = (v.listed ≡ true) × (v.entry ≡ n)

-- The seat is one of the lock whose right has this room and deed.
abbrev pub IsKeyed : RoomId → ℕ → View → Type 0
IsKeyed room deed v = (v.room ≡ room) × (v.deed ≡ deed)

-- The word 0 says which seat holds the lock and how many are starved. The list has these entries, `marked` of them notified: it lies in the slot 0, or a
-- seat has it out, which knows both as they were when it took the list out. Each entry, notified or not, is of a seat that stands in the list, each seat
-- that stands there has its entry in it, and no two have one. While nobody holds the lock, the right to the value lies in the slot 1.
pub record Ruled {S : Type 0} (entries_of : S → List ℕ) (marked_of : S → ℕ) (is_right : RoomId → ℕ → S → Type 0) (room : RoomId) (deed : ℕ) (s : State S View) : Type 0 where
  pub word : IsWord is_holder is_starved 1073741823 0 s.words s.views
  pub list_word : IsListWord s.words s.views
  pub entries : List ℕ
  pub marked : ℕ
  pub stands : (i : ℕ) (v : View) → get_elem? s.views i ≡ some v → KeepsPlace v
  pub keyed : (i : ℕ) (v : View) → get_elem? s.views i ≡ some v → IsKeyed room deed v
  pub matched : Matched IsEntryOf entries s.views
  pub wakes : LosesNone (length entries) marked s.views
  pub unlisted : SaysEmpty (slice_index s.words 1) → entries ≡ []
  pub home : number has_list_out s.views ≡ 0 → (list : S) × (get_elem? s.homes 0 ≡ some (some list)) × (entries_of list ≡ entries) × (marked_of list ≡ marked)
  pub out : (i : ℕ) (v : View) → get_elem? s.views i ≡ some v → v.has_list ≡ true → (v.entries ≡ entries) × (v.marked ≡ marked)
  pub right : number is_holder s.views ≡ 0 → (right : S) × (get_elem? s.homes 1 ≡ some (some right)) × is_right room deed right
