-- What always holds of the table of a once-cell and its two waiting lists, between any two atomic steps of any number of seats.
use Rattle.std.specs.Prelude.{◌≡◌, ℕ, ◌+◌, ◌*◌, ◌<◌, ◌≤◌, ◌%◌, ◌⊎◌, Bool, true, false, List, [], length, slice_index}
use mathlib.Core.Option.{some}
use lib.ListN.{get_elem?}
use Rattle.atomic_table.specs.Table.{State}
use Rattle.words_base.specs.Sums.{weight, number, total}
use Rattle.words_base.specs.Lists.{Listed, nobody}
use Rattle.words_base.specs.Waiting.{SomeSeat, AreOf, Matched}
use Rattle.words_cell.specs.declared.view.View.{View}

abbrev pub first_view : View
first_view = record { makes = false; owes = false; owes_active = false; owes_passive = false; in_active = false; in_passive = false; fresh = false; has_lists = false; entry = 0; found = 0; filled = 0; taken = 0; active = nobody; passive = nobody }

-- Which seats have a flag, and how often each has filled the cell and emptied the full one.
abbrev pub makes_of : View → Bool
makes_of v = v.makes

abbrev pub has_lists_out : View → Bool
has_lists_out v = v.has_lists

abbrev pub filled_of : View → ℕ
filled_of v = v.filled

abbrev pub taken_of : View → ℕ
taken_of v = v.taken

-- It has to notify one that would make the value, or to claim on their behalf.
abbrev pub Owes : View → Type 0
Owes v = v.owes ≡ true

-- It has to notify all that would make the value, and all that only wait for it.
abbrev pub OwesActive : View → Type 0
OwesActive v = v.owes_active ≡ true

abbrev pub OwesPassive : View → Type 0
OwesPassive v = v.owes_passive ≡ true

-- The entry of this number, of one list or the other, is the seat's.
abbrev pub IsActiveEntryOf : ℕ → View → Type 0
IsActiveEntryOf n v = (v.in_active ≡ true) × (v.entry ≡ n)

abbrev pub IsPassiveEntryOf : ℕ → View → Type 0
IsPassiveEntryOf n v = (v.in_passive ≡ true) × (v.entry ≡ n)

-- It has joined a list with the entry n, and has not looked at the cell since, or found it full.
abbrev pub IsFreshActive : ℕ → View → Type 0
IsFreshActive n v = (v.fresh ≡ true) × IsActiveEntryOf n v

abbrev pub IsFreshPassive : ℕ → View → Type 0
IsFreshPassive n v = (v.fresh ≡ true) × IsPassiveEntryOf n v

-- No wake-up is lost of an empty cell: one that would make is notified, or a seat owes, or each that waits is fresh.
abbrev pub LosesNoneEmpty : Listed → List View → Type 0
LosesNoneEmpty active views = (0 < active.notified) ⊎ (SomeSeat (λ v. Owes v ⊎ OwesActive v) views ⊎ AreOf IsFreshActive active.waiting views)

-- No wake-up is lost of a full cell: of each list, a seat owes all of it, or each that waits is fresh.
abbrev pub LosesNoneFull : Listed → Listed → List View → Type 0
LosesNoneFull active passive views = (SomeSeat OwesActive views ⊎ AreOf IsFreshActive active.waiting views) × (SomeSeat OwesPassive views ⊎ AreOf IsFreshPassive passive.waiting views)

-- Word 0 is 0 while the cell is empty, 1 while its value is being made, and 2 while it is full.
pub record IsCell (start : Bool) (words : List ℕ) (views : List View) : Type 0 where
  -- 1 while the cell is full, else 0
  pub full : ℕ
  -- one seat at most has the right to make, and none of a full cell
  pub one_maker : number makes_of views + full ≤ 1
  pub word : slice_index words 0 ≡ number makes_of views + 2 * full
  -- each value that entered, or that it began with, is there or was taken: so between two takes one enters at most
  pub values : full + total taken_of views ≡ weight start + total filled_of views

-- Word 1 is odd while a seat has the lists out. Its bit 2 says that somebody may sleep for them, and its bit 4 that one of them may have entries.
abbrev pub IsListWord : List ℕ → List View → Type 0
IsListWord words views = (number has_lists_out views ≤ 1) × (slice_index words 1 % 2 ≡ number has_lists_out views)

-- The word of the lists doesn't say that they may have entries.
abbrev pub SaysEmpty : ℕ → Type 0
SaysEmpty word = word % 8 < 4

-- So many seats have the right to make as the cell's word says. The lists are known: both lie in the slot 0, or a seat has them out, which knows
-- them as they were when it took them out. Each entry of a list, notified or not, is of a seat that stands in it, each seat that stands there has its
-- entry in it, and no two seats have one.
pub record Ruled {S : Type 0} (active_of passive_of : S → Listed) (start : Bool) (s : State S View) : Type 0 where
  pub two_words : 1 < length s.words
  pub cell : IsCell start s.words s.views
  pub list_word : IsListWord s.words s.views
  pub active : Listed
  pub passive : Listed
  pub active_match : Matched IsActiveEntryOf active.entries s.views
  pub passive_match : Matched IsPassiveEntryOf passive.entries s.views
  pub empty : slice_index s.words 0 ≡ 0 → LosesNoneEmpty active s.views
  pub filled : slice_index s.words 0 ≡ 2 → LosesNoneFull active passive s.views
  pub unlisted : SaysEmpty (slice_index s.words 1) → (active.waiting ≡ []) × (passive.waiting ≡ [])
  pub home : number has_lists_out s.views ≡ 0 → (lists : S) × (get_elem? s.homes 0 ≡ some (some lists)) × (active_of lists ≡ active) × (passive_of lists ≡ passive)
  pub out : (i : ℕ) (v : View) → get_elem? s.views i ≡ some v → v.has_lists ≡ true → (v.active ≡ active) × (v.passive ≡ passive)
