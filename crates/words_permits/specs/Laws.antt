-- What the law speaks of: the available permits, the list, and who is inside a call.
use Rattle.std.specs.Prelude.{◌≡◌, ℕ, ◌%◌, false, slice_index}
use mathlib.Core.Option.{some}
use lib.ListN.{get_elem?}
use Rattle.atomic_table.specs.Table.{State}
use Rattle.words_permits.specs.declared.view.View.{View}

module _ {S : Type 0} (s : State S View) where
  -- How many permits are available.
  abbrev pub available : ℕ
  available = slice_index s.words 0

  -- The list lies in its place.
  abbrev pub Lies : S → Type 0
  Lies list = get_elem? s.homes 0 ≡ some (some list)

  -- Nobody has the list out.
  abbrev pub IsListHome : Type 0
  IsListHome = slice_index s.words 1 % 2 ≡ 0

  -- No seat is inside a call: none owes, none has joined and has still to look, and none has the list out.
  abbrev pub IsAtRest : Type 0
  IsAtRest = (i : ℕ) (v : View) → get_elem? s.views i ≡ some v → (v.owes ≡ false) × (v.fresh ≡ false) × (v.has_list ≡ false)
