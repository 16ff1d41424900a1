-- What the law speaks of: an empty and a full cell, its lists, and who is inside a call.
use Rattle.std.specs.Prelude.{◌≡◌, ℕ, ◌%◌, false, slice_index}
use mathlib.Core.Option.{some}
use lib.ListN.{get_elem?}
use Rattle.atomic_table.specs.Table.{State}
use Rattle.words_cell.specs.declared.view.View.{View}

module _ {S : Type 0} (s : State S View) where
  -- It has no value, and nobody makes one.
  abbrev pub IsEmpty : Type 0
  IsEmpty = slice_index s.words 0 ≡ 0

  -- It has a value.
  abbrev pub IsFull : Type 0
  IsFull = slice_index s.words 0 ≡ 2

  -- The lists lie in their place.
  abbrev pub Lie : S → Type 0
  Lie lists = get_elem? s.homes 0 ≡ some (some lists)

  -- Nobody has the lists out.
  abbrev pub AreListsHome : Type 0
  AreListsHome = slice_index s.words 1 % 2 ≡ 0

  -- No seat is inside a call: none owes, none has a look to make, and none has the lists out.
  abbrev pub IsAtRest : Type 0
  IsAtRest = (i : ℕ) (v : View) → get_elem? s.views i ≡ some v → (v.owes ≡ false) × (v.owes_active ≡ false) × (v.owes_passive ≡ false) × (v.fresh ≡ false) × (v.has_lists ≡ false)
