-- What the law speaks of: how many generations are finished, the list, and who is inside a call.
use Rattle.std.specs.Prelude.{◌≡◌, ℕ, ◌%◌, false, true, slice_index}
use mathlib.Core.Option.{some}
use lib.ListN.{get_elem?}
use Rattle.atomic_table.specs.Table.{State}
use Rattle.words_barrier.specs.declared.view.View.{View}

module _ {S : Type 0} (s : State S View) where
  -- How many generations are finished.
  abbrev pub finished : ℕ
  finished = slice_index s.words 0

  -- The list lies in its place.
  abbrev pub Lies : S → Type 0
  Lies list = get_elem? s.homes 0 ≡ some (some list)

  -- Nobody has the list out.
  abbrev pub IsListHome : Type 0
  IsListHome = slice_index s.words 1 % 2 ≡ 0

  -- The entry n is of the generation that is under way: of a seat that has found, since it joined, as many finished as there are.
  abbrev pub IsOfThis : ℕ → View → Type 0
  IsOfThis n v = (v.listed ≡ true) × (v.entry ≡ n) × (v.found ≡ finished)

  -- No seat is inside a call: none owes, none has a look to make, and none has the list out.
  abbrev pub IsAtRest : Type 0
  IsAtRest = (i : ℕ) (v : View) → get_elem? s.views i ≡ some v → (v.owes ≡ false) × (v.fresh ≡ false) × (v.has_list ≡ false)
