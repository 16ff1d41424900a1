-- What the law speaks of: a free lock, its list, and who is inside a call.
use Rattle.std.specs.Prelude.{◌≡◌, ℕ, ◌≤◌, ◌%◌, true, false, slice_index}
use mathlib.Core.Option.{some}
use lib.ListN.{get_elem?}
use Rattle.atomic_table.specs.Table.{State}
use Rattle.words_base.specs.Sums.{number}
use Rattle.words_mutex.specs.Rule.{is_fresh}
use Rattle.words_mutex.specs.declared.view.View.{View}

module _ {S : Type 0} (s : State S View) where
  -- Nobody holds the lock.
  abbrev pub IsFree : Type 0
  IsFree = slice_index s.words 0 % 2 ≡ 0

  -- The list lies in its place.
  abbrev pub Lies : S → Type 0
  Lies list = get_elem? s.homes 0 ≡ some (some list)

  -- Nobody has the list out.
  abbrev pub IsListHome : Type 0
  IsListHome = slice_index s.words 1 % 2 ≡ 0

  -- Some seat owes a notification or a look.
  abbrev pub SomeOwes : Type 0
  SomeOwes = (i : ℕ) × (v : View) × (get_elem? s.views i ≡ some v) × (v.owes ≡ true)

  -- At least so many seats have joined the list, and have not looked at the lock since.
  abbrev pub ManyAreToLook : ℕ → Type 0
  ManyAreToLook n = n ≤ number is_fresh s.views

  -- No seat is inside a call: none owes, none has a look to make, and none has the list out.
  abbrev pub IsAtRest : Type 0
  IsAtRest = (i : ℕ) (v : View) → get_elem? s.views i ≡ some v → (v.owes ≡ false) × (v.fresh ≡ false) × (v.has_list ≡ false)
