-- What the law speaks of: the writer's bit, who is inside, the lists, and who is inside a call.
use Rattle.std.specs.Prelude.{◌≡◌, ℕ, ◌%◌, true, false, slice_index}
use mathlib.Core.Option.{some}
use lib.ListN.{get_elem?}
use Rattle.atomic_table.specs.Table.{State}
use Rattle.words_access.specs.declared.view.View.{View}

module _ {S : Type 0} (s : State S View) where
  -- The writer's bit is clear: nobody writes or waits to write.
  abbrev pub IsBitClear : Type 0
  IsBitClear = slice_index s.words 0 % 2 ≡ 0

  -- The writer's bit is set, and no reader is inside.
  abbrev pub AreReadersGone : Type 0
  AreReadersGone = slice_index s.words 0 ≡ 1

  -- No seat writes.
  abbrev pub NobodyWrites : Type 0
  NobodyWrites = (i : ℕ) (v : View) → get_elem? s.views i ≡ some v → v.writes ≡ false

  -- The lists lie in their place.
  abbrev pub Lie : S → Type 0
  Lie lists = get_elem? s.homes 0 ≡ some (some lists)

  -- Nobody has the lists out.
  abbrev pub AreListsHome : Type 0
  AreListsHome = slice_index s.words 1 % 2 ≡ 0

  -- No seat is inside a call: none owes, none has a look to make, and none has the lists out.
  abbrev pub IsAtRest : Type 0
  IsAtRest = (i : ℕ) (v : View) → get_elem? s.views i ≡ some v → (v.owes_readers ≡ false) × (v.owes_writer ≡ false) × (v.fresh ≡ false) × (v.has_lists ≡ false)

  -- No seat stands in the writer's list.
  abbrev pub NobodyWaitsToWrite : Type 0
  NobodyWaitsToWrite = (i : ℕ) (v : View) → get_elem? s.views i ≡ some v → v.in_writer ≡ false

  -- While a seat writes, no other reads or writes.
  abbrev pub IsAlone : Type 0
  IsAlone = (i j : ℕ) (v w : View) → (i ≡ j → ⊥) → get_elem? s.views i ≡ some v → get_elem? s.views j ≡ some w → v.writes ≡ true → (w.reads ≡ false) × (w.writes ≡ false)

-- It has to notify who waits until no reader is inside.
abbrev pub OwesWriter : View → Type 0
OwesWriter v = v.owes_writer ≡ true
