-- What contracts see of a cell, and of a seat.
use Rattle.std.specs.Prelude.{◌≡◌, ℕ, ◌&&◌, ◌||◌, not, Bool, true, false, refl}
use Rattle.std.specs.Coded.{Coded, code_by, coded×, coded_ℕ, coded_bool}
use Rattle.atomic_table.specs.Seated.{TableId, table_id_coded}
use Rattle.lock_program.specs.declared.end.Next.TheVariants.{Do}
use Rattle.sync_program.specs.OnceCell.{action_of, next_of}
use Rattle.sync_program.specs.declared.once_cell.Action.{Action}
use Rattle.sync_program.specs.declared.once_cell.Found.{Found}
use Rattle.sync_program.specs.declared.once_cell.ListName.{ListName}
use Rattle.words_cell.specs.declared.view.View.{View}
use Rattle.cell_core.specs.ByName.{is_active, is_passive}
use Rattle.cell_core.specs.Courses.{Course, PlaceHere, asking, course_coded, unbegun, IsNotifying}
use Rattle.cell_core.specs.declared.state.State.{State}
use Rattle.cell_core.specs.declared.state.State.TheVariants.{Empty, Making, Full}

-- The cell's table, whether it began full, and where its value lies.
pub record Words : Type 0 where
  pub table : TableId
  pub start : Bool
  pub store : ℕ

-- A cell: its table and value, and with which source its waiters register.
pub record Cell : Type 0 where
  pub word : Words
  pub source : ℕ

abbrev pub cell_coded : Coded Cell
cell_coded = code_by (TableId × (Bool × (ℕ × ℕ))) (coded× table_id_coded (coded× coded_bool (coded× coded_ℕ coded_ℕ))) (λ c. (c.word.table, (c.word.start, (c.word.store, c.source)))) (λ p. record { word = record { table = p.0; start = p.1.0; store = p.1.1.0 }; source = p.1.1.1 }) (λ _. refl)

-- A seat: of which table it is, and which number it has there; whether it makes, and what it owes; in which list it has an entry, of which number, and whether it has not looked since it
-- joined, or found the cell full; what its last look found, or it made of the cell since, and how often it has emptied the full cell; and where it is in its program.
pub record Seated : Type 0 where
  pub table : TableId
  pub id : ℕ
  pub makes : Bool
  pub owes : Bool
  pub owes_active : Bool
  pub owes_passive : Bool
  pub in_active : Bool
  pub in_passive : Bool
  pub fresh : Bool
  pub entry : ℕ
  pub found : ℕ
  pub taken : ℕ
  pub course : Course

abbrev pub seated_coded : Coded Seated
seated_coded = code_by (TableId × (ℕ × (Bool × (Bool × (Bool × (Bool × (Bool × (Bool × (Bool × (ℕ × (ℕ × (ℕ × Course))))))))))))
    (coded× table_id_coded (coded× coded_ℕ (coded× coded_bool (coded× coded_bool (coded× coded_bool (coded× coded_bool (coded× coded_bool (coded× coded_bool (coded× coded_bool (coded× coded_ℕ (coded× coded_ℕ (coded× coded_ℕ course_coded))))))))))))
    (λ s. (s.table, (s.id, (s.makes, (s.owes, (s.owes_active, (s.owes_passive, (s.in_active, (s.in_passive, (s.fresh, (s.entry, (s.found, (s.taken, s.course)))))))))))))
    (λ p. record { table = p.0; id = p.1.0; makes = p.1.1.0; owes = p.1.1.1.0; owes_active = p.1.1.1.1.0; owes_passive = p.1.1.1.1.1.0; in_active = p.1.1.1.1.1.1.0; in_passive = p.1.1.1.1.1.1.1.0; fresh = p.1.1.1.1.1.1.1.1.0; entry = p.1.1.1.1.1.1.1.1.1.0; found = p.1.1.1.1.1.1.1.1.1.1.0; taken = p.1.1.1.1.1.1.1.1.1.1.1.0; course = p.1.1.1.1.1.1.1.1.1.1.1.1 })
    (λ _. refl)

abbrev pub seated : TableId → ℕ → View → Course → Seated
seated table id v course = record { table = table; id = id; makes = v.makes; owes = v.owes; owes_active = v.owes_active; owes_passive = v.owes_passive; in_active = v.in_active; in_passive = v.in_passive; fresh = v.fresh; entry = v.entry; found = v.found; taken = v.taken; course = course }

-- The seat is one of the cell.
abbrev pub IsOf : Cell → Seated → Type 0
IsOf cell seat = seat.table ≡ cell.word.table

-- It is one of the cell, and its last step there found the cell full, or made it so.
abbrev pub HasFound : Cell → Seated → Type 0
HasFound cell seat = IsOf cell seat × (seat.found ≡ 2)

-- It is the same seat of its cell.
abbrev pub IsSameSeat : Seated → Seated → Type 0
IsSameSeat s t = t.id ≡ s.id

-- a seat with nothing
abbrev pub entering : Cell → ℕ → Seated
entering cell id = record { table = cell.word.table; id = id; makes = false; owes = false; owes_active = false; owes_passive = false; in_active = false; in_passive = false; fresh = false; entry = 0; found = 0; taken = 0; course = unbegun }

-- what a look, a claim and each other step makes of a seat
abbrev pub with_seen : ℕ → Seated → Seated
with_seen n s = record s { found = n; fresh = false }

abbrev pub with_full : Seated → Seated
with_full s = record s { found = 2 }

abbrev pub with_claim : Seated → Seated
with_claim s = record s { makes = true; owes = false; fresh = false; found = 0 }

abbrev pub with_miss : Seated → Seated
with_miss s = record s { owes = s.owes && not s.in_active; fresh = false; found = 1 }

abbrev pub with_late : Seated → Seated
with_late s = record s { owes = false; found = 2 }

abbrev pub with_filled : Seated → Seated
with_filled s = record s { makes = false; owes_active = true; owes_passive = true; found = 2 }

abbrev pub with_emptied : Seated → Seated
with_emptied s = record s { makes = false; owes = true }

abbrev pub with_ease : Seated → Seated
with_ease s = record s { owes = false; owes_active = false; owes_passive = false }

-- it has joined the list of this name, with an entry of this number
abbrev pub with_joined : ListName → ℕ → Seated → Seated
with_joined list n s = record s { in_active = is_active list; in_passive = is_passive list; fresh = true; entry = n }

-- its entry has left the list
abbrev pub with_gone : Seated → Seated
with_gone s = record s { in_active = false; in_passive = false; fresh = false }

-- its entry was notified, and has left the list of this name: of those that would make, it owes one
abbrev pub with_heard : ListName → Seated → Seated
with_heard list s = record s { in_active = false; in_passive = false; fresh = false; owes = is_active list || s.owes }

-- it has notified one in the list of this name, and all in it
abbrev pub with_paid : ListName → Seated → Seated
with_paid list s = record s { owes = is_passive list && s.owes }

abbrev pub with_all_paid : ListName → Seated → Seated
with_all_paid list s = record s { owes = is_passive list && s.owes; owes_active = is_passive list && s.owes_active; owes_passive = is_active list && s.owes_passive }

module _ (at : PlaceHere) where
  -- its call has come to this place, whose action is this
  abbrev pub IsAt : Action (Unit {0}) → Seated → Type 0
  IsAt act s = (s.course ≡ Do at) × (action_of at ≡ act)

  -- its call has come to this place, where it notifies
  abbrev pub IsToNotify : Seated → Type 0
  IsToNotify s = (s.course ≡ Do at) × IsNotifying (action_of at)

  -- the action of this place found this
  abbrev pub goes : Found (Unit {0}) → Seated → Seated
  goes found s = record s { course = next_of at found }

-- it begins a call, at this place
abbrev pub with_begun : PlaceHere → Seated → Seated
with_begun at s = record s { course = Do at }

-- it has lent its right to its maker, which is being asked
abbrev pub with_asking : Seated → Seated
with_asking s = record s { course = asking }

-- it owes nothing
abbrev pub OwesNothing : Seated → Type 0
OwesNothing s = (s.owes ≡ false) × (s.owes_active ≡ false) × (s.owes_passive ≡ false)

-- it has no entry, and owes nothing
abbrev pub IsAlone : Seated → Type 0
IsAlone s = OwesNothing s × (s.in_active ≡ false) × (s.in_passive ≡ false) × (s.fresh ≡ false)

-- it has and owes nothing
abbrev pub IsIdle : Seated → Type 0
IsIdle s = (s.makes ≡ false) × IsAlone s

-- it has the right to make, and nothing else
abbrev pub IsMaking : Seated → Type 0
IsMaking s = (s.makes ≡ true) × IsAlone s

-- its entry has this number, and stands in the list of this name alone
abbrev pub StandsIn : ListName → ℕ → Seated → Type 0
StandsIn list n s = (s.in_active ≡ is_active list) × (s.in_passive ≡ is_passive list) × (s.entry ≡ n)

-- it has no entry, and owes no more than a notification of one that would make, and that only if it was told
abbrev pub IsBetween : Bool → Seated → Type 0
IsBetween told s = (s.makes ≡ false) × (told ≡ false → s.owes ≡ false) × (s.owes_active ≡ false) × (s.owes_passive ≡ false) × (s.in_active ≡ false) × (s.in_passive ≡ false) × (s.fresh ≡ false)

-- it has an entry of this number in the list of this name, and has looked since; it owes nothing
abbrev pub WaitsIn : ListName → ℕ → Seated → Type 0
WaitsIn list n s = (s.makes ≡ false) × OwesNothing s × StandsIn list n s × (s.fresh ≡ false)

-- What holds by what was found.
abbrev pub OnState : State → Type 0 → Type 0 → Type 0 → Type 0
OnState Empty empty making full = empty
OnState Making empty making full = making
OnState Full empty making full = full
