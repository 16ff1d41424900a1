-- What `words_cell` says of each list, by the list's name.
use Rattle.std.specs.Prelude.{◌≡◌, ℕ, ◌&&◌, ◌||◌, Bool, true, false}
use Rattle.atomic_table.specs.Table.{Me}
use Rattle.sync_program.specs.declared.once_cell.ListName.{ListName}
use Rattle.sync_program.specs.declared.once_cell.ListName.TheVariants.{Active, Passive}
use Rattle.words_cell.specs.Seats.{back}
use Rattle.words_cell.specs.Steps as steps
use Rattle.words_cell.specs.declared.view.View.{View}
use Rattle.cell_core.specs.Contents.{active_of, passive_of}
use Rattle.cell_core.specs.declared.lists.Lists.{Lists}

-- which list has this name
abbrev pub is_active : ListName → Bool
is_active Active = true
is_active Passive = false

abbrev pub is_passive : ListName → Bool
is_passive Active = false
is_passive Passive = true

-- The seat's entry has this number, and stands in the list of this name alone.
abbrev pub HasEntryIn : ListName → ℕ → View → Type 0
HasEntryIn list n v = (v.in_active ≡ is_active list) × (v.in_passive ≡ is_passive list) × (v.entry ≡ n)

-- The lists that are out with a seat may be given back with this word: an entry of this number has joined the list.
abbrev pub CanJoin : ListName → Me Lists View → ℕ → ℕ → Type 0
CanJoin Active m word n = steps.CanJoinActive active_of passive_of m word n
CanJoin Passive m word n = steps.CanJoinPassive active_of passive_of m word n

-- The seat's entry was notified, and has left the list.
abbrev pub CanHear : ListName → Me Lists View → ℕ → Type 0
CanHear Active m word = steps.CanHear active_of passive_of m word
CanHear Passive m word = steps.CanLeave active_of passive_of m word

-- One in the list is notified.
abbrev pub CanPay : ListName → Me Lists View → ℕ → Type 0
CanPay Active m word = steps.CanPay active_of passive_of m word
CanPay Passive m word = steps.CanStay active_of passive_of m word

-- All in the list are.
abbrev pub CanPayAll : ListName → Me Lists View → ℕ → Type 0
CanPayAll Active m word = steps.CanPayActive active_of passive_of m word
CanPayAll Passive m word = steps.CanPayPassive active_of passive_of m word

-- what each of these makes of a seat, which has given the lists back
abbrev pub joined_of : ListName → ℕ → View → View
joined_of list n v = record (back v) { in_active = is_active list; in_passive = is_passive list; fresh = true; entry = n }

abbrev pub heard_of : ListName → View → View
heard_of list v = record (back v) { in_active = false; in_passive = false; fresh = false; owes = is_active list || v.owes }

abbrev pub paid_of : ListName → View → View
paid_of list v = record (back v) { owes = is_passive list && v.owes }

abbrev pub all_paid_of : ListName → View → View
all_paid_of list v = record (back v) { owes = is_passive list && v.owes; owes_active = is_passive list && v.owes_active; owes_passive = is_active list && v.owes_passive }
