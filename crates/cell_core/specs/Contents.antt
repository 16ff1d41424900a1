-- What lies in the slot: two lists, and what the calls on them do.
use Rattle.std.specs.Prelude.{◌≡◌, ℕ, ◌%◌, []}
use Rattle.words_base.specs.Lists.{Listed, Stays}
use Rattle.words_cell.specs.Rule.{SaysEmpty}
use Rattle.lock_queue.specs.Queues.{listed_in}
use Rattle.sync_program.specs.declared.once_cell.ListName.{ListName}
use Rattle.sync_program.specs.declared.once_cell.ListName.TheVariants.{Active, Passive}
use Rattle.cell_core.specs.declared.lists.Lists.{Lists}

-- the list of this name: of those that would make the value, or of those that only wait for it
abbrev pub list_of : ListName → Lists → Listed
list_of Active lists = listed_in lists.active
list_of Passive lists = listed_in lists.passive

abbrev pub active_of : Lists → Listed
active_of lists = list_of Active lists

abbrev pub passive_of : Lists → Listed
passive_of lists = list_of Passive lists

-- the name of the other list
abbrev pub other : ListName → ListName
other Active = Passive
other Passive = Active

-- a word that may be written as the lists are given back
abbrev pub Says : Lists → ℕ → Type 0
Says lists n = (n % 4 ≡ 0) × (SaysEmpty n → ((active_of lists).waiting ≡ []) × ((passive_of lists).waiting ≡ []))

-- Both lists stay.
pub record AreKept (old new : Lists) : Type 0 where
  pub active : Stays (active_of old) (active_of new)
  pub passive : Stays (passive_of old) (passive_of new)

-- The list of this name has become so, and the other stays.
pub record Changes (Becomes : Listed → Listed → Type 0) (list : ListName) (old new : Lists) : Type 0 where
  pub this : Becomes (list_of list old) (list_of list new)
  pub that : Stays (list_of (other list) old) (list_of (other list) new)
