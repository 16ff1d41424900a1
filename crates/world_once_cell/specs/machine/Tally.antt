-- The cell and its list `active` in numbers, and what the parties have and owe there.
use Rattle.std.specs.Prelude.{◌≡◌, ℕ, ◌<◌, List, length}
use Rattle.std.specs.List.{sum_by}
use Rattle.lock_event.specs.declared.event.Entry.{Entry}
use Rattle.lock_event.specs.Lists.{marked_count}
use Rattle.world_base.specs.queue.Debts.{IsOwed}
use Rattle.world_once_cell.specs.declared.program.words.Content.{Content}
use Rattle.world_once_cell.specs.declared.program.words.Content.TheVariants as content
use Rattle.world_once_cell.specs.program.Program.{Position}
use Rattle.world_once_cell.specs.machine.Seats.{in_active, waits, owes}

-- whether the cell is empty, one or none, and the length and marked entries of `active`
pub record Tally : Type 0 where
  pub free : ℕ
  pub size : ℕ
  pub marked : ℕ

-- how many parties are listed in `active`, wait there and owe
pub record Counts : Type 0 where
  pub listed : ℕ
  pub waiting : ℕ
  pub owing : ℕ

-- what always holds of the numbers
pub record IsSound (s : Tally) (a : Counts) : Type 0 where
  pub in_list : a.listed ≡ s.size
  -- while the cell is empty and a listed party waits to make, some entry is marked, or somebody still owes the list
  pub owed : IsOwed (0 < s.free) a.waiting a.owing s.marked

abbrev pub free_of : Content → ℕ
free_of content.Empty = 1
free_of (content.BeingMade p) = 0
free_of (content.Full v) = 0

abbrev pub tally_of : {K : Type 0} → Content → List (Entry K) → Tally
tally_of c l = record { free = free_of c; size = length l; marked = marked_count l }

abbrev pub counts_of : List Position → Counts
counts_of xs = record { listed = sum_by in_active xs; waiting = sum_by waits xs; owing = sum_by owes xs }
