-- What lies in the slot: a list.
use Rattle.std.specs.Prelude.{◌≡◌, ℕ, ◌%◌, []}
use Rattle.words_base.specs.Lists.{Listed}
use Rattle.lock_queue.specs.Queues.{listed_in}
use Rattle.words_barrier.specs.Rule.{SaysEmpty}
use Rattle.barrier_core.specs.declared.list.Entries.{Entries}

-- what the rule sees of it
abbrev pub listed_of : Entries → Listed
listed_of list = listed_in list.queue

-- a word that may be written as the list is given back
abbrev pub Says : Entries → ℕ → Type 0
Says list n = (n % 4 ≡ 0) × (SaysEmpty n → (listed_of list).waiting ≡ [])
