-- The mutex in numbers: its word and its list, and how many parties have which role.
use Rattle.std.specs.Prelude.{◌≡◌, ℕ, ◌≤◌, List, length}
use Rattle.std.specs.List.{sum_by}
use Rattle.lock_event.specs.declared.event.Entry.{Entry}
use Rattle.lock_event.specs.Lists.{marked_count}
use Rattle.world_base.specs.queue.Debts.{IsOwed}
use Rattle.lock_program.specs.declared.mutex.Place.{Place}
use Rattle.world_mutex.specs.declared.program.word.Word.{Word}
use Rattle.lock_program.specs.MutexRoles.{bit, holds, counted, listed as stands, waits, owes}

-- the word, and the list's length and marked entries
pub record Tally : Type 0 where
  pub held : ℕ
  pub starved : ℕ
  pub limit : ℕ
  pub size : ℕ
  pub marked : ℕ

-- how many parties hold, are counted, are listed, wait and owe
pub record Counts : Type 0 where
  pub holding : ℕ
  pub starving : ℕ
  pub listed : ℕ
  pub waiting : ℕ
  pub owing : ℕ

-- what always holds of the numbers
pub record IsSound (s : Tally) (a : Counts) : Type 0 where
  pub one_holder : s.held ≤ 1
  pub held : a.holding ≡ s.held
  pub starved : a.starving ≡ s.starved
  pub limited : s.starved ≤ s.limit
  pub in_list : a.listed ≡ s.size
  -- a free lock that a listed party waits for has a marked entry, or somebody still owes it a look
  pub owed : IsOwed (s.held ≡ 0) a.waiting a.owing s.marked

abbrev pub tally_of : {K : Type 0} → Word → List (Entry K) → Tally
tally_of w l = record { held = bit w.held; starved = w.starved; limit = w.limit; size = length l; marked = marked_count l }

abbrev pub counts_of : List Place → Counts
counts_of ps = record { holding = sum_by holds ps; starving = sum_by counted ps; listed = sum_by stands ps; waiting = sum_by waits ps; owing = sum_by owes ps }
