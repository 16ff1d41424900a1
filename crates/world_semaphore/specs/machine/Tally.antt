-- The semaphore in numbers: its words and its list, and what the parties have and owe.
use Rattle.std.specs.Prelude.{◌≡◌, ℕ, ◌+◌, ◌≤◌, List, length}
use Rattle.std.specs.List.{sum_by}
use Rattle.lock_event.specs.declared.event.Entry.{Entry}
use Rattle.lock_event.specs.Lists.{marked_count}
use Rattle.world_base.specs.queue.Debts.{IsOwed}
use Rattle.sync_program.specs.declared.permits.Position.{Position}
use Rattle.world_semaphore.specs.declared.machine.words.Words.{Words}
use Rattle.world_semaphore.specs.machine.Seats.{permits_at, under_way_at, listed as stands, waits, owes}

-- the words, and the list's length and marked entries
pub record Tally : Type 0 where
  pub available : ℕ
  pub limit : ℕ
  pub most : ℕ
  pub size : ℕ
  pub marked : ℕ

-- how many permits parties hold and have under way, how many parties are listed, and how many wait for just so many permits and owe as many
pub record Counts : Type 0 where
  pub held : ℕ
  pub under_way : ℕ
  pub listed : ℕ
  pub waiting : ℕ
  pub owing : ℕ

-- what always holds of the numbers; s is how many permits those who are counted wait for
pub record IsSound (s : ℕ) (t : Tally) (a : Counts) : Type 0 where
  pub balanced : t.available + a.held + a.under_way ≡ t.limit
  pub limited : t.limit ≤ t.most
  pub in_list : a.listed ≡ t.size
  -- while as many permits are available as a listed party waits for, some entry is marked, or somebody still owes the list as many
  pub owed : IsOwed (s ≤ t.available) a.waiting a.owing t.marked

abbrev pub tally_of : {K : Type 0} → Words → List (Entry K) → Tally
tally_of w l = record { available = w.available; limit = w.limit; most = w.most; size = length l; marked = marked_count l }

abbrev pub counts_of : ℕ → List Position → Counts
counts_of s xs = record { held = sum_by permits_at xs; under_way = sum_by under_way_at xs; listed = sum_by stands xs; waiting = sum_by (waits s) xs; owing = sum_by (owes s) xs }
