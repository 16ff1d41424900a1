-- What callers see of a semaphore's World: its state, its list, and how each party stands.
use Rattle.std.specs.Prelude.{ℕ, ◌+◌, ◌-◌, Bool, List, [], Option, is_some, slice_index_or, replicate, length}
use Rattle.std.specs.List.{sum_by}
use Rattle.lock_event.specs.declared.event.Entry.{Entry}
use Rattle.lock_event.specs.declared.event.Mark.{Mark}
use Rattle.lock_event.specs.Lists.{mark_at}
use Rattle.world_base.specs.queue.Parties.{is_party}
use Rattle.world_base.specs.declared.standing.Rest.TheVariants.{Idle}
use Rattle.world_base.specs.Standings.{Standing, outside, forgotten}
use Rattle.world_base.specs.table.Tables.{Table, new_table}
use Rattle.world_semaphore.specs.machine.Seats.{Share, Debt, nothing_had, nothing_owed, permits_of}
use Rattle.world_semaphore.specs.machine.Machine.{Semaphore, new_semaphore}

-- The limit, which counts all permits; and what each party has: the permits of its guard, and how many are under way in its add.
pub record State : Type 0 where
  pub limit : ℕ
  pub shares : List Share

-- The state; the list of waiting parties with their marks; how each party stands; for each party, for how many permits its future, guard or call is; what each party still owes those in the list; the greatest value of the limit; and the number of permits that the World was made with. What stands behind the World is named by no clause but that of its own step, and that of the reader of places for tests.
pub record World : Type 0 where
  pub state : State
  pub entries : List (Entry ℕ)
  pub standings : List Standing
  pub sizes : List ℕ
  pub debts : List Debt
  pub most : ℕ
  pub opening_permits : ℕ
  pub behind : Table Semaphore

abbrev pub share_at : State → ℕ → Share
share_at s p = slice_index_or s.shares p nothing_had

-- The party has a guard, be it one of no permits.
abbrev pub has_permits : State → ℕ → Bool
has_permits s p = is_some (share_at s p).held

-- How many permits parties have, and how many are under way.
abbrev pub held : State → ℕ
held s = sum_by permits_of s.shares

abbrev pub under_way : State → ℕ
under_way s = sum_by (λ x. x.under_way) s.shares

-- The other permits are available.
abbrev pub available : State → ℕ
available s = s.limit - (held s + under_way s)

-- A party past the table stands as one that is forgotten: it moves no more.
abbrev pub standing_of : World → ℕ → Standing
standing_of w p = slice_index_or w.standings p forgotten

-- For how many permits the party's future, guard or call is; 0 where it has none of these.
abbrev pub size_of : World → ℕ → ℕ
size_of w p = slice_index_or w.sizes p 0

-- What the party still owes those in the list.
abbrev pub debt_of : World → ℕ → Debt
debt_of w p = slice_index_or w.debts p nothing_owed

-- What the party has been told in the list, if it stands there.
abbrev pub mark_of : World → ℕ → Option Mark
mark_of w p = mark_at (is_party p) w.entries

-- As it is made: all permits are available, nobody is listed, and each party is idle.
abbrev pub new_world : ℕ → ℕ → ℕ → World
new_world parties permits most = record {
  state = record { limit = permits; shares = replicate parties nothing_had };
  entries = [];
  standings = replicate parties (outside Idle);
  sizes = replicate parties 0;
  debts = replicate parties nothing_owed;
  most = most;
  opening_permits = permits;
  behind = new_table (new_semaphore parties permits most) parties permits;
}

-- The World as it was made, by the numbers that it keeps: how many parties, the permits, and the greatest limit.
abbrev pub opening_of : World → World
opening_of w = new_world (length w.standings) w.opening_permits w.most
