-- A mutex: where each party stands, and who waits in its list.
use Rattle.std.specs.Prelude.{◌≡◌, ℕ, ◌≤◌, List, [], length, slice_index_or, replicate}
use Rattle.lock_event.specs.declared.event.Entry.{Entry}
use Rattle.lock_event.specs.Lists.{marked_count}
use Rattle.lock_program.specs.declared.mutex.Place.{Place}
use Rattle.lock_program.specs.declared.mutex.Place.TheVariants.{Out}
use Rattle.world_mutex.specs.declared.program.word.Word.{Word}
use Rattle.lock_program.specs.MutexRoles.{holds, counted, listed, waits, owes}
use Rattle.world_base.specs.queue.Parties.{entries_of}
use Rattle.world_base.specs.queue.Queues.{Queue}
use Rattle.world_mutex.specs.machine.Tally.{IsSound, tally_of, counts_of}
use Rattle.world_mutex.specs.machine.Courses.{is_counting, may_tell, is_releasing}

-- what contracts see of a mutex
pub record Lock : Type 0 where
  pub places : List Place
  pub entries : List (Entry ℕ)
  pub limit : ℕ

abbrev pub place_at : List Place → ℕ → Place
place_at ps p = slice_index_or ps p Out

-- free, with every party out
abbrev pub new_lock : ℕ → ℕ → Lock
new_lock parties limit = record { places = replicate parties Out; entries = []; limit = limit }

-- the same roles, as a call begins
pub record SameRoles (p q : Place) : Type 0 where
  pub holding : holds p ≡ holds q
  pub starving : counted p ≡ counted q
  pub standing : listed p ≡ listed q
  pub waiting : waits p ≡ waits q
  pub owing : owes p ≡ owes q
  pub counting : is_counting p ≡ is_counting q
  pub telling : may_tell p ≡ may_tell q
  pub releasing : is_releasing p ≡ is_releasing q

pub record IsLock (w : Word) (places : List Place) (list : Queue) : Type 0 where
  pub sound : IsSound (tally_of w list.entries) (counts_of places)
  -- each listed party has one entry, and no other party has one
  pub owners : (p : ℕ) → entries_of p list.entries ≡ listed (place_at places p)
  pub as_many : list.parties ≡ length places
  -- one entry at most is marked
  pub one_told : marked_count list.entries ≤ 1
