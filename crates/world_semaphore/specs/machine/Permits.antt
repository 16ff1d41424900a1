-- A semaphore as those see it who build on one: its words, where each party's call is, and who waits in its list.
use Rattle.std.specs.Prelude.{◌≡◌, ℕ, ◌+◌, ◌<◌, ◌≤◌, ◌⊎◌, true, List, [], slice_index_or, replicate}
use Rattle.std.specs.List.{sum_by}
use Rattle.lock_event.specs.declared.event.Entry.{Entry}
use Rattle.lock_event.specs.Lists.{is_marked_at, marked_count}
use Rattle.lock_program.specs.declared.mutex.Step.{Step}
use Rattle.lock_program.specs.declared.mutex.Step.TheVariants as step
use Rattle.world_base.specs.queue.Parties.{is_party, entries_of}
use Rattle.world_base.specs.table.Resting.{AreAtRest}
use Rattle.world_semaphore.specs.declared.machine.words.Words.{Words}
use Rattle.world_semaphore.specs.machine.Course.{Course, out, is_resting, is_waiting, size, share, listed, debt, left}
use Rattle.world_semaphore.specs.machine.Effects.{words}
use Rattle.world_semaphore.specs.machine.Seats.{permits_of, pays}

-- What contracts see of a semaphore.
pub record Permits : Type 0 where
  pub words : Words
  pub courses : List Course
  pub entries : List (Entry ℕ)

abbrev pub course_at : List Course → ℕ → Course
course_at cs p = slice_index_or cs p out

-- All its permits are available, and every party is out.
abbrev pub new_permits : ℕ → ℕ → ℕ → Permits
new_permits parties permits most = record { words = words permits permits most; courses = replicate parties out; entries = [] }

-- How many permits guards have, and how many are under way.
abbrev pub held : Permits → ℕ
held m = sum_by (λ x. permits_of (share x)) m.courses

abbrev pub under_way : Permits → ℕ
under_way m = sum_by (λ x. (share x).under_way) m.courses

-- For how many permits a party's future, guard or call is.
abbrev pub size_of : Permits → ℕ → ℕ
size_of m p = size (course_at m.courses p)

-- How many steps the party's call still takes at most if only this party moves, whatever the words and the list are.
abbrev pub steps_left : Permits → ℕ → ℕ
steps_left m p = left (course_at m.courses p) (is_marked_at (is_party p) m.entries)

-- How many are left after a step: none where the call is over.
abbrev pub left_after : Step → Permits → ℕ → ℕ
left_after step.More m p = steps_left m p
left_after (step.End e) m p = 0

-- Every party is outside all calls.
abbrev pub IsAtRest : List Course → Type 0
IsAtRest cs = AreAtRest is_resting cs

-- As many permits are available as some party waits for in the list.
abbrev pub IsFreeAndWanted : Permits → Type 0
IsFreeAndWanted m = (p : ℕ) × (0 < entries_of p m.entries) × (size_of m p ≤ m.words.available)

-- What always holds of a semaphore.
pub record IsPermits (m : Permits) : Type 0 where
  -- permits available, held and under way make up the limit; at rest none are under way
  pub balanced : m.words.available + held m + under_way m ≡ m.words.limit
  pub all_given : IsAtRest m.courses → m.words.available + held m ≡ m.words.limit
  pub limited : m.words.limit ≤ m.words.most
  -- a party's places in the list are told by its course, it waits there for at least one permit, and one entry at most is marked
  pub owners : (p : ℕ) → entries_of p m.entries ≡ listed (course_at m.courses p)
  pub some_wanted : (p : ℕ) → 0 < entries_of p m.entries → 0 < size_of m p
  pub one_told : marked_count m.entries ≤ 1
  -- where as many permits are available as a party waits for, some entry is marked, or some party owes a look or to tell of as many
  pub told_or_due : (p : ℕ) → is_waiting (course_at m.courses p) ≡ true → size_of m p ≤ m.words.available → (0 < marked_count m.entries) ⊎ ((q : ℕ) × (pays (size_of m p) (debt (course_at m.courses q)) ≡ true))
  -- at rest some entry is marked
  pub wakes : IsAtRest m.courses → IsFreeAndWanted m → 0 < marked_count m.entries
  -- no call is out of steps
  pub some_left : (p : ℕ) → 0 < steps_left m p
