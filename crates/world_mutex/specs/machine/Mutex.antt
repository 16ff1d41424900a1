-- A mutex as those see it who build on one: where each party's call is, who waits in its list, and how many steps each call still takes.
use Rattle.std.specs.Prelude.{◌≡◌, ℕ, ◌<◌, ◌≤◌, ◌==◌, ◌⊎◌, Bool, true, List, [], map, length, replicate, slice_index_or, Option, Some}
use Rattle.std.specs.List.{sum_by}
use Rattle.lock_event.specs.declared.event.Entry.{Entry}
use Rattle.lock_event.specs.Lists.{marked_count, IsMarkedFirst}
use Rattle.world_base.specs.queue.Parties.{entries_of}
use Rattle.world_base.specs.table.Resting.{AreAtRest}
use Rattle.lock_program.specs.declared.mutex.Step.{Step}
use Rattle.lock_program.specs.declared.mutex.Step.TheVariants as step
use Rattle.world_mutex.specs.machine.Course.{Course, out, holds, counted, listed, is_resting}
use Rattle.world_mutex.specs.machine.Behind.{Behind, conceal}
use Rattle.world_mutex.specs.machine.Machine.{new_lock}
use Rattle.world_mutex.specs.machine.State.{first_from}
use Rattle.world_mutex.specs.machine.Course.{is_waiting, is_due, decision, last_steps}
use Rattle.lock_program.specs.declared.end.End.{End}

-- What contracts see of a mutex. What stands behind it is shut, and is there for the promise on polls in turn alone.
pub record Mutex : Type 0 where
  pub courses : List Course
  pub entries : List (Entry ℕ)
  -- how many parties may be starved
  pub limit : ℕ
  -- how many steps each party's call still takes at most, if only this party moves
  pub steps : List ℕ
  pub behind : Behind

abbrev pub course_at : List Course → ℕ → Course
course_at cs p = slice_index_or cs p out

-- It is free, and every party is out.
abbrev pub new_mutex : ℕ → ℕ → Mutex
new_mutex parties limit = record { courses = replicate parties out; entries = []; limit = limit; steps = replicate parties 1; behind = conceal (new_lock parties limit) }

-- How many parties hold the lock, and how many are starved.
abbrev pub holders : Mutex → ℕ
holders m = sum_by holds m.courses

abbrev pub starved : Mutex → ℕ
starved m = sum_by counted m.courses

abbrev pub Holds : Mutex → ℕ → Type 0
Holds m p = holds (course_at m.courses p) ≡ 1

abbrev pub IsStarved : Mutex → ℕ → Type 0
IsStarved m p = counted (course_at m.courses p) ≡ 1

abbrev pub is_holder : Course → Bool
is_holder x = holds x == 1

abbrev pub is_counted : Course → Bool
is_counted x = counted x == 1

-- the first party that holds the lock, counted from n
abbrev pub holder_from : ℕ → List Course → Option ℕ
holder_from n cs = first_from is_holder n cs

-- The party that holds the lock, if any; and for each party whether it is starved.
abbrev pub holder_of : Mutex → Option ℕ
holder_of m = holder_from 0 m.courses

abbrev pub starved_of : Mutex → List Bool
starved_of m = map is_counted m.courses

-- How many steps the party's call still takes at most if only this party moves, whatever the lock and the list are.
abbrev pub steps_left : Mutex → ℕ → ℕ
steps_left m p = slice_index_or m.steps p 1

-- How many are left after a step: none where the call is over.
abbrev pub left_after : Step → Mutex → ℕ → ℕ
left_after step.More m p = steps_left m p
left_after (step.End e) m p = 0

-- Every party is outside all calls.
abbrev pub IsAtRest : List Course → Type 0
IsAtRest xs = AreAtRest is_resting xs

-- Whoever holds the lock now and didn't before took it free, and nobody else was starved.
abbrev pub TakenFairly : Mutex → Mutex → Type 0
TakenFairly old new = (p : ℕ) → holds (course_at old.courses p) ≡ 0 → holds (course_at new.courses p) ≡ 1 → (holders old ≡ 0) × ((starved old ≡ 0) ⊎ IsStarved old p)

-- What always holds of a mutex.
pub record IsMutex (m : Mutex) : Type 0 where
  pub one_holder : holders m ≤ 1
  pub few_starved : starved m ≤ m.limit
  -- a party's places in the list are told by its course
  pub owners : (p : ℕ) → entries_of p m.entries ≡ listed (course_at m.courses p)
  pub in_order : IsMarkedFirst m.entries
  pub one_told : marked_count m.entries ≤ 1
  -- where the lock is free and a party waits in the list, pending or about to ask there, some entry is marked or some party has still to notify or to look
  pub told_or_due : holders m ≡ 0 → (p : ℕ) → is_waiting (course_at m.courses p) ≡ true → (0 < marked_count m.entries) ⊎ ((q : ℕ) × (is_due (course_at m.courses q) ≡ true))
  -- at rest, a list that waits for a free lock has a marked entry
  pub wakes : IsAtRest m.courses → holders m ≡ 0 → 0 < length m.entries → 0 < marked_count m.entries
  -- and every starved party is listed
  pub starved_listed : IsAtRest m.courses → (p : ℕ) → IsStarved m p → entries_of p m.entries ≡ 1
  -- no call is out of steps
  pub some_left : (p : ℕ) → 0 < steps_left m p
  -- and one that is decided has so many left, and at most two, as its course says alone
  pub last_left : (p : ℕ) (e : End) → decision (course_at m.courses p) ≡ Some e → (steps_left m p ≡ last_steps (course_at m.courses p)) × (steps_left m p ≤ 2)
