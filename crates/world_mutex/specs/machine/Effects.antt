-- The changes of a mutex, its one list, and what an effect on either leaves; and its calls.
use Rattle.std.specs.Prelude.{ℕ, ◌==◌, Bool, true, false, List, Option, Some, None, slice_set}
use Rattle.lock_event.specs.declared.event.Entry.{Entry}
use Rattle.world_base.specs.Steps.{Effect, nothing, changes, does, leaves, list_after, is_parting}
use Rattle.lock_program.specs.declared.mutex.LockCall.{LockCall}
use Rattle.lock_program.specs.declared.mutex.LockCall.TheVariants as call
use Rattle.lock_program.specs.declared.end.End.{End}
use Rattle.lock_program.specs.declared.end.End.TheVariants.{GivenBack}

-- The changes of a mutex: the party takes the lock or gives it back, is counted as starved or no more.
pub data Change : Type 0 where
  takes : Change
  releases : Change
  starves : Change
  recovers : Change

-- A mutex has one list: of the parties that wait for the lock.
pub data ListName : Type 0 where
  for_the_lock : ListName

abbrev pub holder_after : ℕ → Effect Change ListName → Option ℕ → Option ℕ
holder_after p (changes takes) h = Some p
holder_after p (changes releases) h = None
holder_after p _ h = h

abbrev pub starved_after : ℕ → Effect Change ListName → List Bool → List Bool
starved_after p (changes starves) s = slice_set s p true
starved_after p (changes recovers) s = slice_set s p false
starved_after p _ s = s

abbrev pub entries_after : ℕ → Effect Change ListName → List (Entry ℕ) → List (Entry ℕ)
entries_after p (does for_the_lock f) l = list_after p f l
entries_after p _ l = l

-- Once its call is decided, a party only gives back: the lock, its starved count, its entry, a notification.
abbrev pub gives_back : Effect Change ListName → Bool
gives_back nothing = true
gives_back (changes releases) = true
gives_back (changes recovers) = true
gives_back (changes _) = false
gives_back (does list f) = is_parting f

-- What gives something up: the lock, the starved count, or a place in the list without asking there.
abbrev pub gives_up : Effect Change ListName → Bool
gives_up (changes releases) = true
gives_up (changes recovers) = true
gives_up (does list leaves) = true
gives_up _ = false

-- The lock is given up.
abbrev pub is_release : Effect Change ListName → Bool
is_release (changes releases) = true
is_release _ = false

-- The end on which a call is decided from its beginning.
abbrev pub decided_by : LockCall → Option End
decided_by call.Release = Some GivenBack
decided_by call.Cancel = Some GivenBack
decided_by _ = None

-- A call whose first action takes a free lock: a first poll, a try, and a poll of a party that stands in no list, as it does after a refusal.
abbrev pub is_fresh : LockCall → ℕ → Bool
is_fresh call.Lock listed = true
is_fresh call.Try listed = true
is_fresh call.Poll listed = listed == 0
is_fresh _ listed = false

-- No call takes more steps than this, its first one counted, if only its party moves.
abbrev pub most_steps : LockCall → ℕ
most_steps call.Lock = 12
most_steps call.Poll = 12
most_steps call.Try = 1
most_steps call.Release = 2
most_steps call.Cancel = 2
