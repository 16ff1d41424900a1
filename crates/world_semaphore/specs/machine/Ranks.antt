-- How many steps of a party's call are left, if the others stand still.
use Rattle.std.specs.Prelude.{ℕ, if◌then◌else◌, Bool, true, false}
use Rattle.lock_event.specs.Lists.{is_marked_at}
use Rattle.world_base.specs.queue.Parties.{is_party}
use Rattle.sync_program.specs.declared.permits.Place.{Place}
use Rattle.sync_program.specs.declared.permits.Place.TheVariants.{Take, Retake, Join, Ask, Remove, Load, GiveBack, Raise, GiveAdded, CancelRemove, CancelLoad}
use Rattle.sync_program.specs.declared.permits.Position.{Position}
use Rattle.sync_program.specs.declared.permits.Position.TheVariants.{At}
use Rattle.world_semaphore.specs.machine.Machine.{Semaphore, position_at}

-- How many steps are left at most from a place, by whether the party's own entry is marked.
abbrev pub left : Place → Bool → ℕ
left (Take k false told) marked = 5
left (Take k true told) marked = if marked then 7 else 3
left (Retake k) marked = if marked then 7 else 3
left (Join k told) marked = 4
left (Ask k told) marked = if marked then 6 else 2
left (Remove k more) marked = if marked then 3 else 2
left (Load k) marked = 2
left (GiveBack k) marked = 2
left (Raise n) marked = 3
left (GiveAdded n) marked = 2
left CancelRemove marked = 3
left CancelLoad marked = 2
left _ marked = 1

-- The party's own entry is marked.
abbrev pub is_own_marked : Semaphore → ℕ → Bool
is_own_marked s p = is_marked_at (is_party p) s.entries

-- Outside every program one step is left, that of a move which does nothing.
abbrev pub left_at : Position → Bool → ℕ
left_at (At x) marked = left x marked
left_at x marked = 1

-- How many steps the party's call still takes at most if only this party moves, whatever the words and the list are.
abbrev pub steps_left : Semaphore → ℕ → ℕ
steps_left s p = left_at (position_at s.positions p) (is_own_marked s p)
