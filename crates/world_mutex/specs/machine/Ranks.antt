-- How many steps of a party's call are left, if the others stand still.
use Rattle.std.specs.Prelude.{ℕ, ◌==◌, if◌then◌else◌, Bool, true, false}
use Rattle.lock_event.specs.Lists.{is_marked_at}
use Rattle.world_base.specs.queue.Parties.{is_party}
use Rattle.lock_program.specs.declared.mutex.Place.{Place}
use Rattle.lock_program.specs.declared.mutex.Place.TheVariants.{Enter, Clear, CancelUncount, Join, Look, Ask, Retry, PassOn, Count, JoinStarved, LookAlone, PassOnListed, AskStarved, Seize, Uncount, RefuseUncount, RefuseLeave}
pub use Rattle.world_mutex.specs.machine.Effects.{most_steps}
use Rattle.world_mutex.specs.declared.program.led.Next.{Next}
use Rattle.world_mutex.specs.declared.program.led.Next.TheVariants as next
use Rattle.world_mutex.specs.machine.Machine.{Lock, place_at}
use Rattle.world_mutex.specs.machine.Acts.{holders}

-- How many steps are left at most from a place, by whether the party's own entry is marked and whether the lock is free.
abbrev pub left : Place → Bool → Bool → ℕ
left Enter marked free = 9
left (Join told) marked free = 8
left (Look told) marked free = if marked then 11 else 7
left Ask marked free = if marked then 10 else 1
left Retry marked free = 9
left PassOn marked free = 8
left (Count true told) marked free = 6
left (Count false told) marked free = 7
left JoinStarved marked free = if free then 6 else 3
left LookAlone marked free = if free then 5 else (if marked then 6 else 2)
left PassOnListed marked free = if free then 4 else 6
left AskStarved marked free = if marked then (if free then 3 else 5) else 1
left Seize marked free = if free then 2 else 4
left (Uncount true) marked free = 2
left RefuseUncount marked free = 2
left (RefuseLeave told) marked free = 2
left Clear marked free = 2
left CancelUncount marked free = 2
left _ marked free = 1

-- The party's own entry is marked.
abbrev pub is_own_marked : Lock → ℕ → Bool
is_own_marked l p = is_marked_at (is_party p) l.entries

-- Nobody holds the lock.
abbrev pub is_open : Lock → Bool
is_open l = holders l == 0

-- How many steps the party's call still takes at most if only this party moves, whatever the word and the list are.
abbrev pub steps_left : Lock → ℕ → ℕ
steps_left l p = left (place_at l.places p) (is_own_marked l p) (is_open l)

-- How many steps are left once a step has decided this: none where the call is over.
abbrev pub left_after : Next → Lock → ℕ → ℕ
left_after (next.Do action q) l p = steps_left l p
left_after (next.End e) l p = 0
