-- What always holds of a barrier's World, between any two moves.
use Rattle.std.specs.Prelude.{◌≡◌, ℕ, ◌<◌, ◌≤◌, ◌⊎◌, Bool, true, false, length, Option, Some, None}
use Rattle.std.specs.List.{list_all}
use Rattle.lock_event.specs.Lists.{marked_count, is_marked_at, IsMarkedFirst}
use Rattle.world_base.specs.queue.Parties.{is_party, entries_of}
use Rattle.world_base.specs.declared.moves.Answer.{Answer}
use Rattle.world_base.specs.declared.standing.Kind.{Kind}
use Rattle.world_base.specs.declared.standing.Kind.TheVariants as kind
use Rattle.world_base.specs.declared.standing.Rest.{Rest}
use Rattle.world_base.specs.declared.standing.Rest.TheVariants.{Idle, Pending, Finished}
use Rattle.world_base.specs.declared.standing.Within.{Within}
use Rattle.world_base.specs.Rosters.{how_many}
use Rattle.world_base.specs.Standings.{Standing, outside, inside, forgotten, is_outside}
use Rattle.world_barrier.specs.machine.Waits.{uncounted, counted}
use Rattle.world_barrier.specs.declared.world.ListName.{ListName}
use Rattle.world_barrier.specs.Numbers.{IsFinished, generations_of}
use Rattle.world_barrier.specs.State.{World, list_in, standing_of, wait_of, is_starved, has_to_tell}
use Rattle.world_barrier.specs.AtOnce.{entries_in}
use Rattle.world_barrier.specs.Legal.{HasItsOwn}
use Rattle.world_base.specs.declared.moves.Answer.TheVariants as answer
use Rattle.world_base.specs.Standings.{is_decided}

-- The calls of a barrier that may take more than one step: a poll, and the drop of a pending wait.
abbrev pub is_long_call : Kind → Rest → Bool
is_long_call kind.FirstPoll Idle = true
is_long_call kind.FirstPoll Finished = true
is_long_call kind.LaterPoll Pending = true
is_long_call kind.Drop Pending = true
is_long_call _ _ = false

-- Whether a party that stands so has still to notify in the inner lock's list, or to look at the lock: one in a poll that isn't decided, is to be ready or is to be refused.
abbrev pub is_due : Standing → Bool
is_due (inside within None) = true
is_due (inside within (Some (answer.Ready got))) = true
is_due (inside within (Some (answer.Refused n))) = true
is_due s = false

abbrev pub is_refused : Standing → Bool
is_refused (inside within (Some (answer.Refused n))) = true
is_refused s = false

-- Once its poll is decided it has to notify there, or it is refused. Such a party stands in that list only while its poll isn't decided and it is starved.
pub record IsDue (w : World) (p : ℕ) : Type 0 where
  pub due : is_due (standing_of w p) ≡ true
  pub owes : is_decided (standing_of w p) ≡ true → (has_to_tell w p ≡ true) ⊎ (is_refused (standing_of w p) ≡ true)
  pub unlisted : (is_starved w.lock p ≡ false) ⊎ (is_decided (standing_of w p) ≡ true) → entries_of p w.lock_list ≡ 0

pub record IsSound (w : World) : Type 0 where
  -- Each party has what its standing says, and the holder of the inner lock is inside a call.
  pub each : (p : ℕ) → HasItsOwn w p (standing_of w p)
  pub uncounted : (p : ℕ) → wait_of w p ≡ uncounted → (w.lock.holder ≡ Some p → ⊥) → entries_of p w.list ≡ 0
  pub holder_inside : (p : ℕ) → w.lock.holder ≡ Some p → is_outside (standing_of w p) ≡ false
  -- A party outside every call has nothing to tell, nor has the holder.
  pub told_before : (p : ℕ) → has_to_tell w p ≡ true → (is_outside (standing_of w p) ≡ false) × (w.lock.holder ≡ Some p → ⊥)
  -- A party that is inside a call is in a poll or a drop, which it could begin.
  pub inside_calls : (p : ℕ) (u : Within) (decided : Option Answer) → standing_of w p ≡ inside u decided → is_long_call u.kind u.was ≡ true
  -- Each counted wait has the number of one arrival, no two the same; and no generation is past the limit.
  pub numbered : (p a : ℕ) → wait_of w p ≡ counted a → (0 < a) × (a ≤ w.arrivals)
  pub one_each : (p q a : ℕ) → wait_of w p ≡ counted a → wait_of w q ≡ counted a → p ≡ q
  pub within : generations_of w.size w.arrivals ≤ w.generations_limit
  pub few_starved : how_many w.lock.starved ≤ w.starved_limit
  -- Whenever nobody holds the inner lock, and a party outside every call waits for it, some entry is marked, or somebody has still to notify or to look.
  pub told_or_due : w.lock.holder ≡ None → (p : ℕ) → is_outside (standing_of w p) ≡ true → 0 < entries_of p w.lock_list → (0 < marked_count w.lock_list) ⊎ ((q : ℕ) × IsDue w q)
  -- Whenever nobody holds the inner lock, each entry of the generations' list is marked whose generation is finished.
  pub told : w.lock.holder ≡ None → (p a : ℕ) → wait_of w p ≡ counted a → IsFinished w.size a w.arrivals → 0 < entries_of p w.list → is_marked_at (is_party p) w.list ≡ true
  -- No party has two entries, in both lists together, and the marked entries stand before the waiting ones.
  pub once : (p : ℕ) → entries_in w p ≤ 1
  pub in_order : (list : ListName) → IsMarkedFirst (list_in list w)
  -- One entry at most is marked in the inner lock's list: one party at a time is told of it.
  pub one_told : marked_count w.lock_list ≤ 1

-- Nobody is inside a call.
abbrev pub is_at_rest : World → Bool
is_at_rest w = list_all is_outside w.standings

-- Some party waits for the inner lock.
abbrev pub IsWanted : World → Type 0
IsWanted w = 0 < length w.lock_list

-- Pending, or pending when it was forgotten.
abbrev pub IsStillThere : Standing → Type 0
IsStillThere s = (s ≡ outside Pending) ⊎ (s ≡ forgotten)

-- At rest nobody holds the inner lock, and no notification is lost: where somebody waits for the lock some entry of its list is marked; each entry of the other list is marked whose generation is finished; each entry belongs to a party that is pending, or was when it was forgotten; and each starved party waits for the lock.
pub record IsAwake (w : World) : Type 0 where
  pub free : w.lock.holder ≡ None
  pub marked : IsWanted w → 0 < marked_count w.lock_list
  pub all_marked : (p a : ℕ) → wait_of w p ≡ counted a → IsFinished w.size a w.arrivals → 0 < entries_of p w.list → is_marked_at (is_party p) w.list ≡ true
  pub counted : (p : ℕ) → 0 < entries_of p w.list → (a : ℕ) × (wait_of w p ≡ counted a)
  pub waiting : (list : ListName) (p : ℕ) → 0 < entries_of p (list_in list w) → IsStillThere (standing_of w p)
  pub starved : (p : ℕ) → is_starved w.lock p ≡ true → 0 < entries_of p w.lock_list
