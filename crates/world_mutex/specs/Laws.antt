-- What always holds of a mutex's World, between any two moves.
use Rattle.std.specs.Prelude.{◌≡◌, ℕ, ◌<◌, ◌≤◌, ◌⊎◌, Bool, true, false, length, Option, Some, None}
use Rattle.std.specs.List.{list_all}
use Rattle.lock_event.specs.Lists.{marked_count, IsMarkedFirst}
use Rattle.world_base.specs.queue.Parties.{entries_of}
use Rattle.world_base.specs.declared.moves.Answer.{Answer}
use Rattle.world_base.specs.declared.standing.Kind.{Kind}
use Rattle.world_base.specs.declared.standing.Kind.TheVariants as kind
use Rattle.world_base.specs.declared.standing.Rest.{Rest}
use Rattle.world_base.specs.declared.standing.Rest.TheVariants.{Idle, Pending, Holding}
use Rattle.world_base.specs.declared.standing.Within.{Within}
use Rattle.world_base.specs.Standings.{Standing, outside, inside, forgotten, is_outside}
use Rattle.world_base.specs.declared.moves.Answer.TheVariants as answer
use Rattle.world_base.specs.Rights.{Right, hold, excludes}
use Rattle.world_base.specs.Rosters.{how_many}
use Rattle.world_mutex.specs.State.{World, standing_of, is_starved}
use Rattle.world_mutex.specs.Legal.{HasItsOwn, is_held}

-- The rights in the state: a mutex knows one, that of its holder.
abbrev pub HasRight : World → ℕ → Right → Type 0
HasRight w p hold = w.state.holder ≡ Some p
HasRight w p _ = ⊥

-- The calls of a mutex that may take more than one step: a poll of an idle or pending party, and a drop of a pending party or of the holder.
abbrev pub is_long_call : Kind → Rest → Bool
is_long_call kind.FirstPoll Idle = true
is_long_call kind.LaterPoll Pending = true
is_long_call kind.Drop Pending = true
is_long_call kind.Drop Holding = true
is_long_call _ _ = false

-- Whether a party that stands so has still to notify, or to look at the lock: one in a poll that isn't decided or is to be refused, and who has given the lock back.
abbrev pub is_due : Standing → Bool
is_due (inside within None) = true
is_due (inside within (Some (answer.Refused n))) = true
is_due (inside within (Some answer.GivenBack)) = is_held within.was
is_due s = false

-- Such a party; and unless it is starved it isn't in the list, so that it looks once more before it waits.
pub record IsDue (w : World) (p : ℕ) : Type 0 where
  pub due : is_due (standing_of w p) ≡ true
  pub unlisted : is_starved w.state p ≡ false → entries_of p w.entries ≡ 0

pub record IsSound (w : World) : Type 0 where
  -- Two parties never have rights that exclude each other.
  pub exclusion : (p q : ℕ) (r s : Right) → HasRight w p r → HasRight w q s → excludes r s ≡ true → p ≡ q
  -- Each party has what its standing says.
  pub each : (p : ℕ) → HasItsOwn w p (standing_of w p)
  pub few_starved : how_many w.state.starved ≤ w.limit
  -- A party that is inside a call is in a poll or in a drop, which it could begin.
  pub inside_calls : (p : ℕ) (u : Within) (decided : Option Answer) → standing_of w p ≡ inside u decided → is_long_call u.kind u.was ≡ true
  -- Whenever nobody holds the lock, and a party outside every call waits for it, some entry is marked, or somebody has still to notify or to look.
  pub told_or_due : w.state.holder ≡ None → (p : ℕ) → is_outside (standing_of w p) ≡ true → 0 < entries_of p w.entries → (0 < marked_count w.entries) ⊎ ((q : ℕ) × IsDue w q)
  -- No party stands in the list twice, and the marked entries stand before the waiting ones.
  pub once : (p : ℕ) → entries_of p w.entries ≤ 1
  pub in_order : IsMarkedFirst w.entries
  -- One entry at most is marked: a mutex wakes one party at a time.
  pub one_told : marked_count w.entries ≤ 1

-- Nobody is inside a call.
abbrev pub is_at_rest : World → Bool
is_at_rest w = list_all is_outside w.standings

-- The lock is free, and some party waits for it in the list.
abbrev pub IsFreeAndWanted : World → Type 0
IsFreeAndWanted w = (w.state.holder ≡ None) × (0 < length w.entries)

-- At rest no notification is lost: if the lock is free and wanted then some entry is marked; each entry belongs to a party that is pending, or was when it was forgotten; and each starved party has an entry.
pub record IsAwake (w : World) : Type 0 where
  pub marked : IsFreeAndWanted w → 0 < marked_count w.entries
  pub pending : (p : ℕ) → 0 < entries_of p w.entries → (standing_of w p ≡ outside Pending) ⊎ (standing_of w p ≡ forgotten)
  pub starved : (p : ℕ) → is_starved w.state p ≡ true → 0 < entries_of p w.entries
