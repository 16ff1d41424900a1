-- What always holds of a semaphore's World, between any two moves.
use Rattle.std.specs.Prelude.{◌≡◌, ℕ, ◌+◌, ◌<◌, ◌≤◌, ◌⊎◌, Bool, true, false, Option}
use Rattle.std.specs.List.{list_all}
use Rattle.lock_event.specs.Lists.{marked_count}
use Rattle.world_base.specs.queue.Parties.{entries_of}
use Rattle.world_base.specs.declared.moves.Answer.{Answer}
use Rattle.world_base.specs.declared.standing.Kind.{Kind}
use Rattle.world_base.specs.declared.standing.Kind.TheVariants as kind
use Rattle.world_base.specs.declared.standing.Rest.{Rest}
use Rattle.world_base.specs.declared.standing.Rest.TheVariants.{Idle, Pending, Holding}
use Rattle.world_base.specs.declared.standing.Within.{Within}
use Rattle.world_base.specs.Standings.{outside, inside, is_outside}
use Rattle.world_semaphore.specs.machine.Seats.{pays}
use Rattle.world_semaphore.specs.State.{World, held, under_way, available, standing_of, size_of, debt_of}
use Rattle.world_semaphore.specs.Legal.{HasItsOwn}

-- The calls of a semaphore that may take more than one step: a poll, an add, and a drop.
abbrev pub is_long_call : Kind → Rest → Bool
is_long_call kind.FirstPoll Idle = true
is_long_call kind.LaterPoll Pending = true
is_long_call kind.Add Idle = true
is_long_call kind.Drop Holding = true
is_long_call kind.Drop Pending = true
is_long_call _ _ = false

pub record IsSound (w : World) : Type 0 where
  -- The permits that parties have, those under way and those available make up the limit; so no more are had than the limit says.
  pub balanced : available w.state + held w.state + under_way w.state ≡ w.state.limit
  pub limited : w.state.limit ≤ w.most
  pub few_held : held w.state ≤ w.state.limit
  -- Each party has what its standing says.
  pub each : (p : ℕ) → HasItsOwn w p (standing_of w p)
  -- A party that is inside a call is in a poll, an add or a drop, which it could begin.
  pub inside_calls : (p : ℕ) (u : Within) (decided : Option Answer) → standing_of w p ≡ inside u decided → is_long_call u.kind u.was ≡ true
  -- Whenever as many permits are available as a party outside every call waits for, some entry is marked, or somebody owes a look, or to tell of as many.
  pub told_or_due : (p : ℕ) → is_outside (standing_of w p) ≡ true → 0 < entries_of p w.entries → size_of w p ≤ available w.state → (0 < marked_count w.entries) ⊎ ((q : ℕ) × (pays (size_of w p) (debt_of w q) ≡ true))
  -- Whoever stands in the list waits for at least one permit.
  pub some_wanted : (p : ℕ) → 0 < entries_of p w.entries → 0 < size_of w p
  -- No party stands in the list twice, and at most one entry is marked, wherever it stands.
  pub once : (p : ℕ) → entries_of p w.entries ≤ 1
  pub one_marked : marked_count w.entries ≤ 1

-- Nobody is inside a call.
abbrev pub is_at_rest : World → Bool
is_at_rest w = list_all is_outside w.standings

-- As many permits are available as some party waits for in the list.
abbrev pub IsFreeAndWanted : World → Type 0
IsFreeAndWanted w = (p : ℕ) × (0 < entries_of p w.entries) × (size_of w p ≤ available w.state)

-- At rest no notification is lost: if as many permits are available as a listed party waits for then some entry is marked; and each entry belongs to a party that is pending.
pub record IsAwake (w : World) : Type 0 where
  pub marked : IsFreeAndWanted w → 0 < marked_count w.entries
  pub pending : (p : ℕ) → 0 < entries_of p w.entries → standing_of w p ≡ outside Pending
