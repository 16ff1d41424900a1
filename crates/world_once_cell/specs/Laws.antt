-- What always holds of a once-cell's World, between any two moves.
use Rattle.std.specs.Prelude.{◌≡◌, ◌≢◌, ℕ, ◌+◌, ◌<◌, ◌≤◌, ◌⊎◌, Bool, true, false, length, Option, Some, None}
use Rattle.std.specs.List.{list_all}
use Rattle.lock_event.specs.Lists.{marked_count, is_marked_at, IsMarkedFirst}
use Rattle.world_base.specs.queue.Parties.{is_party, entries_of}
use Rattle.world_base.specs.declared.moves.Answer.{Answer}
use Rattle.world_base.specs.declared.moves.Answer.TheVariants as answer
use Rattle.world_base.specs.declared.moves.Got.TheVariants as got
use Rattle.world_base.specs.declared.standing.Kind.{Kind}
use Rattle.world_base.specs.declared.standing.Kind.TheVariants as kind
use Rattle.world_base.specs.declared.standing.Rest.{Rest}
use Rattle.world_base.specs.declared.standing.Rest.TheVariants.{Idle, Pending, Finished}
use Rattle.world_base.specs.declared.standing.Within.{Within}
use Rattle.world_base.specs.Standings.{Standing, outside, inside, forgotten, is_outside}
use Rattle.sync_program.specs.declared.once_cell.ListName.{ListName}
use Rattle.world_once_cell.specs.declared.program.words.Content.TheVariants.{Empty, BeingMade, Full}
use Rattle.world_once_cell.specs.machine.Seats.{Task, fills_with}
use Rattle.world_once_cell.specs.machine.Machine.{is_maker}
use Rattle.world_once_cell.specs.State.{World, list_in, standing_of, task_of, HasOneTeller}
use Rattle.world_once_cell.specs.AtOnce.{would_make}
use Rattle.world_once_cell.specs.Legal.{HasItsOwn}

-- The calls of a cell that may take more than one step: a poll, a try, and the drop of a pending future.
abbrev pub is_long_call : Kind → Rest → Bool
is_long_call kind.FirstPoll Idle = true
is_long_call kind.FirstPoll Finished = true
is_long_call kind.LaterPoll Pending = true
is_long_call kind.Try Idle = true
is_long_call kind.Try Finished = true
is_long_call kind.Drop Pending = true
is_long_call _ _ = false

-- Who may be the maker: a party that is pending, inside a call, or forgotten.
abbrev pub may_be_maker : Standing → Bool
may_be_maker (outside Pending) = true
may_be_maker (inside within decided) = true
may_be_maker forgotten = true
may_be_maker _ = false

-- Whether a party that stands so, with this task, has still to tell one of those that would make, or to look at the cell itself: one that would make in a poll that isn't decided, or whoever has just made the cell empty.
abbrev pub is_due : Standing → Task → Bool
is_due (inside within None) t = would_make t
is_due (inside within (Some (answer.Ready got.Failed))) t = true
is_due (inside within (Some answer.GivenBack)) t = true
is_due s t = false

-- Such a party, in no list of those that would make.
pub record IsDue (w : World) (p : ℕ) : Type 0 where
  pub due : is_due (standing_of w p) (task_of w p) ≡ true
  pub unlisted : entries_of p w.active ≡ 0

pub record IsSound (w : World) : Type 0 where
  -- Each party has what its standing says.
  pub each : (p : ℕ) → HasItsOwn w p (standing_of w p)
  pub maker : (p : ℕ) → is_maker w.cell p ≡ true → may_be_maker (standing_of w p) ≡ true
  -- Who makes, and who has an entry, is a party of this World.
  pub maker_there : (p : ℕ) → is_maker w.cell p ≡ true → p < length w.standings
  pub listed_there : (list : ListName) (p : ℕ) → 0 < entries_of p (list_in list w) → p < length w.standings
  -- A party that is inside a call is in a poll, a try or a drop, which it could begin.
  pub inside_calls : (p : ℕ) (u : Within) (decided : Option Answer) → standing_of w p ≡ inside u decided → is_long_call u.kind u.was ≡ true
  -- Whenever the cell is empty, and a party outside every call waits to make its value, some entry there is marked, or somebody has still to tell one or to look.
  pub told_or_due : w.cell ≡ Empty → (p : ℕ) → is_outside (standing_of w p) ≡ true → 0 < entries_of p w.active → (0 < marked_count w.active) ⊎ ((q : ℕ) × IsDue w q)
  -- Two parties never fill the cell, nor is one about to fill it while another has still to tell that it did.
  pub one_teller : HasOneTeller w
  -- Whenever the cell is full, and nobody who filled it has still to tell, each entry of a party outside every call is marked.
  pub told : (v : ℕ) → w.cell ≡ Full v → ((q n : ℕ) → task_of w q ≢ fills_with n) → (list : ListName) (p : ℕ) → is_outside (standing_of w p) ≡ true → 0 < entries_of p (list_in list w) → is_marked_at (is_party p) (list_in list w) ≡ true
  -- No party has two entries, in both lists together, and the marked entries stand before the waiting ones.
  pub once : (p : ℕ) → entries_of p w.active + entries_of p w.passive ≤ 1
  pub active_in_order : IsMarkedFirst w.active
  pub passive_in_order : IsMarkedFirst w.passive

-- Nobody is inside a call.
abbrev pub is_at_rest : World → Bool
is_at_rest w = list_all is_outside w.standings

-- The cell is empty, and some party waits to make its value.
abbrev pub IsFreeAndWanted : World → Type 0
IsFreeAndWanted w = (w.cell ≡ Empty) × (0 < length w.active)

-- Pending, or pending when it was forgotten.
abbrev pub IsStillThere : Standing → Type 0
IsStillThere s = (s ≡ outside Pending) ⊎ (s ≡ forgotten)

-- At rest no notification is lost: if the cell is empty and its making is wanted then some entry of those that would make is marked; if it is full, every entry of both lists is; each entry belongs to a party that is pending, or was when it was forgotten, and so does the making.
pub record IsAwake (w : World) : Type 0 where
  pub marked : IsFreeAndWanted w → 0 < marked_count w.active
  pub all_marked : (v : ℕ) → w.cell ≡ Full v → (list : ListName) (p : ℕ) → 0 < entries_of p (list_in list w) → is_marked_at (is_party p) (list_in list w) ≡ true
  pub waiting : (list : ListName) (p : ℕ) → 0 < entries_of p (list_in list w) → IsStillThere (standing_of w p)
  pub making : (p : ℕ) → w.cell ≡ BeingMade p → IsStillThere (standing_of w p)
