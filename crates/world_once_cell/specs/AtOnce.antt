-- What the first step of a call decides at once, and the steps that ask a maker and take what it gave.
use Rattle.std.specs.Prelude.{◌≡◌, ℕ, ◌<◌, ◌==◌, ◌&&◌, if◌then◌else◌, Bool, true, false, Some, None}
use Rattle.lock_event.specs.Lists.{is_marked_at}
use Rattle.world_base.specs.queue.Parties.{is_party, entries_of}
use Rattle.world_base.specs.declared.moves.Answer.{Answer}
use Rattle.world_base.specs.declared.moves.Answer.TheVariants as answer
use Rattle.world_base.specs.declared.moves.Call.TheVariants as call
use Rattle.world_base.specs.declared.moves.Got.{Got}
use Rattle.world_base.specs.declared.moves.Got.TheVariants as got
use Rattle.world_base.specs.declared.moves.Made.{Made}
use Rattle.world_base.specs.declared.moves.Made.TheVariants as made
use Rattle.world_base.specs.declared.moves.Move.{Move}
use Rattle.world_base.specs.declared.moves.What.{What}
use Rattle.world_base.specs.declared.moves.What.TheVariants.{Begin}
use Rattle.world_base.specs.declared.standing.Rest.TheVariants.{Idle, Pending, Finished}
use Rattle.world_base.specs.declared.standing.Within.{Within}
use Rattle.world_base.specs.Frame.{is_drop}
use Rattle.world_base.specs.Steps.{asks, list_after}
use Rattle.world_base.specs.Standings.{Standing, outside, inside, inputs_of, is_possible, is_stepped, decision}
use Rattle.sync_program.specs.declared.once_cell.ListName.{ListName}
use Rattle.world_once_cell.specs.declared.program.words.Content.{Content}
use Rattle.world_once_cell.specs.declared.program.words.Content.TheVariants.{Empty, BeingMade, Full}
use Rattle.world_once_cell.specs.machine.Seats.{Task, initializes, sets, waits_only, fills_with}
use Rattle.world_once_cell.specs.machine.Seats as seats
use Rattle.world_once_cell.specs.machine.Machine.{is_maker}
use Rattle.world_once_cell.specs.State.{World, list_in, is_empty, standing_of, task_of}
use Rattle.world_once_cell.specs.Tasks.{task_then, given}

abbrev pub is_try : What → Bool
is_try (Begin (call.TrySet v) inputs) = true
is_try _ = false

abbrev pub is_poll : What → Bool
is_poll (Begin call.Poll inputs) = true
is_poll _ = false

-- One of those that would make: an initialisation or a set.
abbrev pub would_make : Task → Bool
would_make initializes = true
would_make (sets v) = true
would_make _ = false

-- The first poll of an initialisation or a set, or one after a refusal that left it as when it was made: then it has no entry and doesn't make.
abbrev pub is_first_making : Standing → What → Task → ℕ → Bool → Bool
is_first_making (outside Idle) (Begin call.Initialize inputs) t n making = true
is_first_making (outside Idle) (Begin (call.Set v) inputs) t n making = true
is_first_making (outside Finished) (Begin call.Initialize inputs) t n making = true
is_first_making (outside Finished) (Begin (call.Set v) inputs) t n making = true
is_first_making (outside Pending) (Begin call.Poll inputs) t n making = would_make t && ((n == 0) && (if making then false else true))
is_first_making s _ t n making = false

-- The first poll of a wait, or one after a refusal.
abbrev pub waits_for : Task → Bool
waits_for waits_only = true
waits_for _ = false

abbrev pub is_first_wait : Standing → What → Task → ℕ → Bool
is_first_wait (outside Idle) (Begin call.Wait inputs) t n = true
is_first_wait (outside Finished) (Begin call.Wait inputs) t n = true
is_first_wait (outside Pending) (Begin call.Poll inputs) t n = waits_for t && (n == 0)
is_first_wait s _ t n = false

-- What a future is ready with that finds this value in the cell: a set has its own back.
abbrev pub got_by : Task → ℕ → Got
got_by (sets own) v = got.Taken own
got_by t v = got.Value v

-- How the first poll of a future with this task is answered by what is in the cell: at once where it is full.
abbrev pub first_answer : Task → Content → Answer
first_answer t (Full v) = answer.Ready (got_by t v)
first_answer t Empty = answer.Stepped
first_answer t (BeingMade q) = answer.Stepped

-- How the poll of the maker is answered: Pending if its input says so, and a set's never.
abbrev pub maker_answer : Task → Made → Answer
maker_answer initializes made.Pending = answer.Pending
maker_answer t m = answer.Stepped

-- The step leaves both lists as they are.
pub record KeepsLists (old new : World) : Type 0 where
  pub active : new.active ≡ old.active
  pub passive : new.passive ≡ old.passive

-- A try begins to make exactly on an empty cell, and then is to be granted; else it answers None.
pub record TriesAtOnce (old : World) (m : Move) (a : Answer) (new : World) : Type 0 where
  pub answered : a ≡ (if is_empty old.cell then answer.Stepped else answer.None)
  pub begins : is_maker new.cell m.party ≡ is_empty old.cell
  pub lists : KeepsLists old new
  pub granted : is_empty old.cell ≡ true → decision a (standing_of new m.party) ≡ Some (answer.Granted got.Plain)

-- The first step of a first initialisation or set begins to make exactly on an empty cell, and is ready on a full one.
pub record MakesAtOnce (old : World) (m : Move) (a : Answer) (new : World) : Type 0 where
  pub answered : a ≡ first_answer (task_then m.what (task_of old m.party)) old.cell
  pub begins : is_maker new.cell m.party ≡ is_empty old.cell
  pub lists : KeepsLists old new

-- The first step of a first wait is ready exactly on a full cell, and joins no list before it has looked.
pub record WaitsAtOnce (old : World) (a : Answer) (new : World) : Type 0 where
  pub answered : a ≡ first_answer waits_only old.cell
  pub lists : KeepsLists old new

-- The party that makes asks its maker, and the cell and the lists stay as they are.
pub record PollsMaker (old : World) (m : Move) (a : Answer) (new : World) : Type 0 where
  pub answered : a ≡ maker_answer (task_of old m.party) (inputs_of m.what).made
  pub task : task_of new m.party ≡ given (task_of old m.party) (inputs_of m.what).made
  pub cell : new.cell ≡ old.cell
  pub lists : KeepsLists old new

-- A dropped maker leaves the cell empty at its first step, and goes on, to notify.
pub record DropsMaker (a : Answer) (new : World) : Type 0 where
  pub empty : new.cell ≡ Empty
  pub goes_on : a ≡ answer.Stepped

-- The poll of a listed party goes on exactly where it was told, and its entry is gone; else it is pending still.
pub record AsksAtOnce (old : World) (m : Move) (a : Answer) (new : World) (list : ListName) : Type 0 where
  pub answered : a ≡ (if is_marked_at (is_party m.party) (list_in list old) then answer.Stepped else answer.Pending)
  pub asked : list_in list new ≡ list_after m.party asks (list_in list old)

pub record AnswersAtOnce (old : World) (m : Move) (a : Answer) (new : World) : Type 0 where
  pub tried : is_try m.what ≡ true → is_possible a ≡ true → TriesAtOnce old m a new
  pub making : is_first_making (standing_of old m.party) m.what (task_of old m.party) (entries_of m.party old.active) (is_maker old.cell m.party) ≡ true → MakesAtOnce old m a new
  pub waiting : is_first_wait (standing_of old m.party) m.what (task_of old m.party) (entries_of m.party old.passive) ≡ true → WaitsAtOnce old a new
  pub maker : is_poll m.what ≡ true → standing_of old m.party ≡ outside Pending → is_maker old.cell m.party ≡ true → PollsMaker old m a new
  pub dropped : is_drop m.what ≡ true → is_possible a ≡ true → is_maker old.cell m.party ≡ true → DropsMaker a new
  -- Any other drop is over at once.
  pub gone : is_drop m.what ≡ true → is_possible a ≡ true → is_maker old.cell m.party ≡ false → a ≡ answer.GivenBack
  -- The maker is asked too at the next step of a call in which its party has begun to make, once that stands in no list.
  pub asked : (within : Within) → standing_of old m.party ≡ inside within None → is_possible a ≡ true → is_maker old.cell m.party ≡ true → would_make (task_of old m.party) ≡ true → entries_of m.party old.active ≡ 0 → PollsMaker old m a new
  -- What the maker gave enters at its party's next step, and its failure empties the cell.
  pub filled : (v : ℕ) → is_possible a ≡ true → is_maker old.cell m.party ≡ true → task_of old m.party ≡ fills_with v → new.cell ≡ Full v
  pub failed : is_possible a ≡ true → is_maker old.cell m.party ≡ true → task_of old m.party ≡ seats.failed → new.cell ≡ Empty
  -- Once the call of a party whose value entered ends, each entry of those that only wait is marked, whoever else is inside a call.
  pub told_all : (v : ℕ) → is_possible a ≡ true → is_stepped a ≡ false → task_of old m.party ≡ fills_with v → (q : ℕ) → 0 < entries_of q new.passive → is_marked_at (is_party q) new.passive ≡ true
  pub listed : is_poll m.what ≡ true → standing_of old m.party ≡ outside Pending → (list : ListName) → 0 < entries_of m.party (list_in list old) → AsksAtOnce old m a new list
