-- What one move may do to a once-cell, and how it may be answered.
use Rattle.std.specs.Prelude.{◌≡◌, ◌≢◌, ℕ, ◌<◌, ◌||◌, ◌⊎◌, Bool, true, false, length, Option, Some, None}
use Rattle.lock_event.specs.declared.event.Mark.TheVariants.{Waiting}
use Rattle.lock_event.specs.Lists.{mark_at, marked_count}
use Rattle.world_base.specs.queue.Parties.{is_party, entries_of}
use Rattle.world_base.specs.declared.moves.Answer.{Answer}
use Rattle.world_base.specs.declared.moves.Answer.TheVariants as answer
use Rattle.world_base.specs.declared.moves.Got.{Got}
use Rattle.world_base.specs.declared.moves.Got.TheVariants as got
use Rattle.world_base.specs.declared.moves.Made.TheVariants as made
use Rattle.world_base.specs.declared.moves.Move.{Move}
use Rattle.lock_program.specs.declared.refusal.Refusal.{Refusal}
use Rattle.lock_program.specs.declared.refusal.Refusal.TheVariants as refusal
use Rattle.world_base.specs.declared.standing.Kind.TheVariants as kind
use Rattle.world_base.specs.declared.standing.Rest.TheVariants.{Idle, Pending, Holding, Finished}
use Rattle.world_base.specs.declared.standing.Within.{Within}
use Rattle.world_base.specs.Standings.{Standing, outside, inside, inputs_of, is_decided, is_possible, refused, decision}
use Rattle.world_base.specs.Frame as frame
use Rattle.world_base.specs.Frame.{is_drop, is_giving_back, is_refusal}
use Rattle.world_base.specs.Steps.{Effect, nothing, changes, does, joins, asks, leaves, notifies, notifies_additionally, is_parting}
use Rattle.sync_program.specs.declared.once_cell.ListName.{ListName}
use Rattle.sync_program.specs.declared.once_cell.ListName.TheVariants.{Active}
use Rattle.world_once_cell.specs.declared.program.words.Content.TheVariants.{Empty, BeingMade, Full}
use Rattle.world_once_cell.specs.machine.Seats.{Task, no_task, initializes, sets, fills_with, failed}
use Rattle.world_once_cell.specs.program.Effects.{Change, begins, fills, empties, content_after, active_after, passive_after, everyone}
use Rattle.world_once_cell.specs.machine.Machine.{knows, is_maker}
use Rattle.world_once_cell.specs.State.{World, list_in, standing_of, task_of, is_full}
use Rattle.world_once_cell.specs.Tasks.{task_in, task_then, makes, list_for, given, is_open}

-- The call that a move belongs to, where its party may make it.
abbrev pub call_of : World → Move → Option Within
call_of = frame.call_of standing_of (λ w p. knows)

-- The step from old to new decides its party's call on this answer.
abbrev pub DecidesOn : World → Move → Answer → World → Answer → Type 0
DecidesOn = frame.DecidesOn standing_of

-- ---- Which moves are possible

abbrev pub IsPossible : World → Move → Answer → World → Type 0
IsPossible = frame.IsPossible standing_of (λ w p. knows)

-- ---- What changes

-- Once its call is decided, a party only gives back: the making, its entry, notifications; and a try fills the cell.
abbrev pub gives_something_back : Effect Change ListName → Bool
gives_something_back nothing = true
gives_something_back (changes begins) = false
gives_something_back (changes _) = true
gives_something_back (does list f) = is_parting f

-- What gives something up: the making, with no value, or a place in a list without asking there.
abbrev pub gives_up : Effect Change ListName → Bool
gives_up (changes empties) = true
gives_up (does list leaves) = true
gives_up _ = false

-- The party's future waits in this list.
abbrev pub IsItsList : World → Move → ListName → Type 0
IsItsList w m list = list_for (task_of w m.party) ≡ Some list

-- Whom a party tells, by what its call is decided on: one that would make, where its maker failed or it is dropped; and one that waits as it did, where it is refused.
abbrev pub MayTell : World → Move → ListName → Standing → Type 0
MayTell w m list (inside within (Some (answer.Ready got.Failed))) = list ≡ Active
MayTell w m list (inside within (Some answer.GivenBack)) = list ≡ Active
MayTell w m list (inside within (Some (answer.Refused n))) = IsItsList w m list
MayTell w m list s = ⊥

-- Where a change may be made. Making begins only in an empty cell, by a party that may make. It ends only by its maker: by the value that the maker gave, which enters; or with no value, where the maker failed or is dropped. A party joins, asks in and leaves its own list only, and who makes neither joins nor asks. One notifies one at a time, whom one may tell; but who has filled the cell notifies all.
abbrev pub IsAllowed : World → Move → Effect Change ListName → Type 0
IsAllowed w m (changes begins) = (w.cell ≡ Empty) × (makes (task_then m.what (task_of w m.party)) ≡ true)
IsAllowed w m (changes (fills v)) = (w.cell ≡ BeingMade m.party) × (task_of w m.party ≡ fills_with v)
IsAllowed w m (changes empties) = (w.cell ≡ BeingMade m.party) × ((is_drop m.what ≡ true) ⊎ (task_of w m.party ≡ failed))
IsAllowed w m (does list joins) = IsItsList w m list × (is_maker w.cell m.party ≡ false)
IsAllowed w m (does list asks) = IsItsList w m list × (is_maker w.cell m.party ≡ false)
IsAllowed w m (does list leaves) = IsItsList w m list
IsAllowed w m (does list (notifies n)) = (n ≡ 1) × MayTell w m list (standing_of w m.party)
IsAllowed w m (does list (notifies_additionally n)) = (v : ℕ) × (n ≡ everyone) × (w.cell ≡ Full v) × (task_of w m.party ≡ fills_with v)
IsAllowed w m nothing = Unit {0}

-- A move makes one change of the cell or does one list function, never both, and moves no other party. A join has found memory; a party whose call is decided only gives back, and no other gives anything up but the maker.
pub record ChangesOneThing (old : World) (m : Move) (new : World) : Type 0 where
  pub effect : Effect Change ListName
  pub allowed : IsAllowed old m effect
  pub cell : new.cell ≡ content_after m.party effect old.cell
  pub active : new.active ≡ active_after m.party effect old.active
  pub passive : new.passive ≡ passive_after m.party effect old.passive
  pub others : (q : ℕ) → q ≢ m.party → standing_of new q ≡ standing_of old q
  pub parties : length new.standings ≡ length old.standings
  pub found_memory : (list : ListName) → effect ≡ does list joins → (inputs_of m.what).memory ≡ true
  pub parting : is_decided (standing_of old m.party) || is_giving_back m.what ≡ true → gives_something_back effect ≡ true
  pub giving_up : gives_up effect ≡ true → (is_decided (standing_of old m.party) || is_giving_back m.what) || is_maker old.cell m.party ≡ true

-- What a future is for stays what its first call said, while it lasts; only the maker's step, whose party makes the cell's value, puts in its place what the maker gave by the move's input.
pub record KnowsTask (old : World) (m : Move) (a : Answer) (new : World) : Type 0 where
  pub begun : (t : Task) → task_in m.what ≡ Some t → is_possible a ≡ true → is_open (standing_of new m.party) ≡ true → task_of new m.party ≡ t
  pub going : task_in m.what ≡ None → is_possible a ≡ true → is_open (standing_of new m.party) ≡ true
      → (task_of new m.party ≡ task_of old m.party) ⊎ ((old.cell ≡ BeingMade m.party) × (new.cell ≡ old.cell) × (task_of new m.party ≡ given (task_of old m.party) (inputs_of m.what).made))
  pub others : (q : ℕ) → q ≢ m.party → task_of new q ≡ task_of old q

-- ---- What an answer says, where its call is decided

-- Ready carries the value that is then in the cell; for a set that found the cell full, the very value handed in; or it says that this party's maker failed, by which the making has just ended.
abbrev pub Carried : Got → World → Move → World → Type 0
Carried (got.Value v) old m new = (new.cell ≡ Full v) × ((own : ℕ) → task_then m.what (task_of old m.party) ≢ sets own)
Carried (got.Taken own) old m new = (is_full old.cell ≡ true) × (task_then m.what (task_of old m.party) ≡ sets own)
Carried got.Failed old m new = (old.cell ≡ BeingMade m.party) × (new.cell ≡ Empty) × (task_of old m.party ≡ failed)
Carried _ old m new = ⊥

-- A try is granted where it found the cell empty, and has begun to make.
pub record IsGranted (g : Got) (old : World) (m : Move) (new : World) : Type 0 where
  pub plain : g ≡ got.Plain
  pub empty : old.cell ≡ Empty
  pub begun : new.cell ≡ BeingMade m.party
  pub value : (v : ℕ) × (task_in m.what ≡ Some (fills_with v))

pub record Carries (old : World) (m : Move) (a : Answer) (new : World) : Type 0 where
  pub ready : (g : Got) → DecidesOn old m a new (answer.Ready g) → Carried g old m new
  pub granted : (g : Got) → DecidesOn old m a new (answer.Granted g) → IsGranted g old m new
  -- Whose value enters, its call is to be ready with that value, or granted if it is a try.
  pub filled : (v : ℕ) → old.cell ≡ BeingMade m.party → new.cell ≡ Full v → (decision a (standing_of new m.party) ≡ Some (answer.Ready (got.Value v))) ⊎ (decision a (standing_of new m.party) ≡ Some (answer.Granted got.Plain))
  -- Whose making ends with no value, it is dropped, or to be ready with its failure.
  pub emptied : old.cell ≡ BeingMade m.party → new.cell ≡ Empty → (is_drop m.what ≡ true) ⊎ (decision a (standing_of new m.party) ≡ Some (answer.Ready got.Failed))

-- Pending is the maker, whose input says that it is pending; or whoever waits in the list of its future.
pub record IsPendingMaker (m : Move) (new : World) : Type 0 where
  pub maker : new.cell ≡ BeingMade m.party
  pub task : task_of new m.party ≡ initializes
  pub input : (inputs_of m.what).made ≡ made.Pending

pub record WaitsInList (m : Move) (new : World) : Type 0 where
  pub list : ListName
  pub its : list_for (task_of new m.party) ≡ Some list
  pub waits : mark_at (is_party m.party) (list_in list new) ≡ Some Waiting

-- No call is decided on Pending before that answer.
pub record Waits (m : Move) (a : Answer) (new : World) : Type 0 where
  pub waiting : a ≡ answer.Pending → IsPendingMaker m new ⊎ WaitsInList m new
  pub not_before : (within : Within) → standing_of new m.party ≢ inside within (Some answer.Pending)

-- Why a call of a cell may be refused: a join found no memory, for the move's input said so, by a party that neither is listed nor makes, and nothing else happened; or the future had been ready before.
pub record IsOutOfMemory (old : World) (m : Move) (new : World) : Type 0 where
  pub input : (inputs_of m.what).memory ≡ false
  pub unlisted : (list : ListName) → entries_of m.party (list_in list old) ≡ 0
  pub unmade : is_maker old.cell m.party ≡ false
  pub cell : new.cell ≡ old.cell
  pub active : new.active ≡ old.active
  pub passive : new.passive ≡ old.passive

abbrev pub IsCause : World → Move → World → Refusal → Type 0
IsCause old m new refusal.Memory = IsOutOfMemory old m new
IsCause old m new refusal.Finished = new ≡ old
IsCause old m new _ = ⊥

abbrev pub IsRefusedForCause : World → Move → Answer → World → Type 0
IsRefusedForCause = frame.IsRefusedForCause standing_of IsCause

-- ---- What parties have

-- A party that stands in a list stands in that of its future, and who makes may make and stands in none.
pub record HasByTask (w : World) (p : ℕ) : Type 0 where
  pub lists : (list : ListName) → 0 < entries_of p (list_in list w) → list_for (task_of w p) ≡ Some list
  pub making : is_maker w.cell p ≡ true → makes (task_of w p) ≡ true
  pub alone : is_maker w.cell p ≡ true → (list : ListName) → entries_of p (list_in list w) ≡ 0

-- A party with no future is in no list and doesn't make.
pub record HasNothing (w : World) (p : ℕ) : Type 0 where
  pub lists : (list : ListName) → entries_of p (list_in list w) ≡ 0
  pub making : is_maker w.cell p ≡ false
  pub task : task_of w p ≡ no_task

-- A party is in no list and doesn't make.
pub record IsClear (w : World) (p : ℕ) : Type 0 where
  pub lists : (list : ListName) → entries_of p (list_in list w) ≡ 0
  pub making : is_maker w.cell p ≡ false

-- A try that is to be granted makes the cell's value, or has filled the cell with it.
pub record HasGranted (w : World) (p : ℕ) : Type 0 where
  pub value : ℕ
  pub task : task_of w p ≡ fills_with value
  pub cell : (w.cell ≡ BeingMade p) ⊎ (w.cell ≡ Full value)

-- What a party has by how it stands. A drop and a try are decided at their first step. Once its call is to be ready, the cell is full, with the value that it is to be answered, and a set that has its own back is that set; and whose maker failed, who is dropped and who is to be refused has nothing any more.
abbrev pub HasItsOwn : World → ℕ → Standing → Type 0
HasItsOwn w p (outside Idle) = HasNothing w p
HasItsOwn w p (outside Finished) = HasNothing w p
HasItsOwn w p (outside Pending) = HasByTask w p
HasItsOwn w p (outside Holding) = ⊥
HasItsOwn w p (inside within None) = (within.kind ≢ kind.Drop) × (within.kind ≢ kind.Try)
HasItsOwn w p (inside within (Some (answer.Ready (got.Value v)))) = w.cell ≡ Full v
HasItsOwn w p (inside within (Some (answer.Ready (got.Taken own)))) = (is_full w.cell ≡ true) × (task_of w p ≡ sets own)
HasItsOwn w p (inside within (Some (answer.Ready got.Failed))) = IsClear w p
HasItsOwn w p (inside within (Some (answer.Granted g))) = HasGranted w p
HasItsOwn w p (inside within (Some answer.GivenBack)) = IsClear w p
HasItsOwn w p (inside within (Some (answer.Refused n))) = IsClear w p
HasItsOwn w p _ = Unit {0}

-- Each party has what its standing says; and after a refusal its future is as when it was made, in no list.
pub record LeavesClear (m : Move) (a : Answer) (new : World) : Type 0 where
  pub each : (p : ℕ) → HasItsOwn new p (standing_of new p)
  pub refused : is_refusal a ≡ true → (list : ListName) → entries_of m.party (list_in list new) ≡ 0
  pub refused_maker : is_refusal a ≡ true → is_maker new.cell m.party ≡ false

-- ---- Whom a call tells before it ends

-- Some entry of the list is marked, if there is any.
abbrev pub IsTold : ListName → World → Type 0
IsTold list w = 0 < length (list_in list w) → 0 < marked_count (list_in list w)

-- Whose maker failed, or who is dropped as the maker, has told one that would make when its call ends; and who is refused after it was told has handed that on. Whoever else is inside a call.
pub record TellsOthers (old : World) (m : Move) (a : Answer) (new : World) : Type 0 where
  pub failed : a ≡ answer.Ready got.Failed → IsTold Active new
  pub dropped : (within : Within) → standing_of old m.party ≡ inside within (Some answer.GivenBack) → is_possible a ≡ true → IsTold Active new
  pub refused : (within : Within) (list : ListName) → standing_of old m.party ≡ inside within (Some (refused refusal.Memory)) → is_possible a ≡ true → list_for (task_of old m.party) ≡ Some list → IsTold list new

-- ---- How a call ends

abbrev pub EndsProperly : World → Move → Answer → World → Type 0
EndsProperly = frame.EndsProperly standing_of (λ w p. knows) Finished

-- ---- The legal step

-- From the old World the move may be answered so, and lead to the new World.
pub record Legal (old : World) (m : Move) (a : Answer) (new : World) : Type 0 where
  pub possible : IsPossible old m a new
  pub one_change : ChangesOneThing old m new
  pub knows_task : KnowsTask old m a new
  pub carries : Carries old m a new
  pub waits : Waits m a new
  pub refused_for_cause : IsRefusedForCause old m a new
  pub leaves_clear : LeavesClear m a new
  pub tells_others : TellsOthers old m a new
  pub ends_properly : EndsProperly old m a new
