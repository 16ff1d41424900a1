-- What whole calls promise, and how often an empty cell may be passed over: whole polls of notified parties, one after the other, each carried out while the others stand still.
use Rattle.std.specs.Prelude.{◌≡◌, ℕ, ◌<◌, true, length}
use Rattle.lock_event.specs.Lists.{marked_count, is_marked_at}
use Rattle.world_base.specs.queue.Parties.{is_party, entries_of}
use Rattle.world_base.specs.declared.moves.Answer.{Answer}
use Rattle.world_base.specs.declared.moves.Answer.TheVariants as answer
use Rattle.world_base.specs.declared.moves.Call.{Call}
use Rattle.world_base.specs.declared.moves.Call.TheVariants as call
use Rattle.world_base.specs.declared.moves.Got.TheVariants as got
use Rattle.world_base.specs.declared.moves.Inputs.{Inputs}
use Rattle.world_base.specs.declared.moves.What.TheVariants.{Begin}
use Rattle.world_base.specs.declared.standing.Rest.TheVariants.{Pending}
use Rattle.world_base.specs.Standings.{outside}
use Rattle.world_base.specs.Frame.{is_refusal}
use Rattle.world_base.specs.Bounds as bounds
use Rattle.sync_program.specs.declared.once_cell.ListName.{ListName}
use Rattle.world_once_cell.specs.declared.program.words.Content.TheVariants.{Empty, BeingMade, Full}
use Rattle.world_once_cell.specs.machine.Seats.{Task, no_task, fills_with, failed}
use Rattle.world_once_cell.specs.machine.Machine.{is_maker}
use Rattle.world_once_cell.specs.State.{World, list_in, standing_of, task_of}
use Rattle.world_once_cell.specs.Tasks.{task_then, given}
use Rattle.world_once_cell.specs.AtOnce.{is_first_making, got_by}
use Rattle.world_once_cell.specs.Whole.{IsWholeCall}

-- A solo poll is of a pending party whose entry in `active` is marked, and it finds memory.
abbrev pub IsSolo : World → ℕ → Inputs → Type 0
IsSolo w p inputs = bounds.IsSolo (standing_of w p) w.active p inputs

-- The cell is empty, and some entry of those that would make is marked, if there is any.
pub record LeavesEmpty (v : World) : Type 0 where
  pub empty : v.cell ≡ Empty
  pub notified : 0 < length v.active → 0 < marked_count v.active

-- What a party that makes comes to, by what its maker gave: a value, which is then in the cell; a failure; nothing yet, and it goes on making. With no task any more it was dropped.
abbrev pub ComesTo : Task → ℕ → Answer → World → Type 0
ComesTo (fills_with x) p a v = (a ≡ answer.Ready (got.Value x)) × (v.cell ≡ Full x)
ComesTo failed p a v = (a ≡ answer.Ready got.Failed) × LeavesEmpty v
ComesTo no_task p a v = (a ≡ answer.GivenBack) × LeavesEmpty v
ComesTo t p a v = (a ≡ answer.Pending) × (v.cell ≡ BeingMade p)

-- The poll took the making: its party comes to what its maker gives.
abbrev pub Takes : World → ℕ → Inputs → Answer → World → Type 0
Takes w p inputs a v = ComesTo (given (task_of w p) inputs.made) p a v

-- What a whole call promises beside its end.
pub record Promises (w : World) (p : ℕ) (c : Call) (inputs : Inputs) (a : Answer) (v : World) : Type 0 where
  -- The first poll of an initialisation or a set makes where the cell is empty.
  pub first : is_first_making (standing_of w p) (Begin c inputs) (task_of w p) (entries_of p w.active) (is_maker w.cell p) ≡ true → w.cell ≡ Empty → ComesTo (given (task_then (Begin c inputs) (task_of w p)) inputs.made) p a v
  -- So does the poll of a party that was told to make, whether it finds memory or not, and the poll of the party that makes.
  pub solo : c ≡ call.Poll → standing_of w p ≡ outside Pending → is_marked_at (is_party p) w.active ≡ true → w.cell ≡ Empty → Takes w p inputs a v
  pub maker : c ≡ call.Poll → standing_of w p ≡ outside Pending → is_maker w.cell p ≡ true → Takes w p inputs a v
  -- A dropped maker leaves the cell empty, and one that waits notified.
  pub dropped : c ≡ call.Drop → standing_of w p ≡ outside Pending → is_maker w.cell p ≡ true → ComesTo no_task p a v
  -- On a full cell the poll of a party that was told is ready, whether it finds memory or not.
  pub full : c ≡ call.Poll → standing_of w p ≡ outside Pending → (list : ListName) (x : ℕ) → is_marked_at (is_party p) (list_in list w) ≡ true → w.cell ≡ Full x → a ≡ answer.Ready (got_by (task_of w p) x)
  -- A refused poll of a party that stood in a list hands on what it was told: some entry there is marked, if there is any.
  pub hands_on : c ≡ call.Poll → standing_of w p ≡ outside Pending → (list : ListName) → 0 < entries_of p (list_in list w) → is_refusal a ≡ true → 0 < length (list_in list v) → 0 < marked_count (list_in list v)

-- A whole solo poll, where the cell is empty, that doesn't take the making.
pub record PassesOver (w : World) (p : ℕ) (inputs : Inputs) (a : Answer) (v : World) : Type 0 where
  pub solo : IsSolo w p inputs
  pub free : w.cell ≡ Empty
  pub whole : IsWholeCall w p call.Poll inputs a v
  pub not_taken : Takes w p inputs a v → ⊥

-- What holds at rest where somebody waits to make the value of an empty cell: some entry is marked, of a party that is pending or forgotten; and fewer solo polls in turn pass the cell over than the list has entries: the first one takes it.
pub record IsBounded (w : World) : Type 0 where
  pub some_marked : bounds.SomeMarked (standing_of w) w.active
  pub one_takes : bounds.OneTakes PassesOver (λ v. v.active) w
