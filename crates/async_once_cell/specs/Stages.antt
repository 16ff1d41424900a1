-- What contracts see of a cell's future, and what a poll of it answers.
use Rattle.std.specs.Prelude.{◌≡◌, ℕ, ⊤, Bool, true, false, Option, Some, None, IfSome, IsSomeAnd, is_none, Result, Ok, Err}
use Rattle.async_once_cell.specs.declared.task.Answer.{Answer}
use Rattle.async_once_cell.specs.declared.task.Answer.TheVariants as answer
use Rattle.async_once_cell.specs.declared.task.Party.{Party}
use Rattle.async_once_cell.specs.declared.task.Party.TheVariants as parties
use Rattle.async_once_cell.specs.declared.task.Stage.{Stage}
use Rattle.cell_core.specs.Cells.{Cell, HasFound, IsOf, IsSameSeat, Seated}
use Rattle.cell_core.specs.Outcomes.{RestsAt, RestsSo, seat_in}
use Rattle.cell_core.specs.Purposes.{IsSetting, OnSets}
use Rattle.lock_queue.specs.Receipts as receipts
use Rattle.cell_core.specs.declared.maker.Purpose.{Purpose}
use Rattle.cell_core.specs.declared.maker.Purpose.TheVariants.{Makes, Sets}
use Rattle.cell_core.specs.declared.turn.Resting.{Resting}
use Rattle.cell_core.specs.declared.turn.Resting.TheVariants as rests
use Rattle.cell_core.specs.declared.turn.Waiting.{Waiting}
use Rattle.lock_queue.specs.declared.whose.Whose.{Whose}
use Rattle.futures.specs.Task.{Covers}
use Rattle.futures.specs.declared.task.context.Context.{Context}
use Rattle.lock_program.specs.declared.refusal.Refusal.TheVariants.{Finished, Memory}

-- an entry in one of a cell's lists: the seat whose it is, and whose waker it keeps
pub record Listed : Type 0 where
  pub seat : Seated
  pub keeps : Whose

-- The receipt of one that waits to make, or for the value: an entry in the cell's list of those, which keeps a waker of the task that the context
-- polls; and the task has registered with the cell's source.
abbrev pub HasReceiptActive : Cell → Context → Option Listed → Type 0
HasReceiptActive cell cx entry = IsSomeAnd entry (λ e. IsOf cell e.seat × (e.seat.in_active ≡ true) × receipts.IsWakerFor cx e.keeps) × Covers cx (λ s. s ≡ cell.source)

abbrev pub HasReceiptPassive : Cell → Context → Option Listed → Type 0
HasReceiptPassive cell cx entry = IsSomeAnd entry (λ e. IsOf cell e.seat × (e.seat.in_passive ≡ true) × receipts.IsWakerFor cx e.keeps) × Covers cx (λ s. s ≡ cell.source)

-- a future that has a maker: its cell, whether it was ready before, its entry in the cell's list of those that would make the value, the seat by which it
-- waits or makes, the one by which it has come to its end, and its maker until it is ready
pub record Future (C M : Type 0) : Type 0 where
  pub cell : C
  pub is_over : Bool
  pub entry : Option Listed
  pub seat : Option Seated
  pub ended : Option Seated
  pub maker : Option M

-- a future that was never polled
abbrev pub new_future : {C M : Type 0} → C → M → Future C M
new_future cell maker = record { cell = cell; is_over = false; entry = None; seat = None; ended = None; maker = Some maker }

-- how far that is
abbrev pub fresh_stage : {M : Type 0} → M → Stage M
fresh_stage maker = record { maker = Some maker; party = parties.Out }

abbrev pub is_over_in : {M : Type 0} → Stage M → Bool
is_over_in stage = is_none stage.maker

abbrev pub maker_in : {M : Type 0} → Stage M → Option M
maker_in stage = stage.maker

-- its entry, while its party waits
abbrev pub entry_of : Option Resting → Option Listed
entry_of (Some (rests.Waits w)) = Some (record { seat = w.seat; keeps = w.whose })
entry_of _ = None

-- what rests of its party, and the seat by which that has come to its end
abbrev pub resting_in : Party → Option Resting
resting_in parties.Out = None
resting_in (parties.Rests r) = Some r
resting_in (parties.Ended e) = None

abbrev pub ended_in : Party → Option Seated
ended_in parties.Out = None
ended_in (parties.Rests r) = None
ended_in (parties.Ended e) = Some e

-- by which seat its party waits or makes
abbrev pub resting_seat : Option Resting → Option Seated
resting_seat None = None
resting_seat (Some r) = Some (seat_in r)

abbrev pub passive_of : Option Waiting → Option Listed
passive_of None = None
passive_of (Some w) = Some (record { seat = w.seat; keeps = w.whose })

abbrev pub future : {C M : Type 0} → C → Stage M → Future C M
future cell stage = record { cell = cell; is_over = is_over_in stage; entry = entry_of (resting_in stage.party); seat = resting_seat (resting_in stage.party); ended = ended_in stage.party; maker = stage.maker }

-- what a future keeps between its polls: a maker that was never polled, or one whose party waits, until it was ready
abbrev pub KeptBy : {M : Type 0} → Purpose → (M → Type 0) → Cell → Option M → Option Resting → Type 0
KeptBy u new cell None None = ⊤
KeptBy u new cell None (Some r) = ⊥
KeptBy u new cell (Some m) None = new m
KeptBy u new cell (Some m) (Some r) = RestsSo u new cell m r

abbrev pub KeepsStage : {M : Type 0} → Purpose → (M → Type 0) → Cell → Stage M → Type 0
KeepsStage u new cell stage = KeptBy u new cell stage.maker (resting_in stage.party)

-- Its first look found the cell full, before its party had a seat: it is over.
abbrev pub IsFound : {M : Type 0} → Stage M → Stage M → Type 0
IsFound old new = (is_over_in old ≡ false) × (old.party ≡ parties.Out) × (new ≡ record old { maker = None })

-- what its drop needs: that its party is one of the cell
abbrev pub CanDrop : {M : Type 0} → Cell → Stage M → Type 0
CanDrop cell stage = IfSome (resting_in stage.party) (RestsAt cell)

-- Whoever waited or made by this seat goes on by it, or has come to its end by it.
abbrev pub GoesOn : {T E M : Type 0} → Option Seated → Answer T E M → Option Seated → Option Seated → Type 0
GoesOn was answer.Pending is ended = IfSome was (λ s. IsSomeAnd is (IsSameSeat s))
GoesOn was (answer.Refused refusal) is ended = ⊤
GoesOn was (answer.Value r) is ended = IfSome was (λ s. IsSomeAnd ended (IsSameSeat s))
GoesOn was (answer.Back v r) is ended = IfSome was (λ s. IsSomeAnd ended (IsSameSeat s))
GoesOn was (answer.Kept m r) is ended = IfSome was (λ s. IsSomeAnd ended (IsSameSeat s))
GoesOn was (answer.Failed f) is ended = IfSome was (λ s. IsSomeAnd ended (IsSameSeat s))

abbrev pub NeedsOf : {M : Type 0} → (M → ℕ → Type 0) → Option M → ℕ → Type 0
NeedsOf needs None s = ⊥
NeedsOf needs (Some m) s = needs m s

-- A pending maker that stands in no list has registered what its own future does, and promises what it did before; one in a list has its
-- receipt, and its maker is the one before.
abbrev pub IsAwaiting : {T E M : Type 0} → (M → Result T E → Type 0) → (M → ℕ → Type 0) → Cell → Context → Option M → Option M → Option Listed → Type 0
IsAwaiting gives needs cell cx old now (Some e) = HasReceiptActive cell cx (Some e) × (now ≡ old)
IsAwaiting {T} {E} gives needs cell cx old now None = Covers cx (NeedsOf needs now) × ((x : Result T E) → IsSomeAnd now (λ m. gives m x) → IsSomeAnd old (λ m. gives m x))

module _ {C T E M : Type 0} (u : Purpose) (new : M → Type 0) (gives : M → Result T E → Type 0) (needs : M → ℕ → Type 0) (cell : Cell) where
  -- what a pending poll leaves
  abbrev pub Pended : Purpose → Context → Future C M → Future C M → Type 0
  Pended Sets cx old now = HasReceiptActive cell cx now.entry × (now.maker ≡ old.maker)
  Pended Makes cx old now = IsAwaiting gives needs cell cx old.maker now.maker now.entry

  -- What a poll answers. Ready, the future is over; with the value, or with its own back, by a seat that has found the cell full, or made it so. One that is over is refused as finished and stays so; else a poll is refused for memory
  -- alone, and then the future is as when it was made, with its maker.
  abbrev pub OnAnswer : Context → Future C M → Answer T E M → Future C M → Type 0
  OnAnswer cx old answer.Pending now = (old.is_over ≡ false) × (now.is_over ≡ false) × Pended u cx old now
  OnAnswer cx old (answer.Refused Finished) now = (old.is_over ≡ true) × (now ≡ old)
  OnAnswer cx old (answer.Refused Memory) now = (old.is_over ≡ false) × (now.is_over ≡ false) × (now.entry ≡ None) × (now.maker ≡ old.maker) × IsSomeAnd now.maker new
  OnAnswer cx old (answer.Refused _) now = ⊥
  OnAnswer cx old (answer.Value r) now = (old.is_over ≡ false) × (now.is_over ≡ true) × (now.maker ≡ None) × IsSomeAnd old.maker (λ m. gives m (Ok r.now)) × IsSomeAnd now.ended (HasFound cell)
  OnAnswer cx old (answer.Back v r) now = (old.is_over ≡ false) × (now.is_over ≡ true) × (now.maker ≡ None) × IsSomeAnd old.maker (λ m. gives m (Ok v)) × IsSomeAnd now.ended (HasFound cell)
  OnAnswer cx old (answer.Kept m r) now = (old.is_over ≡ false) × (now.is_over ≡ true) × (now.maker ≡ None) × (old.maker ≡ Some m) × new m × IsSomeAnd now.ended (HasFound cell)
  OnAnswer cx old (answer.Failed e) now = (old.is_over ≡ false) × (now.is_over ≡ true) × (now.maker ≡ None) × IsSomeAnd old.maker (λ m. gives m (Err e))
