-- How a poll went.
use Rattle.std.specs.Prelude.{◌≡◌, ℕ, ⊤, Result, Ok, Err}
use Rattle.futures.specs.Task.{Covers}
use Rattle.futures.specs.declared.task.context.Context.{Context}
use Rattle.cell_core.specs.Cells.{Cell, Seated, HasFound, IsOf, IsSameSeat}
use Rattle.cell_core.specs.Courses.{making, waiting_to_make}
use Rattle.cell_core.specs.Purposes.{IsAwaited, maker_of}
use Rattle.lock_queue.specs.Receipts.{IsReceipt}
use Rattle.cell_core.specs.declared.maker.Purpose.{Purpose}
use Rattle.cell_core.specs.declared.turn.Outcome.{Outcome}
use Rattle.cell_core.specs.declared.turn.Outcome.TheVariants as outcome
use Rattle.cell_core.specs.declared.turn.Resting.{Resting}
use Rattle.cell_core.specs.declared.turn.Resting.TheVariants.{Waits, Makes}
use Rattle.cell_core.specs.declared.turn.Waited.{Waited}
use Rattle.cell_core.specs.declared.turn.Waited.TheVariants as waited

-- by which seat a party waits or makes
abbrev pub seat_in : Resting → Seated
seat_in (Waits w) = w.seat
seat_in (Makes p) = p.seat

-- what a party keeps is of this cell
abbrev pub RestsAt : Cell → Resting → Type 0
RestsAt cell (Waits w) = IsOf cell w.seat
RestsAt cell (Makes p) = IsOf cell p.seat

-- What a party keeps is of this cell, with this maker: one in the list was never asked; one that makes may be asked again. Each is pending where its
-- next poll goes on.
abbrev pub RestsSo : {M : Type 0} → Purpose → (M → Type 0) → Cell → M → Resting → Type 0
RestsSo u new cell m (Waits w) = IsOf cell w.seat × (w.seat.course ≡ waiting_to_make (maker_of u)) × new m
RestsSo u new cell m (Makes p) = IsOf cell p.seat × (p.seat.course ≡ making (maker_of u)) × IsAwaited u

-- What a pending poll leaves: one in the list has a receipt, and its maker is the one that it had. Of one that makes, its maker's own poll has registered,
-- and promises what it did before.
abbrev pub Pends : {T E M : Type 0} → (M → Result T E → Type 0) → (M → ℕ → Type 0) → Cell → Context → M → M → Resting → Type 0
Pends gives needs cell cx m₀ m (Waits w) = IsReceipt cell.source cx w.whose × (m ≡ m₀)
Pends {T} {E} gives needs cell cx m₀ m (Makes p) = Covers cx (needs m) × ((x : Result T E) → gives m x → gives m₀ x)

-- What a poll answers that began with the maker m₀.
abbrev pub OnOutcome : {T E M : Type 0} → Purpose → (M → Type 0) → (M → Type 0) → (M → Result T E → Type 0) → (M → ℕ → Type 0) → M → Cell → Context → Outcome T E M → Type 0
OnOutcome u new can gives needs m₀ cell cx (outcome.Pending m r) = RestsSo u new cell m r × can m × Pends gives needs cell cx m₀ m r
OnOutcome u new can gives needs m₀ cell cx (outcome.Refused m) = (m ≡ m₀) × new m
OnOutcome u new can gives needs m₀ cell cx (outcome.Value r e) = gives m₀ (Ok r.now) × HasFound cell e
OnOutcome u new can gives needs m₀ cell cx (outcome.Back v r e) = gives m₀ (Ok v) × HasFound cell e
OnOutcome u new can gives needs m₀ cell cx (outcome.Kept m r e) = (m ≡ m₀) × new m × HasFound cell e
OnOutcome u new can gives needs m₀ cell cx (outcome.Failed f e) = gives m₀ (Err f) × IsOf cell e

-- Whoever waits, makes, or has come to an end does so by this seat.
abbrev pub IsBySeat : {T E M : Type 0} → Seated → Outcome T E M → Type 0
IsBySeat seat (outcome.Pending m r) = IsSameSeat seat (seat_in r)
IsBySeat seat (outcome.Refused m) = ⊤
IsBySeat seat (outcome.Value r e) = IsSameSeat seat e
IsBySeat seat (outcome.Back v r e) = IsSameSeat seat e
IsBySeat seat (outcome.Kept m r e) = IsSameSeat seat e
IsBySeat seat (outcome.Failed f e) = IsSameSeat seat e

-- what a poll of one that only waits answers
abbrev pub OnWaited : {T : Type 0} → Cell → Context → Waited T → Type 0
OnWaited cell cx (waited.Waits w) = IsOf cell w.seat × IsReceipt cell.source cx w.whose
OnWaited cell cx waited.Refused = ⊤
OnWaited cell cx (waited.Value r e) = HasFound cell e

-- the same of one that only waits
abbrev pub IsWaitedBySeat : {T : Type 0} → Seated → Waited T → Type 0
IsWaitedBySeat seat (waited.Waits w) = IsSameSeat seat w.seat
IsWaitedBySeat seat waited.Refused = ⊤
IsWaitedBySeat seat (waited.Value r e) = IsSameSeat seat e
