-- What contracts see of a cell's futures, and what their polls answer.
use Rattle.std.specs.Prelude.{◌≡◌, ⊤, Bool, Option, Some, None, IfSome, IsSomeAnd, Result, Ok, Err}
use denote.Ref.{Bor}
use Rattle.async_driver.specs.declared.turn.Turn.{Turn}
use Rattle.async_driver.specs.declared.turn.Turn.TheVariants.{Pending, Ready, Refused}
use Rattle.async_once_cell.specs.Stages.{Future, Listed}
use Rattle.async_once_cell.specs.declared.makers.Given.{Given}
use Rattle.cell_core.specs.Cells.{Cell, HasFound, Seated, IsSameSeat}
use Rattle.lock_program.specs.declared.refusal.Refusal.TheVariants.{Memory}

-- a wait: its cell, whether it was ready before, its entry in the cell's list of those that wait, and the seat by which it has come to its end
pub record Waiting (C : Type 0) : Type 0 where
  pub cell : C
  pub is_over : Bool
  pub entry : Option Listed
  pub ended : Option Seated

-- a set: as another future that has a maker, with its value until it is ready
pub record Setting (C T : Type 0) : Type 0 where
  pub cell : C
  pub is_over : Bool
  pub entry : Option Listed
  pub seat : Option Seated
  pub ended : Option Seated
  pub value : Option T

abbrev pub value_in : {T : Type 0} → Option (Given T) → Option T
value_in None = None
value_in (Some given) = given.value

abbrev pub setting : {C T : Type 0} → Future C (Given T) → Setting C T
setting f = record { cell = f.cell; is_over = f.is_over; entry = f.entry; seat = f.seat; ended = f.ended; value = value_in f.maker }

-- by which seat its entry stands in a list
abbrev pub seat_in : Option Listed → Option Seated
seat_in None = None
seat_in (Some e) = Some e.seat

-- Whoever waited or made by this seat goes on by it, or has come to its end by it.
abbrev pub GoesOnBy : {G : Type 0} → Option Seated → Turn G → Option Seated → Option Seated → Type 0
GoesOnBy was Pending is ended = IfSome was (λ s. IsSomeAnd is (IsSameSeat s))
GoesOnBy was (Ready got) is ended = IfSome was (λ s. IsSomeAnd ended (IsSameSeat s))
GoesOnBy was (Refused refusal) is ended = ⊤

-- a fact of a poll that was refused for memory
abbrev pub OnMemory : {G : Type 0} → Turn G → Type 0 → Type 0
OnMemory (Refused Memory) F = F
OnMemory _ F = ⊤

-- a set that was done put its value in; one that found the cell full has its value back
abbrev pub IsSet : {T : Type 0} → Option T → Result (Bor T) T → Type 0
IsSet value (Ok r) = value ≡ Some r.now
IsSet value (Err v) = value ≡ Some v

-- a fact of a poll that was ready with a value, and not with how its maker failed
abbrev pub OnValue : {V E : Type 0} → Turn (Result V E) → Type 0 → Type 0
OnValue (Ready (Ok value)) F = F
OnValue _ F = ⊤

-- Ready with the cell's value, its seat has found the cell full, or made it so. It ends without a seat only if it had none before.
abbrev pub IsFoundBy : Cell → Option Seated → Option Seated → Type 0
IsFoundBy cell was None = was ≡ None
IsFoundBy cell was (Some seat) = HasFound cell seat

-- how the maker failed, it promised
abbrev pub FailsSo : {T E M : Type 0} → (M → Result T E → Type 0) → Option M → Result (Bor T) E → Type 0
FailsSo gives maker (Ok r) = ⊤
FailsSo gives maker (Err e) = IsSomeAnd maker (λ m. gives m (Err e))
