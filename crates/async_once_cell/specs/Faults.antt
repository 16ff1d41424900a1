-- Why blocking calls give up.
use Rattle.std.specs.Prelude.{◌≡◌, Option, Some, IfNone, IfSome, IsSome, IsSomeAnd, Result, Ok, Err}
use denote.Ref.{Bor}
use Rattle.async_once_cell.specs.declared.blocking.Ended.{Ended}
use Rattle.async_once_cell.specs.declared.blocking.Ended.TheVariants as ended
use Rattle.async_once_cell.specs.declared.faults.InitFault.{InitFault}
use Rattle.async_once_cell.specs.declared.faults.InitFault.TheVariants as init
use Rattle.async_once_cell.specs.declared.faults.SetFault.{SetFault}
use Rattle.async_once_cell.specs.declared.faults.SetFault.TheVariants as set
use Rattle.async_once_cell.specs.Futures.{IsSet}
use Rattle.lock_program.specs.declared.refusal.Refusal.{Refusal}
use Rattle.lock_program.specs.declared.refusal.Refusal.TheVariants.{Memory}

-- the closure answered its failure, or the call was refused for memory
abbrev pub FaultOf : {T E : Type 0} → (Result T E → Type 0) → InitFault E → Type 0
FaultOf answers (init.Closure e) = answers (Err e)
FaultOf answers (init.Refused refusal) = refusal ≡ Memory

-- a set that gave up has its value back, and was refused for memory if it was refused
abbrev pub HasBack : {T : Type 0} → T → SetFault T → Type 0
HasBack value (set.Taken v) = v ≡ value
HasBack value (set.Refused v refusal) = (v ≡ value) × (refusal ≡ Memory)

-- a set has the value that was handed in, until it is ready; and what it is ready with is that value
abbrev pub HasValue : {T : Type 0} → Option T → Option T → Option (Result (Bor T) T) → Type 0
HasValue origin value got = IfSome value (λ v. origin ≡ Some v) × IfNone got (IsSome value) × IfSome got (IsSet origin)

-- however it ended, what is left is the value that was handed in
abbrev pub EndsWith : {T : Type 0} → Option T → Ended T → Type 0
EndsWith origin (ended.Done r) = origin ≡ Some r.now
EndsWith origin (ended.Back v) = origin ≡ Some v
EndsWith origin (ended.Never v) = origin ≡ Some v

-- how the maker failed, it promised
abbrev pub FailedSo : {T E M : Type 0} → (M → Result T E → Type 0) → Option M → Result (Unit {0}) E → Type 0
FailedSo gives maker (Ok r) = Unit {0}
FailedSo gives maker (Err e) = IsSomeAnd maker (λ m. gives m (Err e))
