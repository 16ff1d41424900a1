-- What a closure and its future are to a cell, as its maker.
use Rattle.std.specs.Prelude.{ℕ, ⊤, Result, IsOkAnd}
use Rattle.async_once_cell.specs.declared.makers.Making.{Making}
use Rattle.async_once_cell.specs.declared.makers.Making.TheVariants as makes
use Rattle.async_once_cell.specs.declared.makers.MakingNow.{MakingNow}
use Rattle.async_once_cell.specs.declared.makers.MakingNow.TheVariants as makes_now
use Rattle.async_once_cell.specs.declared.makers.Trying.{Trying}
use Rattle.async_once_cell.specs.declared.makers.Trying.TheVariants as tries
use Rattle.async_once_cell.specs.declared.makers.TryingNow.{TryingNow}
use Rattle.async_once_cell.specs.declared.makers.TryingNow.TheVariants as tries_now

module _ {F Fut : Type 0} where
  -- the closure wasn't called
  abbrev pub is_new_try : Trying F Fut → Type 0
  is_new_try (tries.Closure f) = ⊤
  is_new_try _ = ⊥

  abbrev pub is_new_make : Making F Fut → Type 0
  is_new_make (makes.Closure f) = ⊤
  is_new_make _ = ⊥

  -- the closure may be called, and what it answers may be polled
  abbrev pub CanTry : (F → Type 0) → (F → Fut → Type 0) → (Fut → Type 0) → Trying F Fut → Type 0
  CanTry pre post can (tries.Closure f) = pre f × ((fut : Fut) → post f fut → can fut)
  CanTry pre post can (tries.Future fut) = can fut
  CanTry pre post can tries.Asked = ⊥

  abbrev pub CanMake : (F → Type 0) → (F → Fut → Type 0) → (Fut → Type 0) → Making F Fut → Type 0
  CanMake pre post can (makes.Closure f) = pre f × ((fut : Fut) → post f fut → can fut)
  CanMake pre post can (makes.Future fut) = can fut
  CanMake pre post can makes.Asked = ⊥

  -- The sources that its future waits for. One that has no future waits for every source, so none is pending without.
  abbrev pub TryNeeds : (Fut → ℕ → Type 0) → Trying F Fut → ℕ → Type 0
  TryNeeds needs (tries.Future fut) s = needs fut s
  TryNeeds needs _ s = ⊤

  abbrev pub MakeNeeds : (Fut → ℕ → Type 0) → Making F Fut → ℕ → Type 0
  MakeNeeds needs (makes.Future fut) s = needs fut s
  MakeNeeds needs _ s = ⊤

module _ {F Fut T E : Type 0} where
  -- what its future may give
  abbrev pub TryGives : (F → Fut → Type 0) → (Fut → Result T E → Type 0) → Trying F Fut → Result T E → Type 0
  TryGives post gives (tries.Closure f) made = (fut : Fut) × post f fut × gives fut made
  TryGives post gives (tries.Future fut) made = gives fut made
  TryGives post gives tries.Asked made = ⊥

  abbrev pub MakeGives : (F → Fut → Type 0) → (Fut → T → Type 0) → Making F Fut → Result T E → Type 0
  MakeGives post gives (makes.Closure f) made = (fut : Fut) × post f fut × IsOkAnd made (gives fut)
  MakeGives post gives (makes.Future fut) made = IsOkAnd made (gives fut)
  MakeGives post gives makes.Asked made = ⊥

-- the same of what makes its value at once
module _ {F : Type 0} where
  abbrev pub is_new_try_now : TryingNow F → Type 0
  is_new_try_now (tries_now.Closure f) = ⊤
  is_new_try_now tries_now.Asked = ⊥

  abbrev pub is_new_make_now : MakingNow F → Type 0
  is_new_make_now (makes_now.Closure f) = ⊤
  is_new_make_now makes_now.Asked = ⊥

  abbrev pub CanTryNow : (F → Type 0) → TryingNow F → Type 0
  CanTryNow can (tries_now.Closure f) = can f
  CanTryNow can tries_now.Asked = ⊥

  abbrev pub CanMakeNow : (F → Type 0) → MakingNow F → Type 0
  CanMakeNow can (makes_now.Closure f) = can f
  CanMakeNow can makes_now.Asked = ⊥

module _ {F T E : Type 0} where
  abbrev pub TryGivesNow : (F → Result T E → Type 0) → TryingNow F → Result T E → Type 0
  TryGivesNow answers (tries_now.Closure f) made = answers f made
  TryGivesNow answers tries_now.Asked made = ⊥

  abbrev pub MakeGivesNow : (F → T → Type 0) → MakingNow F → Result T E → Type 0
  MakeGivesNow answers (makes_now.Closure f) made = IsOkAnd made (answers f)
  MakeGivesNow answers makes_now.Asked made = ⊥
