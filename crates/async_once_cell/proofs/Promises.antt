-- What a pending maker may still fail with, it promised before.
use Rattle.std.proofs.Common.{◌≡◌, ℕ, Bool, false, Option, Some, None, sym, subst, ◌∙◌}
use Rattle.std.specs.Prelude.{Result, Ok, Err, IfOk, IfErr}
use Rattle.async_once_cell.specs.Faults.{FailedSo}
use Rattle.lock_program.specs.declared.refusal.Refusal.{Refusal}
use denote.Ref.{Bor}
use Rattle.async_driver.specs.declared.turn.Turn.{Turn}
use Rattle.async_driver.specs.declared.turn.Turn.TheVariants.{Pending, Ready, Refused}
use Rattle.async_driver.specs.Turns.{OnPending}
use Rattle.async_driver.specs.Turns.{CanRefuse, IsForMemory}
use Rattle.async_once_cell.specs.Futures.{FailsSo}
use Rattle.async_once_cell.specs.Stages.{Future, IsAwaiting, Listed, Pended}
use Rattle.futures.specs.declared.task.context.Context.{Context}
use Rattle.cell_core.specs.Cells.{Cell}
use Rattle.cell_core.specs.declared.maker.Purpose.{Purpose}
use Rattle.cell_core.specs.declared.maker.Purpose.TheVariants.{Makes, Sets}

module _ {T E M : Type 0} (gives : M → Result T E → Type 0) (needs : M → ℕ → Type 0) (cell : Cell) (cx : Context) (old now : Option M) where
  kept : (entry : Option Listed) → IsAwaiting gives needs cell cx old now entry → (x : Result (Bor T) E) → FailsSo gives now x → FailsSo gives old x
  kept entry r (Ok v) f = tt
  kept None r (Err e) f = r.1 (Err e) f
  kept (Some l) r (Err e) f = subst (λ o. FailsSo {T = T} gives o (Err e)) r.1 f

  pub same : {G : Type 0} (turn : Turn G) (entry : Option Listed) → OnPending turn (IsAwaiting gives needs cell cx old now entry) → OnPending turn ((x : Result (Bor T) E) → FailsSo gives now x → FailsSo gives old x)
  same Pending entry r = kept entry r
  same (Ready g) entry r = tt
  same (Refused why) entry r = tt

module _ {T E M : Type 0} (gives : M → Result T E → Type 0) (needs : M → ℕ → Type 0) (cell : Cell) (cx : Context) (old now : Option M) where
  failed : (entry : Option Listed) → IsAwaiting gives needs cell cx old now entry → (x : Result (Unit {0}) E) → FailedSo gives now x → FailedSo gives old x
  failed entry r (Ok v) f = tt
  failed None r (Err e) f = r.1 (Err e) f
  failed (Some l) r (Err e) f = subst (λ o. FailedSo {T = T} gives o (Err e)) r.1 f

  pub fails : (entry : Option Listed) → IsAwaiting gives needs cell cx old now entry → (x : Result (Result (Unit {0}) E) Refusal) → IfOk x (FailedSo gives now) → IfOk x (FailedSo gives old)
  fails entry r (Ok x) f = failed entry r x f
  fails entry r (Err e) f = tt

-- the same, whatever its party is there for
module _ {C T E M : Type 0} (what : Purpose) (new : M → Type 0) (gives : M → Result T E → Type 0) (needs : M → ℕ → Type 0) (cell : Cell) (cx : Context) (old now : Future C M) where
  pub pended_fails : (u : Purpose) → Pended what new gives needs cell u cx old now → (x : Result (Result (Unit {0}) E) Refusal) → IfOk x (FailedSo gives now.maker) → IfOk x (FailedSo gives old.maker)
  pended_fails Sets p x f = subst (λ o. IfOk x (FailedSo {T = T} gives o)) p.1 f
  pended_fails Makes p x f = fails gives needs cell cx old.maker now.maker now.entry p x f

-- while a future is pending it may refuse as before
pub refuses_still : {X : Type 0} (was is : Bool) → (was ≡ false) × (is ≡ false) → (x : Result X Refusal) → IfErr x (CanRefuse IsForMemory is) → IfErr x (CanRefuse IsForMemory was)
refuses_still was is e x = subst (λ b. IfErr x (CanRefuse IsForMemory is) → IfErr x (CanRefuse IsForMemory b)) (e.1 ∙ sym e.0) (λ f. f)
