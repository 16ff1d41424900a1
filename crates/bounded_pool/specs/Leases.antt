-- What contracts see of a pool's leases and futures.
use Rattle.std.specs.Prelude.{◌≡◌, Bool, true, false, ⊤, Option, None, Some}
use Rattle.bounded_pool.specs.declared.pool.Pool.{Pool}
use Rattle.bounded_pool.specs.declared.take.Taking.{Taking}
use Rattle.bounded_pool.specs.declared.take.Taking.TheVariants as taking
use Rattle.async_driver.specs.declared.turn.Turn.{Turn}
use Rattle.async_driver.specs.declared.turn.Turn.TheVariants as turns
use Rattle.async_driver.specs.Stages.{IsOf}
use Rattle.lock_program.specs.declared.refusal.Refusal.TheVariants.{Memory}

-- an item, and the pool that lent it
pub record Lent (T R : Type 0) : Type 0 where
  pub pool : Pool T R
  pub item : T

-- a take: its pool, and whether it was ready
pub record Taken (T R : Type 0) : Type 0 where
  pub pool : Pool T R
  pub is_over : Bool

-- a give: the lease that it keeps
pub record Given (T R : Type 0) : Type 0 where
  pub lease : Option (Lent T R)

-- no lease is kept
abbrev pub is_none : {A : Type 0} → Option A → Bool
is_none None = true
is_none (Some _) = false

-- the item is back and no lease is kept, or memory was refused and the lease is kept as it was
abbrev pub IsPutBack : {T R G : Type 0} → Lent T R → Turn G → Option (Lent T R) → Type 0
IsPutBack before (turns.Ready _) kept = kept ≡ None
IsPutBack before turns.Pending kept = ⊥
IsPutBack before (turns.Refused refusal) kept = (refusal ≡ Memory) × (kept ≡ Some before)

-- it lends the same item of the same pool
abbrev pub IsAsBefore : {T R : Type 0} → Lent T R → Lent T R → Type 0
IsAsBefore before after = (after.pool ≡ before.pool) × (after.item ≡ before.item)

module _ {T R : Type 0} where
  abbrev pub is_over : Taking T R → Bool
  is_over taking.Over = true
  is_over _ = false

  -- it wants a permit, waits for one of this pool, or has one
  abbrev pub IsTaking : Pool T R → Taking T R → Type 0
  IsTaking pool (taking.Permit None) = ⊤
  IsTaking pool (taking.Permit (Some acquire)) = IsOf (λ o. o.now) acquire.stage pool.permits × (acquire.permits ≡ 1)
  IsTaking pool (taking.List permit lock) = (permit.semaphore ≡ pool.permits) × (permit.permits ≡ 1)
  IsTaking pool taking.Over = ⊤
