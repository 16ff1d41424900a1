-- What an action is: a step on the semaphore or on the list's lock, or a change of the items and of its party's lease; and what it needs.
use Rattle.std.specs.Prelude.{◌≡◌, ℕ, ◌<◌, true, false, List, [], ◌∷◌, ◌++◌, length, Option, Some, None, is_some}
use Rattle.lock_program.specs.declared.end.End.TheVariants.{GivenBack}
use Rattle.lock_program.specs.declared.mutex.Step.TheVariants as step
use Rattle.sync_program.specs.declared.permits.SemaphoreCall.TheVariants as permit_call
use Rattle.world_base.specs.declared.moves.Inputs.{Inputs}
use Rattle.world_mutex.specs.machine.Course.{may_begin as may_lock}
use Rattle.world_mutex.specs.machine.Mutex.{Mutex, course_at as lock_course}
use Rattle.world_mutex.specs.machine.Steps.{LockBegins, LockGoesOn}
use Rattle.world_semaphore.specs.machine.Calls.{PermitsBegin, PermitsGoOn}
use Rattle.world_semaphore.specs.machine.Course.{may_begin as may_ask, is_resting}
use Rattle.world_semaphore.specs.machine.Permits.{Permits, course_at as permit_course}
use Rattle.world_pool.specs.declared.program.places.Action.{Action}
use Rattle.world_pool.specs.declared.program.places.Action.TheVariants as act
use Rattle.world_pool.specs.declared.program.places.Found.{Found}
use Rattle.world_pool.specs.declared.program.places.Found.TheVariants as found

-- what an action does to the semaphore: a step of its party's call there, or nothing; who loses an item forgets its permit
abbrev pub OnPermits : Inputs → ℕ → Action → Found → Permits → Permits → Type 0
OnPermits i p (act.Permit c) (found.Permit s) old new = PermitsBegin i.memory p c s old new
OnPermits i p (act.Permit c) _ old new = ⊥
OnPermits i p act.GoPermit (found.Permit s) old new = PermitsGoOn i.memory p s old new
OnPermits i p act.GoPermit _ old new = ⊥
OnPermits i p act.Lose f old new = PermitsBegin i.memory p permit_call.Forget (step.End GivenBack) old new
OnPermits i p _ f old new = new ≡ old

-- what it does to the list's lock
abbrev pub OnLock : Inputs → ℕ → Action → Found → Mutex → Mutex → Type 0
OnLock i p (act.Lock c) (found.Lock s) old new = LockBegins i.memory i.starving p c s old new
OnLock i p (act.Lock c) _ old new = ⊥
OnLock i p act.GoLock (found.Lock s) old new = LockGoesOn i.memory i.starving p s old new
OnLock i p act.GoLock _ old new = ⊥
OnLock i p _ f old new = new ≡ old

-- what it does to the list of items and to its party's lease
abbrev pub OnItems : Action → List ℕ → Option ℕ → List ℕ → Option ℕ → Type 0
OnItems act.Pop old lease new lease' = (item : ℕ) × (old ≡ new ++ item ∷ []) × (lease' ≡ Some item)
OnItems act.Push old lease new lease' = (item : ℕ) × (lease ≡ Some item) × (new ≡ old ++ item ∷ []) × (lease' ≡ None)
OnItems act.Lose old lease new lease' = (new ≡ old) × (lease' ≡ None)
OnItems _ old lease new lease' = (new ≡ old) × (lease' ≡ lease)

-- what an action needs of the semaphore and the list's lock
abbrev pub CanLocks : ℕ → Action → Permits → Mutex → Type 0
CanLocks p (act.Permit c) s m = (p < length s.courses) × (may_ask c (permit_course s.courses p) ≡ true)
CanLocks p act.GoPermit s m = (p < length s.courses) × (is_resting (permit_course s.courses p) ≡ false)
CanLocks p act.Lose s m = (p < length s.courses) × (may_ask permit_call.Forget (permit_course s.courses p) ≡ true)
CanLocks p (act.Lock c) s m = (p < length m.courses) × (may_lock c (lock_course m.courses p) ≡ true)
CanLocks p act.GoLock s m = p < length m.courses
CanLocks p _ s m = Unit {0}

-- what it needs of the list, which has room for so many items, and of its party's lease
abbrev pub CanItems : Action → List ℕ → ℕ → Option ℕ → Type 0
CanItems act.Pop items room lease = 0 < length items
CanItems act.Push items room lease = (length items < room) × (is_some lease ≡ true)
CanItems _ items room lease = Unit {0}
