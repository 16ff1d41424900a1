-- What one move may do to a pool, and how it may be answered.
use Rattle.std.specs.Prelude.{◌≡◌, ◌≢◌, ℕ, ◌+◌, ◌++◌, ◌∷◌, [], Bool, true, false, length, Option, Some, None, slice_set}
use Rattle.lock_program.specs.declared.end.End.{End}
use Rattle.lock_program.specs.declared.end.End.TheVariants.{GivenBack}
use Rattle.lock_program.specs.declared.mutex.Step.{Step}
use Rattle.lock_program.specs.declared.mutex.Step.TheVariants as step
use Rattle.lock_program.specs.declared.refusal.Refusal.TheVariants as refusal
use Rattle.world_base.specs.declared.moves.Answer.{Answer}
use Rattle.world_base.specs.declared.moves.Answer.TheVariants as answer
use Rattle.world_base.specs.declared.moves.Got.{Got}
use Rattle.world_base.specs.declared.moves.Got.TheVariants as got
use Rattle.world_base.specs.declared.moves.Move.{Move}
use Rattle.world_base.specs.declared.standing.Kind.{Kind}
use Rattle.world_base.specs.declared.standing.Kind.TheVariants as kind
use Rattle.world_base.specs.declared.standing.Rest.TheVariants.{Idle, Pending, Holding, Finished}
use Rattle.world_base.specs.declared.standing.Within.{Within}
use Rattle.world_base.specs.Frame as frame
use Rattle.world_base.specs.Standings.{Standing, outside, inside, inputs_of, may_end, rest_after, refused}
use Rattle.world_mutex.specs.machine.Conduct as mutex
use Rattle.world_mutex.specs.machine.Mutex.{course_at as lock_course}
use Rattle.world_mutex.specs.machine.Course as lock
use Rattle.world_semaphore.specs.machine.Conduct as semaphore
use Rattle.world_semaphore.specs.machine.Course as permit
use Rattle.world_semaphore.specs.machine.Permits.{course_at as permit_course}
use Rattle.world_pool.specs.machine.Machine.{knows}
use Rattle.world_pool.specs.State.{World, standing_of, lease_of, gives, limit, made, HasPermit, HoldsLock}

-- The call that a move belongs to, where its party may make it.
abbrev pub call_of : World → Move → Option Within
call_of = frame.call_of standing_of (λ w p. knows)

-- ---- Which moves are possible

abbrev pub IsPossible : World → Move → Answer → World → Type 0
IsPossible = frame.IsPossible standing_of (λ w p. knows)

-- ---- What changes

-- A step does nothing, or one thing: it is one step of its party's call on the semaphore, or on the list's lock; it takes the last item out of the list, or puts one back; or it loses an item.
pub data Effect : Type 0 where
  nothing : Effect
  in_semaphore : Effect
  in_lock : Effect
  pops : Effect
  pushes : Effect
  loses : Effect

-- The semaphore, the lock, the list and the mover's lease, each left as it was.
abbrev pub SameSemaphore : World → World → Type 0
SameSemaphore old new = new.semaphore ≡ old.semaphore

abbrev pub SameLock : World → World → Type 0
SameLock old new = new.lock ≡ old.lock

abbrev pub SameItems : World → World → Type 0
SameItems old new = (new.items ≡ old.items) × (new.leases ≡ old.leases)

-- One step in the semaphore, as the semaphore's contract says it of a call for so many permits, decided so: what it changes, where it may, and why its call is decided.
abbrev pub StepsInSemaphore : World → Move → World → Type 0
StepsInSemaphore old m new = (k : ℕ) × (decided : Option End) × (s : Step) × semaphore.IsLegal (inputs_of m.what).memory m.party k decided s old.semaphore new.semaphore

-- One step in the list's lock, as the mutex's contract says it.
abbrev pub StepsInLock : World → Move → World → Type 0
StepsInLock old m new = (decided : Option End) × (s : Step) × mutex.IsLegal (inputs_of m.what).memory m.party decided s old.lock new.lock

-- Whoever takes an item out has a permit, the list's lock and no lease; whoever puts one back has the lock and leased it; and whoever loses one leased it, and hasn't the lock.
pub record MayPop (w : World) (p : ℕ) : Type 0 where
  pub permit : HasPermit w p
  pub lock : HoldsLock w p
  pub bare : lease_of w p ≡ None

pub record MayPush (w : World) (p : ℕ) : Type 0 where
  pub permit : HasPermit w p
  pub lock : HoldsLock w p

-- The last item leaves the list, and its taker has it leased; the list is not empty.
pub record Pops (old : World) (p : ℕ) (new : World) : Type 0 where
  pub may : MayPop old p
  pub item : ℕ
  pub last : old.items ≡ new.items ++ item ∷ []
  pub leases : new.leases ≡ slice_set old.leases p (Some item)

pub record Pushes (old : World) (p : ℕ) (new : World) : Type 0 where
  pub may : MayPush old p
  pub item : ℕ
  pub leased : lease_of old p ≡ Some item
  pub last : new.items ≡ old.items ++ item ∷ []
  pub leases : new.leases ≡ slice_set old.leases p None

-- A lost item is in the list no more, nor leased; and its permit is forgotten: one fewer there is, and as many are available.
pub record Loses (old : World) (m : Move) (new : World) : Type 0 where
  pub permit : HasPermit old m.party
  pub item : (i : ℕ) × (lease_of old m.party ≡ Some i)
  pub items : new.items ≡ old.items
  pub leases : new.leases ≡ slice_set old.leases m.party None
  pub forgotten : limit new + 1 ≡ limit old
  pub conduct : semaphore.IsLegal (inputs_of m.what).memory m.party 1 (Some GivenBack) (step.End GivenBack) old.semaphore new.semaphore

abbrev pub Does : Effect → World → Move → World → Type 0
Does nothing old m new = SameSemaphore old new × SameLock old new × SameItems old new
Does in_semaphore old m new = StepsInSemaphore old m new × SameLock old new × SameItems old new
Does in_lock old m new = SameSemaphore old new × StepsInLock old m new × SameItems old new
Does pops old m new = SameSemaphore old new × SameLock old new × Pops old m.party new
Does pushes old m new = SameSemaphore old new × SameLock old new × Pushes old m.party new
Does loses old m new = SameLock old new × Loses old m new

-- A move does one thing, and moves no other party: no party's lease changes but the mover's.
pub record ChangesOneThing (old : World) (m : Move) (new : World) : Type 0 where
  pub effect : Effect
  pub does : Does effect old m new
  pub others : (q : ℕ) → q ≢ m.party → standing_of new q ≡ standing_of old q
  pub other_leases : (q : ℕ) → q ≢ m.party → lease_of new q ≡ lease_of old q
  pub parties : length new.standings ≡ length old.standings
  pub made : made new ≡ made old
  pub starved_limit : new.lock.limit ≡ old.lock.limit

-- ---- What parties have

pub record HasNothing (w : World) (p : ℕ) : Type 0 where
  pub permit : permit_course w.semaphore.courses p ≡ permit.out
  pub lock : lock_course w.lock.courses p ≡ lock.out
  pub lease : lease_of w p ≡ None

-- Who has a lease has a permit with it.
pub record HasLease (w : World) (p : ℕ) : Type 0 where
  pub permit : HasPermit w p
  pub lease : (i : ℕ) × (lease_of w p ≡ Some i)

-- A pending give has its lease; a pending take has none.
abbrev pub IsPending : World → ℕ → Bool → Type 0
IsPending w p true = HasLease w p
IsPending w p false = lease_of w p ≡ None

-- What a party has by how it stands: outside every call nobody holds the list's lock; a call that is to be ready or granted has the item leased that it is answered with.
abbrev pub HasItsOwn : World → ℕ → Standing → Type 0
HasItsOwn w p (outside Idle) = HasNothing w p
HasItsOwn w p (outside Holding) = HasLease w p × (lock_course w.lock.courses p ≡ lock.out)
HasItsOwn w p (outside Pending) = IsPending w p (gives w p) × (lock.holds (lock_course w.lock.courses p) ≡ 0)
HasItsOwn w p (outside Finished) = ⊥
HasItsOwn w p (inside within (Some (answer.Ready (got.Value i)))) = lease_of w p ≡ Some i
HasItsOwn w p (inside within (Some (answer.Granted (got.Value i)))) = lease_of w p ≡ Some i
HasItsOwn w p (inside within (Some (answer.Ready g))) = ⊥
HasItsOwn w p (inside within (Some (answer.Granted g))) = ⊥
HasItsOwn w p s = Unit {0}

-- ---- How a call ends

-- A give's poll ends by GivenBack where others' are ready; any other call as in every World.
abbrev pub ends : Bool → Kind → Answer → Bool
ends true kind.LaterPoll answer.GivenBack = true
ends true kind.LaterPoll answer.Pending = true
ends true kind.LaterPoll (answer.Refused n) = true
ends true kind.LaterPoll a = false
ends true k a = may_end k a
ends false k a = may_end k a

-- A possible move leaves its party inside its call exactly if it is answered Stepped, and else outside, by an answer with which such a call may end.
abbrev pub StandsAfter : Bool → Within → Answer → Standing → Type 0
StandsAfter giving w answer.Stepped t = (decided : Option Answer) × (t ≡ inside w decided)
StandsAfter giving w a t = (ends giving w.kind a ≡ true) × (t ≡ outside (rest_after Holding w a))

pub record EndsProperly (old : World) (m : Move) (a : Answer) (new : World) : Type 0 where
  pub stands : (within : Within) → call_of old m ≡ Some within → frame.is_poll_after_ready (standing_of old m.party) m.what ≡ false → StandsAfter (gives old m.party) within a (standing_of new m.party)
  pub after_ready : frame.is_poll_after_ready (standing_of old m.party) m.what ≡ true → (a ≡ refused refusal.Finished) × (new ≡ old)

-- ---- What an answer says

-- A take that is ready, and a try that is granted, say which item their party has leased.
abbrev pub Carried : Got → World → ℕ → Type 0
Carried (got.Value i) new p = (standing_of new p ≡ outside Holding) × (lease_of new p ≡ Some i)
Carried g new p = ⊥

abbrev pub is_carrying : Answer → Bool
is_carrying (answer.Ready g) = true
is_carrying (answer.Granted g) = true
is_carrying a = false

-- And only by such an answer a party comes to have a lease outside every call.
pub record Carries (old : World) (m : Move) (a : Answer) (new : World) : Type 0 where
  pub ready : (g : Got) → a ≡ answer.Ready g → Carried g new m.party
  pub granted : (g : Got) → a ≡ answer.Granted g → Carried g new m.party
  pub only_so : call_of old m ≢ None → frame.is_poll_after_ready (standing_of old m.party) m.what ≡ false → standing_of new m.party ≡ outside Holding → is_carrying a ≡ true

-- ---- The legal step

-- From the old World the move may be answered so, and lead to the new World.
pub record Legal (old : World) (m : Move) (a : Answer) (new : World) : Type 0 where
  pub possible : IsPossible old m a new
  pub one_change : ChangesOneThing old m new
  pub carries : Carries old m a new
  pub each : (p : ℕ) → HasItsOwn new p (standing_of new p)
  pub ends_properly : EndsProperly old m a new
