-- A pool: its items, each party's lease and where it stands, the semaphore and the list's lock; and what one action does to it.
use Rattle.std.specs.Prelude.{◌≡◌, ℕ, zero, suc, ◌+◌, ◌<◌, ◌≤◌, ◌&&◌, ◌==◌, if◌then◌else◌, Bool, true, false, List, [], ◌∷◌, ◌++◌, length, Option, Some, None, is_some, slice_index_or, slice_set, replicate}
use Rattle.std.specs.List.{sum_by}
use Rattle.lock_program.specs.declared.end.Next.TheVariants as next
use Rattle.world_base.specs.declared.moves.Answer.{Answer}
use Rattle.world_base.specs.declared.moves.Answer.TheVariants as answer
use Rattle.world_base.specs.declared.moves.Call.{Call}
use Rattle.world_base.specs.declared.moves.Call.TheVariants as call
use Rattle.world_base.specs.declared.moves.Inputs.{Inputs}
use Rattle.world_base.specs.declared.moves.What.{What}
use Rattle.world_base.specs.declared.standing.Kind.{Kind}
use Rattle.world_base.specs.declared.standing.Kind.TheVariants as kind
use Rattle.world_base.specs.declared.standing.Rest.{Rest}
use Rattle.world_base.specs.declared.standing.Rest.TheVariants as rest
use Rattle.world_base.specs.declared.standing.Stage.{Stage}
use Rattle.world_base.specs.declared.standing.Stage.TheVariants.{Outside, Inside, Forgotten}
use Rattle.world_base.specs.declared.standing.Within.{Within}
use Rattle.world_base.specs.Standings.{inputs_of}
use Rattle.world_base.specs.table.Ends.{answer_of}
use Rattle.world_base.specs.table.Resting.{AreAtRest}
use Rattle.world_mutex.specs.machine.Mutex.{Mutex, new_mutex, course_at as lock_course, IsMutex, steps_left as lock_steps_left}
use Rattle.world_semaphore.specs.machine.Permits.{Permits, new_permits, course_at as permit_course, IsPermits, steps_left as permit_steps_left}
use Rattle.world_pool.specs.declared.program.places.Aim.TheVariants as aim
use Rattle.world_pool.specs.declared.program.places.Ending.TheVariants as ending
use Rattle.world_pool.specs.declared.program.places.Found.{Found}
use Rattle.world_pool.specs.declared.program.places.Place.{Place}
use Rattle.world_pool.specs.declared.program.places.Place.TheVariants.{Acquire, WaitPermit, TakePermit, TryPermit, TryLock, EnterLock, WaitLock, TakeLock, Pop, Push, ReleaseLock, ReleasingLock, ReturnPermit, ReturningPermit, CancelPermit, CancellingPermit, CancelLock, CancellingLock, Lose, Abandon}
use Rattle.world_pool.specs.declared.program.places.Position.{Position}
use Rattle.world_pool.specs.declared.program.places.Position.TheVariants.{Out, Made, Acquiring, Locking, Leased, At}
use Rattle.world_pool.specs.declared.program.places.Return.TheVariants as why
use Rattle.world_pool.specs.declared.program.places.Taker.TheVariants as taker
use Rattle.world_pool.specs.program.Program.{Next, place_for, action_of, next_of, position_after, got_with}
use Rattle.world_pool.specs.program.Effects.{OnPermits, OnLock, OnItems}
use Rattle.world_pool.specs.machine.Ranks.{left, left_at, left_then}
use Rattle.world_pool.specs.machine.Roles.{fits_permits, fits_lock, in_permits, in_lock, is_leased, is_resting, is_taking_out}

-- What contracts see of a pool: the items in its list, the item that each party has leased, where each party stands, the semaphore and the list's lock.
pub record Pool : Type 0 where
  pub items : List ℕ
  pub leases : List (Option ℕ)
  pub positions : List Position
  pub permits : Permits
  pub lock : Mutex

abbrev pub position_at : List Position → ℕ → Position
position_at xs p = slice_index_or xs p Out

abbrev pub lease_at : List (Option ℕ) → ℕ → Option ℕ
lease_at ls p = slice_index_or ls p None

-- the items from 0 on, so many
abbrev pub numbered : ℕ → List ℕ
numbered zero = []
numbered (suc n) = numbered n ++ n ∷ []

-- All its items are in the list, all its permits available, and every party is out.
abbrev pub new_pool : ℕ → ℕ → ℕ → Pool
new_pool parties items starved = record { items = numbered items; leases = replicate parties None; positions = replicate parties Out; permits = new_permits parties items items; lock = new_mutex parties starved }

-- ---- The items

abbrev pub as_number : Bool → ℕ
as_number b = if b then 1 else 0

-- whether it is this item
abbrev pub is_item : ℕ → ℕ → ℕ
is_item i k = as_number (k == i)

abbrev pub leases_item : ℕ → Option ℕ → ℕ
leases_item i None = 0
leases_item i (Some k) = is_item i k

-- How often an item is in the list, and how many parties have it leased.
abbrev pub in_list : ℕ → List ℕ → ℕ
in_list i items = sum_by (is_item i) items

abbrev pub leased : ℕ → List (Option ℕ) → ℕ
leased i leases = sum_by (leases_item i) leases

-- How many parties have a lease.
abbrev pub leases_any : Option ℕ → ℕ
leases_any lease = as_number (is_some lease)

abbrev pub how_many_leased : List (Option ℕ) → ℕ
how_many_leased leases = sum_by leases_any leases

-- The items in the list and those leased are pairwise different, and each is below the number of items that were made.
pub record AreDifferent (made : ℕ) (items : List ℕ) (leases : List (Option ℕ)) : Type 0 where
  pub once : (i : ℕ) → in_list i items + leased i leases ≤ 1
  pub below : (i : ℕ) → 0 < in_list i items + leased i leases → i < made

-- How many pending takes have a permit.
abbrev pub how_many_taking_out : List Position → ℕ
how_many_taking_out xs = sum_by (λ x. as_number (is_taking_out x)) xs

-- ---- What always holds

pub record IsKept (room : ℕ) (s : Pool) : Type 0 where
  pub permits : (p : ℕ) → fits_permits (in_permits (position_at s.positions p)) (permit_course s.permits.courses p) ≡ true
  pub locks : (p : ℕ) → fits_lock (in_lock (position_at s.positions p)) (lock_course s.lock.courses p) ≡ true
  pub leases : (p : ℕ) → is_some (lease_at s.leases p) ≡ is_leased (position_at s.positions p)
  pub different : AreDifferent s.permits.words.most s.items s.leases
  -- the items in the list and those leased are as many as the semaphore's limit
  pub counted : length s.items + how_many_leased s.leases ≡ s.permits.words.limit
  pub roomy : s.permits.words.most ≤ room
  pub as_many : length s.leases ≡ length s.positions
  pub permit_courses : length s.permits.courses ≡ length s.positions
  pub lock_courses : length s.lock.courses ≡ length s.positions

abbrev pub IsAtRest : List Position → Type 0
IsAtRest xs = AreAtRest is_resting xs

-- What callers may rest on.
pub record IsPool (s : Pool) : Type 0 where
  pub semaphore : IsPermits s.permits
  pub mutex : IsMutex s.lock
  pub permits : (p : ℕ) → fits_permits (in_permits (position_at s.positions p)) (permit_course s.permits.courses p) ≡ true
  pub locks : (p : ℕ) → fits_lock (in_lock (position_at s.positions p)) (lock_course s.lock.courses p) ≡ true
  pub leases : (p : ℕ) → is_some (lease_at s.leases p) ≡ is_leased (position_at s.positions p)
  pub different : AreDifferent s.permits.words.most s.items s.leases
  pub counted : length s.items + how_many_leased s.leases ≡ s.permits.words.limit
  pub as_many : length s.leases ≡ length s.positions
  pub permit_courses : length s.permits.courses ≡ length s.positions
  pub lock_courses : length s.lock.courses ≡ length s.positions
  -- at rest the list has as many items as permits are available and pending takes have
  pub rests : IsAtRest s.positions → length s.items ≡ s.permits.words.available + how_many_taking_out s.positions

-- ---- Which parties stand where

-- The calls of a pool.
abbrev pub knows : Call → Bool
knows call.Take = true
knows call.TryTake = true
knows call.Give = true
knows call.Poll = true
knows call.Drop = true
knows _ = false

-- a place in the program of a take's poll, of a try, of a give's poll, and of a drop
abbrev pub is_take : Place → Bool
is_take Acquire = true
is_take WaitPermit = true
is_take TakePermit = true
is_take (EnterLock aim.Take) = true
is_take (WaitLock aim.Take) = true
is_take (TakeLock aim.Take) = true
is_take (Pop taker.Poll) = true
is_take (ReleaseLock (ending.Leased taker.Poll)) = true
is_take (ReleasingLock (ending.Leased taker.Poll)) = true
is_take (ReturnPermit why.NoMemory) = true
is_take (ReturnPermit why.Starved) = true
is_take (ReturningPermit why.NoMemory) = true
is_take (ReturningPermit why.Starved) = true
is_take _ = false

abbrev pub is_try : Place → Bool
is_try TryPermit = true
is_try TryLock = true
is_try (Pop taker.Try) = true
is_try (ReleaseLock (ending.Leased taker.Try)) = true
is_try (ReleasingLock (ending.Leased taker.Try)) = true
is_try (ReturnPermit why.InVain) = true
is_try (ReturningPermit why.InVain) = true
is_try _ = false

abbrev pub is_give : Place → Bool
is_give (EnterLock aim.Give) = true
is_give (WaitLock aim.Give) = true
is_give (TakeLock aim.Give) = true
is_give Push = true
is_give (ReleaseLock ending.Given) = true
is_give (ReleasingLock ending.Given) = true
is_give (ReturnPermit why.Given) = true
is_give (ReturningPermit why.Given) = true
is_give _ = false

abbrev pub is_drop : Place → Bool
is_drop CancelPermit = true
is_drop CancellingPermit = true
is_drop (CancelLock a) = true
is_drop (CancellingLock a) = true
is_drop (ReturnPermit why.Dropped) = true
is_drop (ReturningPermit why.Dropped) = true
is_drop Lose = true
is_drop Abandon = true
is_drop _ = false

abbrev pub is_poll : Place → Bool
is_poll x = if is_take x then true else is_give x

abbrev pub is_lose : Place → Bool
is_lose Lose = true
is_lose _ = false

-- a place at which a party may stand inside a call, which is begun
abbrev pub is_begun : Place → Bool
is_begun Acquire = false
is_begun WaitPermit = false
is_begun TryPermit = false
is_begun (EnterLock aim.Give) = false
is_begun (WaitLock a) = false
is_begun CancelPermit = false
is_begun (CancelLock a) = false
is_begun Abandon = false
is_begun _ = true

-- a place in the program of a call of this kind, begun by a party that stood so
abbrev pub runs : Kind → Rest → Place → Bool
runs kind.FirstPoll rest.Idle x = is_take x
runs kind.Try rest.Idle x = is_try x
runs kind.LaterPoll rest.Pending x = is_poll x
runs kind.Give rest.Holding x = is_give x
runs kind.Drop rest.Pending x = is_drop x
runs kind.Drop rest.Holding x = is_lose x
runs _ _ x = false

-- a position of a pending party
abbrev pub is_pending : Position → Bool
is_pending (Made a) = true
is_pending Acquiring = true
is_pending (Locking a) = true
is_pending _ = false

abbrev pub is_out : Position → Bool
is_out Out = true
is_out _ = false

abbrev pub has_lease : Position → Bool
has_lease Leased = true
has_lease _ = false

-- a stage that goes with where the party stands
abbrev pub goes_with : Stage → Position → Bool
goes_with (Outside rest.Idle) x = is_out x
goes_with (Outside rest.Pending) x = is_pending x
goes_with (Outside rest.Holding) x = has_lease x
goes_with (Inside w) (At x) = is_begun x && runs w.kind w.was x
goes_with Forgotten x = is_resting x
goes_with _ _ = false

-- A party at this stage may stand where it does.
abbrev pub Stands : Pool → ℕ → Stage → Type 0
Stands s p stage = goes_with stage (position_at s.positions p) ≡ true

-- ---- How long a call takes

-- How many steps are left from a place to this party of this pool, if the others stand still.
abbrev pub left_from : Place → Pool → ℕ → ℕ
left_from x s p = left x (permit_steps_left s.permits p) (lock_steps_left s.lock p)

-- How many steps the party's call still takes at most if only this party moves.
abbrev pub steps_left : Pool → ℕ → ℕ
steps_left s p = left_at (position_at s.positions p) (permit_steps_left s.permits p) (lock_steps_left s.lock p)

-- How many steps are left after a step that has decided this.
abbrev pub left_after : Next → Pool → ℕ → ℕ
left_after n s p = left_then n (permit_steps_left s.permits p) (lock_steps_left s.lock p)

-- ---- One action

-- what a call's next is answered to a party that has this lease then
abbrev pub answer_by : Next → Option ℕ → Answer
answer_by (next.Do x) lease = answer.Stepped
answer_by (next.End e x) lease = answer_of (got_with lease) e

-- A party does the action of this place, which finds this, and goes where its program says.
pub record Acts (inputs : Inputs) (p : ℕ) (from : Place) (found : Found) (s t : Pool) : Type 0 where
  pub permits : OnPermits inputs p (action_of from) found s.permits t.permits
  pub lock : OnLock inputs p (action_of from) found s.lock t.lock
  pub items : OnItems (action_of from) s.items (lease_at s.leases p) t.items (lease_at t.leases p)
  pub leases : t.leases ≡ slice_set s.leases p (lease_at t.leases p)
  pub positions : t.positions ≡ slice_set s.positions p (position_after (next_of from found))

-- A move of the party, answered so.
pub record Moves (s : Pool) (p : ℕ) (w : Within) (what : What) (a : Answer) (t : Pool) : Type 0 where
  pub from : Place
  pub starts : place_for what (position_at s.positions p) ≡ Some from
  pub runs : runs w.kind w.was from ≡ true
  pub found : Found
  pub acts : Acts (inputs_of what) p from found s t
  -- it leaves fewer steps of the call, so that a party that moves alone ends it
  pub falls : left_after (next_of from found) t p < left_from from s p
  pub answer : a ≡ answer_by (next_of from found) (lease_at t.leases p)
