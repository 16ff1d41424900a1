-- What a whole call of a pool promises beside its end.
use Rattle.std.specs.Prelude.{◌≡◌, ◌≢◌, ℕ, ◌≤◌, ◌⊎◌, true, false}
use Rattle.lock_program.specs.declared.refusal.Refusal.TheVariants.{Starved}
use Rattle.world_base.specs.Bounds as bounds
use Rattle.world_base.specs.declared.moves.Answer.{Answer}
use Rattle.world_base.specs.declared.moves.Answer.TheVariants as answer
use Rattle.world_base.specs.declared.moves.Call.{Call}
use Rattle.world_base.specs.declared.moves.Call.TheVariants as call
use Rattle.world_base.specs.declared.moves.Got.{Got}
use Rattle.world_base.specs.declared.moves.Inputs.{Inputs}
use Rattle.world_base.specs.declared.standing.Rest.TheVariants.{Idle, Pending, Holding}
use Rattle.world_base.specs.Standings.{outside, refused}
use Rattle.world_mutex.specs.machine.Alone.{IsCalled}
use Rattle.world_mutex.specs.machine.Mutex.{course_at as lock_course, holders, starved, starved_of, IsStarved}
use Rattle.world_mutex.specs.machine.Course.{waiting}
use Rattle.world_semaphore.specs.machine.Permits.{course_at as permit_course}
use Rattle.world_pool.specs.machine.Roles.{is_wanting}
use Rattle.world_pool.specs.State.{World, standing_of, available, HasPermit}
use Rattle.world_pool.specs.Laws.{IsSound, IsAwake, is_at_rest}
use Rattle.world_pool.specs.Whole.{IsWholeCall}

-- Nobody holds the list's lock, and nobody is starved for it.
abbrev pub IsFree : World → Type 0
IsFree w = (holders w.lock ≡ 0) × (starved w.lock ≡ 0)

-- The party's take waits for a permit, in the semaphore's list or as it was refused there.
abbrev pub IsWanting : World → ℕ → Type 0
IsWanting w p = is_wanting (permit_course w.semaphore.courses p) ≡ true

-- A solo poll for the list's lock is of a pending party whose entry in the lock's list is marked, and it finds memory.
abbrev pub IsSolo : World → ℕ → Inputs → Type 0
IsSolo w p inputs = bounds.IsSolo (standing_of w p) w.lock.entries p inputs

-- The poll took the list's lock and did what it took it for: its take has an item, or its give has given one back.
abbrev pub TakesLock : Answer → Type 0
TakesLock a = ((g : Got) × (a ≡ answer.Ready g)) ⊎ (a ≡ answer.GivenBack)

-- The poll left the lock free and gave way to a starved party: it is pending again, with one entry less in the lock's list of a party that isn't starved.
pub record GivesWay (w : World) (p : ℕ) (a : Answer) (v : World) : Type 0 where
  pub free : holders v.lock ≡ 0
  pub pending : a ≡ answer.Pending
  pub gave_way : bounds.GaveWay p (starved_of w.lock) w.lock.entries (starved_of v.lock) v.lock.entries

-- What a solo poll does to a free lock: it takes it or gives way, unless it is refused as one too many of the starved, and that only where as many are as may be, of which it is none; and whatever the limit, it takes it if its party is starved, or if nobody is.
pub record SoloPoll (w : World) (p : ℕ) (a : Answer) (v : World) : Type 0 where
  pub takes_or_gives_way : a ≢ refused Starved → TakesLock a ⊎ GivesWay w p a v
  pub refused : a ≡ refused Starved → (starved w.lock ≡ w.lock.limit) × (lock_course w.lock.courses p ≡ waiting false)
  pub takes : IsStarved w.lock p ⊎ (starved w.lock ≡ 0) → TakesLock a

-- It leaves a sound World; and at rest one that is balanced, and in which no notification is lost. Where the list's lock is free, a first take and a try that find a permit available get an item, and a give gives its item back: they need no memory. And a later poll of a take that waits for a permit takes one, where one is available: if it is pending at its end, it has the permit, and waits for the list's lock alone. So among the takes that were notified of a permit the first solo poll takes it. A solo poll for a free list's lock takes it or gives way.
pub record Promises (w : World) (p : ℕ) (c : Call) (inputs : Inputs) (a : Answer) (v : World) : Type 0 where
  pub sound : IsSound v
  pub awake : is_at_rest v ≡ true → IsAwake v
  pub takes : c ≡ call.Take → standing_of w p ≡ outside Idle → 1 ≤ available w → IsFree w → (g : Got) × (a ≡ answer.Ready g)
  pub tries : c ≡ call.TryTake → standing_of w p ≡ outside Idle → 1 ≤ available w → IsFree w → (g : Got) × (a ≡ answer.Granted g)
  pub acquires : c ≡ call.Poll → standing_of w p ≡ outside Pending → IsWanting w p → 1 ≤ available w → a ≡ answer.Pending → HasPermit v p
  pub gives : c ≡ call.Give → standing_of w p ≡ outside Holding → IsFree w → a ≡ answer.GivenBack
  pub solo : c ≡ call.Poll → IsSolo w p inputs → holders w.lock ≡ 0 → SoloPoll w p a v

-- A whole solo poll that isn't refused as one too many of the starved, and doesn't take the list's lock.
pub record PassesOver (w : World) (p : ℕ) (inputs : Inputs) (a : Answer) (v : World) : Type 0 where
  pub solo : IsSolo w p inputs
  pub unrefused : a ≢ refused Starved
  pub whole : IsWholeCall w p call.Poll inputs a v
  pub not_taken : TakesLock a → ⊥

-- What holds at rest where somebody waits for the list's lock: some party that waits for it has been notified; and fewer solo polls in turn pass the lock over than its list has entries, so that among as many one takes it.
pub record IsBounded (w : World) : Type 0 where
  pub some_called : (p : ℕ) × IsCalled w.lock p
  pub one_takes : bounds.OneTakes PassesOver (λ v. v.lock.entries) w
