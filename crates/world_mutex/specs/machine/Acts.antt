-- What one step of a party may do to a mutex.
use Rattle.std.specs.Prelude.{◌≡◌, ◌≢◌, ℕ, ◌<◌, ◌≤◌, ◌⊎◌, Bool, true, false, List, length, slice_set}
use Rattle.std.specs.List.{sum_by}
use Rattle.lock_event.specs.Lists.{marked_count, IsMarkedFirst}
use Rattle.lock_program.specs.declared.mutex.Place.{Place}
use Rattle.lock_program.specs.declared.mutex.Action.{Action}
use Rattle.lock_program.specs.declared.mutex.Action.TheVariants as act
use Rattle.lock_program.specs.declared.mutex.Found.{Found}
use Rattle.lock_program.specs.declared.mutex.Found.TheVariants.{Done, Free, Held, SomeStarved, AtLimit, NoMemory, Yes, No}
use Rattle.world_mutex.specs.declared.program.led.Next.{Next}
use Rattle.world_mutex.specs.program.Program.{action_of, next_of, place_after}
use Rattle.lock_program.specs.MutexRoles.{holds, counted, listed, is_resting}
use Rattle.world_mutex.specs.machine.Parties.{OnParties}
use Rattle.world_base.specs.queue.Parties.{entries_of}
use Rattle.world_base.specs.table.Resting.{AreAtRest}
use Rattle.world_mutex.specs.machine.Machine.{Lock, place_at}
use Rattle.world_mutex.specs.machine.Courses.{is_waiting, is_due}

-- how many parties hold the lock, and how many are starved
abbrev pub holders : Lock → ℕ
holders l = sum_by holds l.places

abbrev pub starved : Lock → ℕ
starved l = sum_by counted l.places

abbrev pub Holds : Lock → ℕ → Type 0
Holds l p = holds (place_at l.places p) ≡ 1

abbrev pub IsStarved : Lock → ℕ → Type 0
IsStarved l p = counted (place_at l.places p) ≡ 1

-- what an action's finding says of the mutex
abbrev pub Finds : Bool → Action → Found → Lock → Type 0
Finds memory act.Take Free l = (holders l ≡ 0) × (starved l ≡ 0)
Finds memory act.Take (Held starving) l = (holders l ≡ 1) × (starved l ≡ 0)
Finds memory act.Take SomeStarved l = 0 < starved l
Finds memory act.TakeAlone Free l = (holders l ≡ 0) × (starved l ≡ 1)
Finds memory act.TakeAlone (Held starving) l = holders l ≡ 1
Finds memory act.TakeAlone SomeStarved l = (holders l ≡ 0) × (starved l ≢ 1)
Finds memory act.Set Free l = holders l ≡ 0
Finds memory act.Set (Held starving) l = holders l ≡ 1
Finds memory act.Count Done l = starved l < l.limit
Finds memory act.Count AtLimit l = starved l ≡ l.limit
Finds memory act.Uncount Done l = Unit {0}
Finds memory act.Clear Done l = holders l ≡ 1
Finds memory act.Join Done l = memory ≡ true
Finds memory act.Join NoMemory l = memory ≡ false
Finds memory act.Ask Yes l = Unit {0}
Finds memory act.Ask No l = Unit {0}
Finds memory act.Leave Done l = Unit {0}
Finds memory act.Notify Done l = Unit {0}
Finds memory act.Nothing Done l = Unit {0}
Finds memory _ _ l = ⊥

-- the party does the action of this place, and goes where its program says
pub record Acts (memory : Bool) (p : ℕ) (from : Place) (next : Next) (old new : Lock) : Type 0 where
  pub found : Found
  pub finds : Finds memory (action_of from) found old
  pub next_is : next ≡ next_of from found
  pub list : OnParties p (action_of from) found old.entries new.entries
  pub places : new.places ≡ slice_set old.places p (place_after from next)
  pub limit : new.limit ≡ old.limit

-- whoever holds the lock now and didn't before took it free, and nobody else was starved
abbrev pub TakenFairly : Lock → Lock → Type 0
TakenFairly old new = (p : ℕ) → holds (place_at old.places p) ≡ 0 → holds (place_at new.places p) ≡ 1 → (holders old ≡ 0) × ((starved old ≡ 0) ⊎ IsStarved old p)

-- every party is outside the lock's programs, or waits to be notified
abbrev pub IsAtRest : List Place → Type 0
IsAtRest xs = AreAtRest is_resting xs

-- what always holds of a mutex
pub record IsMutex (l : Lock) : Type 0 where
  pub one_holder : holders l ≤ 1
  pub few_starved : starved l ≤ l.limit
  -- a party's places in the list are told by where it stands
  pub owners : (p : ℕ) → entries_of p l.entries ≡ listed (place_at l.places p)
  pub in_order : IsMarkedFirst l.entries
  pub one_told : marked_count l.entries ≤ 1
  -- where the lock is free and a party waits in the list, some entry is marked or some party has still to notify or to look
  pub told_or_due : holders l ≡ 0 → (p : ℕ) → is_waiting (place_at l.places p) ≡ true → (0 < marked_count l.entries) ⊎ ((q : ℕ) × (is_due (place_at l.places q) ≡ true))
  -- at rest, a list that waits for a free lock has a marked entry
  pub wakes : IsAtRest l.places → holders l ≡ 0 → 0 < length l.entries → 0 < marked_count l.entries
  -- and every starved party is listed
  pub starved_listed : IsAtRest l.places → (p : ℕ) → IsStarved l p → entries_of p l.entries ≡ 1
