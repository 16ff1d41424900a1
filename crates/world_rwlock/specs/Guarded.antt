-- What a read-write lock's World stands on: a lock over a number, which calls it knows of a party, and what one action does.
use Rattle.std.specs.Prelude.{◌≡◌, ℕ, Bool, true, length, Option, Some, None}
use Rattle.world_base.specs.declared.moves.Answer.{Answer}
use Rattle.world_base.specs.declared.moves.Answer.TheVariants.{Stepped, Waiting, Granted}
use Rattle.world_base.specs.declared.moves.Call.{Call}
use Rattle.world_base.specs.declared.moves.Got.TheVariants.{Value}
use Rattle.world_base.specs.declared.moves.What.{What}
use Rattle.world_base.specs.declared.moves.What.TheVariants.{Begin, Go}
use Rattle.world_base.specs.declared.standing.Stage.{Stage}
use Rattle.world_base.specs.declared.standing.Within.{Within}
use Rattle.world_base.specs.Frame.{put_in}
use Rattle.world_base.specs.Standings.{inputs_of}
use Rattle.world_base.specs.table.Ends.{answer_of}
use Rattle.world_rwlock.specs.declared.program.led.Next.{Next}
use Rattle.world_rwlock.specs.declared.program.led.Next.TheVariants as next
use Rattle.sync_program.specs.declared.rwlock.Place.{Place}
use Rattle.world_rwlock.specs.program.Calls.{knows_at}
use Rattle.world_rwlock.specs.program.Program.{start_of}
use Rattle.world_rwlock.specs.machine.Machine.{RwLock, place_at, new_rwlock}
use Rattle.world_rwlock.specs.machine.Acts.{Acts}
use Rattle.world_rwlock.specs.Stages.{goes_with}

-- a lock, and the number that it guards
pub record Guarded : Type 0 where
  pub lock : RwLock
  pub value : ℕ

-- free, with every party out
abbrev pub new_guarded : ℕ → ℕ → ℕ → ℕ → Guarded
new_guarded parties starved readers value = record { lock = new_rwlock parties starved readers; value = value }

abbrev pub parties : Guarded → ℕ
parties x = length x.lock.places

abbrev pub place_of : Guarded → ℕ → Place
place_of x p = place_at x.lock.places p

-- the lock with another number
abbrev pub with_value : Guarded → ℕ → Guarded
with_value x v = record { lock = x.lock; value = v }

-- ---- calls

abbrev pub knows : Guarded → ℕ → Call → Bool
knows x p = knows_at (place_of x p)

-- a party at this stage may stand where it does
abbrev pub Stands : Guarded → ℕ → Stage → Type 0
Stands x p s = goes_with s (place_of x p) ≡ true

-- ---- actions

-- what a party is answered over this value whose program goes on so
abbrev pub answer_by : ℕ → Next → Answer
answer_by v (next.Do action q) = Stepped
answer_by v (next.End e q) = answer_of (Value v) e
answer_by v (next.Wait q) = Waiting

-- the place whose action a move carries out
abbrev pub place_for : What → Place → Option Place
place_for (Begin c inputs) x = start_of c x
place_for (Go inputs) x = Some x

-- the lock does one action of the party's program, and the number stays
pub record Acted (x : Guarded) (p : ℕ) (what : What) (a : Answer) (y : Guarded) : Type 0 where
  pub from : Place
  pub next : Next
  pub starts : place_for what (place_of x p) ≡ Some from
  pub acts : Acts (inputs_of what).memory (inputs_of what).starving p from next x.lock y.lock
  pub answer : a ≡ answer_by x.value next
  pub value : y.value ≡ x.value

-- a put leaves its number, and any other call acts on the lock
abbrev pub Does : Option ℕ → Guarded → ℕ → What → Answer → Guarded → Type 0
Does (Some v) x p what a y = (a ≡ Granted (Value v)) × (y ≡ with_value x v)
Does None x p what a y = Acted x p what a y

abbrev pub Moves : Guarded → ℕ → Within → What → Answer → Guarded → Type 0
Moves x p w what a y = Does (put_in what) x p what a y
