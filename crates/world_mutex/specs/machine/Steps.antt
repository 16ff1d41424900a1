-- A step of a party's call on a mutex, and all that those may know of it who build on one.
use Rattle.std.specs.Prelude.{◌≡◌, ℕ, ◌<◌, ◌⊎◌, Bool, true, false}
use Rattle.world_mutex.specs.machine.Conduct.{IsLong, StaysLong, BeginsLong, ServesInTurn}
use Rattle.world_mutex.specs.machine.Course.{waiting}
use Rattle.world_base.specs.Steps.{leaves, list_after}
use Rattle.lock_program.specs.declared.end.End.TheVariants.{GivenBack}
use Rattle.world_base.specs.queue.Parties.{entries_of}
use Rattle.lock_program.specs.declared.end.End.TheVariants.{Got}
use Rattle.lock_program.specs.declared.mutex.LockCall.{LockCall}
use Rattle.lock_program.specs.declared.mutex.LockCall.TheVariants as call
use Rattle.lock_program.specs.declared.mutex.Step.{Step}
use Rattle.lock_program.specs.declared.mutex.Step.TheVariants as step
use Rattle.world_mutex.specs.machine.Alone.{HasBegun, HasGoneOn}
use Rattle.world_mutex.specs.machine.Conduct.{IsLegal, IsUnrefused, TakesAtOnce, HeedsClock, CountsNobody, HandsOn, BeginsToHandOn, is_some_starved, IsUntold, StaysUntold}
use Rattle.world_mutex.specs.machine.Course.{decision, is_told, Begins, GoesOn}
use Rattle.world_mutex.specs.machine.Effects.{decided_by, is_fresh}
use Rattle.world_mutex.specs.machine.Mutex.{Mutex, course_at, left_after, steps_left, TakenFairly}
use Rattle.world_mutex.specs.machine.Ranks.{most_steps}

-- The first step of a call. It leads where such a call may begin; a first poll, a try, and a poll of a party in no list take a free lock at once; if only this party moves until the call ends, it has at most so many steps; no call is refused at its first step; a first poll gets the lock or goes on, and a release goes on, to notify; a newcomer doesn't take the lock beside starved parties; a notified party that has waited for too long, or beside whom somebody is starved, is counted while another holds the lock; and the drop of one that waits and isn't starved is over at once. What was done behind it, `done`, is there for the promise on polls alone.
pub record LockBegins (memory starving : Bool) (p : ℕ) (c : LockCall) (s : Step) (old new : Mutex) : Type 0 where
  pub leads : Begins c s (course_at new.courses p)
  pub legal : IsLegal memory p (decided_by c) s old new
  pub at_once : TakesAtOnce c p s old new
  pub fair : TakenFairly old new
  pub bounded : left_after s new p < most_steps c
  pub unrefused : IsUnrefused s (course_at new.courses p)
  pub patient : CountsNobody starving p old new
  pub hands_on : BeginsToHandOn c (course_at old.courses p) s (course_at new.courses p) new.entries
  pub first : c ≡ call.Lock → (s ≡ step.More) ⊎ (s ≡ step.End Got)
  pub releases : c ≡ call.Release → s ≡ step.More
  pub untold : is_fresh c (entries_of p old.entries) ≡ true → StaysUntold p (is_some_starved old) s new
  pub long : memory ≡ true → c ≡ call.Poll → BeginsLong starving p old → StaysLong starving p s new
  pub in_turn : ServesInTurn p old new
  pub abandons : c ≡ call.Cancel → course_at old.courses p ≡ waiting false → (s ≡ step.End GivenBack) × (new.entries ≡ list_after p leaves old.entries)
  pub done : HasBegun memory p c s old new

-- A further step. It leaves fewer steps to do, so that a party that moves alone ends its call, whatever the others were about. The clock matters where a notified party finds the lock held, and who hasn't waited for too long isn't counted as starved while nobody is. Who took a notification and is refused has handed it on; who took none goes on as a newcomer; and who is to be counted is.
pub record LockGoesOn (memory starving : Bool) (p : ℕ) (s : Step) (old new : Mutex) : Type 0 where
  pub leads : GoesOn (course_at old.courses p) s (course_at new.courses p)
  pub legal : IsLegal memory p (decision (course_at old.courses p)) s old new
  pub fair : TakenFairly old new
  pub falls : left_after s new p < steps_left old p
  pub clock : HeedsClock starving (course_at old.courses p) old (course_at new.courses p)
  pub patient : CountsNobody starving p old new
  pub hands_on : is_told (course_at old.courses p) ≡ true → HandsOn s (course_at new.courses p) new.entries
  pub untold : IsUntold p (is_some_starved old) old → StaysUntold p (is_some_starved old) s new
  pub long : memory ≡ true → IsLong starving p old → StaysLong starving p s new
  pub in_turn : ServesInTurn p old new
  pub done : HasGoneOn memory p s old new
