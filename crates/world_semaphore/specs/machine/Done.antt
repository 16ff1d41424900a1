-- What the machine behind a semaphore did. Those who build on one only pass it on, to the promise on calls that are carried out alone.
use Rattle.std.specs.Prelude.{◌≡◌, ℕ, ◌<◌, Bool, length, Option, Some, None}
use Rattle.lock_program.specs.declared.end.Next.TheVariants as next
use Rattle.lock_program.specs.declared.mutex.Step.{Step}
use Rattle.lock_program.specs.declared.mutex.Step.TheVariants as step
use Rattle.sync_program.specs.declared.permits.Place.{Place}
use Rattle.sync_program.specs.declared.permits.Position.{Position}
use Rattle.sync_program.specs.declared.permits.Position.TheVariants.{At}
use Rattle.sync_program.specs.declared.permits.SemaphoreCall.{SemaphoreCall}
use Rattle.sync_program.specs.Permits.{start_of}
use Rattle.world_semaphore.specs.machine.Machine.{Semaphore, IsSemaphore, ActsSo, position_at}
use Rattle.world_semaphore.specs.machine.Permits.{Permits}
use Rattle.world_semaphore.specs.machine.Program.{Next}
use Rattle.world_semaphore.specs.machine.Seen.{AreKept, seen}

-- What is told of what a step leads to.
abbrev pub step_of : Next → Step
step_of (next.Do x) = step.More
step_of (next.End e x) = step.End e

-- The place at which a call goes on.
abbrev pub goes_on_at : Position → Option Place
goes_on_at (At x) = Some x
goes_on_at x = None

-- The machine behind the one did the action of a place, which led to the machine behind the other.
pub record HasActed (starts : Position → Option Place) (memory : Bool) (p : ℕ) (s : Step) (old new : Permits) : Type 0 where
  pub before : Semaphore
  pub after : Semaphore
  pub old_is : old ≡ seen before
  pub new_is : new ≡ seen after
  pub known : p < length before.positions
  pub kept : AreKept before.positions
  pub kept_then : AreKept after.positions
  pub laws : IsSemaphore before
  pub laws_then : IsSemaphore after
  pub from : Place
  pub starts_at : starts (position_at before.positions p) ≡ Some from
  pub next : Next
  pub acts : ActsSo memory p from next before after
  pub step : s ≡ step_of next

abbrev pub HasBegun : SemaphoreCall → Bool → ℕ → Step → Permits → Permits → Type 0
HasBegun c = HasActed (start_of c)

abbrev pub HasGoneOn : Bool → ℕ → Step → Permits → Permits → Type 0
HasGoneOn = HasActed goes_on_at
