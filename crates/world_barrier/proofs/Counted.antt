-- Whose wait is counted, by where it stands.
use Rattle.world_barrier.proofs.Prelude.{◌≡◌, ℕ, true, false, Some, None, refl, Aim, Ending, Place, EnterLock, WaitLock, TakeLock, Look, Join, Arrive, Complete, ReleaseLock, ReleasingLock, CancelLock, CancellingLock, CancelLeave, Abandon, Position, Out, Made, Locking, Waiting, At, Wait, no_wait, uncounted, counted, is_counted, wait_for, wait_until, place_wait as wait_of, wait_at}
use Rattle.world_barrier.specs.machine.Waits.{number_of}

-- a wait has its number, whichever that is, or none
data Numbered (a : ℕ) : Wait → Wait → Type 0 where
  with_number : (n : ℕ) → Numbered a (counted n) (counted a)
  without : Numbered a no_wait no_wait
  not_yet : Numbered a uncounted uncounted

module _ (n a : ℕ) where
  by_aim : (x : Aim) → Numbered a (wait_for x n) (wait_for x a)
  by_aim Aim.Arrive = not_yet
  by_aim Aim.Check = with_number n

  by_ending : (e : Ending) → Numbered a (wait_until e n) (wait_until e a)
  by_ending Ending.Wait = with_number n
  by_ending Ending.Follow = with_number n
  by_ending Ending.Lead = with_number n
  by_ending Ending.RefuseGenerations = not_yet
  by_ending (Ending.RefuseMemory x) = by_aim x

  by_place : (x : Place) → Numbered a (wait_of x n) (wait_of x a)
  by_place (EnterLock x) = by_aim x
  by_place (WaitLock x) = by_aim x
  by_place (TakeLock x) = by_aim x
  by_place Look = not_yet
  by_place Join = not_yet
  by_place Arrive = not_yet
  by_place Complete = not_yet
  by_place (ReleaseLock e) = by_ending e
  by_place (ReleasingLock e) = by_ending e
  by_place CancelLock = without
  by_place CancellingLock = without
  by_place CancelLeave = without
  by_place Abandon = without
  by_place _ = with_number n

  by_position : (x : Position) → Numbered a (wait_at x n) (wait_at x a)
  by_position Out = without
  by_position (Made x) = by_aim x
  by_position (Locking x) = by_aim x
  by_position Waiting = with_number n
  by_position (At x) = by_place x

  has_number : (v w : Wait) → Numbered a v w → is_counted v ≡ true → number_of w ≡ Some a
  has_number _ _ (with_number k) h = refl
  has_number _ _ without h = absurd (cc h)
  has_number _ _ not_yet h = absurd (cc h)

  has_none : (v w : Wait) → Numbered a v w → is_counted v ≡ false → number_of w ≡ None
  has_none _ _ (with_number k) h = absurd (cc h)
  has_none _ _ without h = refl
  has_none _ _ not_yet h = refl

pub numbered : (x : Position) (a : ℕ) → is_counted (wait_at x 0) ≡ true → number_of (wait_at x a) ≡ Some a
numbered x a h = has_number 0 a (wait_at x 0) (wait_at x a) (by_position 0 a x) h

pub unnumbered : (x : Position) (a : ℕ) → is_counted (wait_at x 0) ≡ false → number_of (wait_at x a) ≡ None
unnumbered x a h = has_none 0 a (wait_at x 0) (wait_at x a) (by_position 0 a x) h
