-- What an action needs is there.
use Rattle.world_barrier.proofs.Prelude.{◌≡◌, ℕ, ◌<◌, true, List, length, refl, arith, ap, sym, ◌∙◌, entries_of, Queue, Within, Mutex, course_at, may_lock, may_poll, may_cancel, may_release, Place, EnterLock, WaitLock, TakeLock, Join, Arrive, Complete, JoinAgain, ReleaseLock, ReleasingLock, Ask, CancelLock, CancellingLock, CancelLeave, Position, At, Progress, Words, action_of, CanDo, fits_lock, listed, in_lock, Sure, IsKept, position_at, arrival_at}
use Rattle.world_barrier.proofs.of_machine.stages.Starts.{Fits}

module _ (p : ℕ) (w : Words) (xs : List Position) (rs : List Progress) (q : Queue) (m : Mutex) (kept : IsKept w xs rs q m) (known : p < length xs) (v : Within) where
  -- the party's course in the inner lock
  pub linked : (x : Place) → Fits v (position_at xs p) x → fits_lock (in_lock (At x)) (course_at m.courses p) ≡ true
  linked x fit = ap (λ l. fits_lock l (course_at m.courses p)) fit.lock ∙ kept.links p

  pub entries_are : (x : Place) → Fits v (position_at xs p) x → entries_of p q.entries ≡ listed (At x)
  entries_are x fit = kept.owners p ∙ sym fit.stands

  pub is_sure : (x : Place) → Fits v (position_at xs p) x → Sure (At x) (arrival_at rs p) w
  is_sure x fit = fit.sure (arrival_at rs p) w (kept.sure p)

  in_queue : p < q.parties
  in_queue = rw kept.parties known

  in_mutex : p < length m.courses
  in_mutex = rw kept.courses known

  is_listed : (x : Place) → Fits v (position_at xs p) x → listed (At x) ≡ 1 → (p < q.parties) × (0 < entries_of p q.entries)
  is_listed x fit e = let one : entries_of p q.entries ≡ 1 = entries_are x fit ∙ e in (in_queue, omega arith)

  pub can_do : (x : Place) → Fits v (position_at xs p) x → CanDo p (action_of x) w q m
  can_do (EnterLock a) fit = (in_mutex, may_lock (course_at m.courses p) (linked (EnterLock a) fit))
  can_do (WaitLock a) fit = (in_mutex, may_poll (course_at m.courses p) (linked (WaitLock a) fit))
  can_do (TakeLock a) fit = in_mutex
  can_do (ReleaseLock e) fit = (in_mutex, may_release (course_at m.courses p) (linked (ReleaseLock e) fit))
  can_do (ReleasingLock e) fit = in_mutex
  can_do CancelLock fit = (in_mutex, may_cancel (course_at m.courses p) (linked CancelLock fit))
  can_do CancellingLock fit = in_mutex
  can_do Join fit = (in_queue, entries_are Join fit)
  can_do JoinAgain fit = (in_queue, entries_are JoinAgain fit)
  can_do Ask fit = is_listed Ask fit refl
  can_do CancelLeave fit = is_listed CancelLeave fit refl
  can_do Arrive fit = is_sure Arrive fit
  can_do Complete fit = (is_sure Complete fit).1
  can_do _ fit = tt
