-- What an action does to how far the barrier is, and to what parties know of it.
use Rattle.world_barrier.proofs.Prelude.{◌≡◌, ◌≢◌, ℕ, ◌+◌, ◌<◌, ◌≤◌, ◌⊎◌, inl, inr, true, false, List, refl, arith, ap, ℕ_discrete, Entry, Inputs, LockStep as Step, End, Aim, Ending, Found, Place, EnterLock, WaitLock, TakeLock, Look, Join, Arrive, Complete, NotifyAll, Check, JoinAgain, ReleaseLock, ReleasingLock, Ask, CancelLock, CancellingLock, CancelLeave, Abandon, Position, At, Progress, Words, IsPast, IsWithin, IsFollower, action_of, next_of, position_after, after_lock, after_cancel, after_release, released, Finds, words_after, arrival_after, holds_there as holds, in_lock, follows, ending_follows, will_tell, Sure, Outcome, HasOutcome}
use Rattle.world_barrier.specs.program.Words.{IsSound}
use Rattle.world_barrier.specs.machine.Roles.{is_counted}

abbrev pub then : Place → Words → Words
then x w = words_after (action_of x) w

-- where the party then stands
abbrev pub after : Place → Found → Position
after x f = position_after (next_of x f)

-- which findings an action doesn't make are left out by what it finds
pub sound_then : (x : Place) (a : Progress) (w : Words) → Sure (At x) a w → IsSound w → IsSound (then x w)
sound_then Arrive a w s i = record { unfinished = λ h. s; within = i.within }
sound_then Complete a w s i = record { unfinished = λ h. absurd (omega arith); within = omega (arith, s.1) }
sound_then _ a w s i = i

pub past_then : (x : Place) (b : Progress) (w : Words) → IsPast b w.progress → IsPast b (then x w).progress
past_then Arrive b w i = record { generation = i.generation; count = λ e. (let few = i.count e in omega arith) }
past_then Complete b w i = (let less = i.generation in record { generation = omega arith; count = λ e. absurd (omega arith) })
past_then _ b w i = i

pub own_past : (x : Place) (a : Progress) (w : Words) → IsPast a w.progress → IsPast (arrival_after (action_of x) w a) (then x w).progress
own_past Arrive a w i = record { generation = omega arith; count = λ e. omega arith }
own_past Complete a w i = record { generation = omega arith; count = λ e. omega arith }
own_past _ a w i = i

-- a new arrival is ahead of each that was before
pub ahead : (x : Place) (a b : Progress) (w : Words) → IsPast b w.progress → (arrival_after (action_of x) w a ≡ a) ⊎ (b ≡ arrival_after (action_of x) w a → ⊥)
ahead Arrive a b w i = inr (λ e. (
    let same : b.generation ≡ w.progress.generation = ap (λ z. z.generation) e in
    let more : b.count ≡ w.progress.count + 1 = ap (λ z. z.count) e in
    let few = i.count same in
    omega arith
    ))
ahead Complete a b w i = inr (λ e. (
    let more : b.generation ≡ w.progress.generation + 1 = ap (λ z. z.generation) e in
    let few = i.generation in
    omega arith
    ))
ahead _ a b w i = inl refl

pub within_then : (x : Place) (a : Progress) (w : Words) → Sure (At x) a w → IsWithin w.size a → IsWithin (then x w).size (arrival_after (action_of x) w a)
within_then Arrive a w s i = λ h. s
within_then Complete a w s i = λ h. absurd (omega arith)
within_then _ a w s i = i

-- ---- who follows

lock_follows : (a : Aim) (f : Found) → follows (position_after (after_lock a f)) ≡ is_counted a
lock_follows a (Found.Lock Step.More) = refl
lock_follows Aim.Arrive (Found.Lock (Step.End End.Got)) = refl
lock_follows Aim.Check (Found.Lock (Step.End End.Got)) = refl
lock_follows a (Found.Lock (Step.End (End.Refused r))) = refl
lock_follows a (Found.Lock (Step.End _)) = refl
lock_follows a _ = refl

released_follows : (e : Ending) → follows (position_after (released e)) ≡ ending_follows e
released_follows Ending.Wait = refl
released_follows Ending.Follow = refl
released_follows Ending.Lead = refl
released_follows Ending.RefuseGenerations = refl
released_follows (Ending.RefuseMemory a) = refl

release_follows : (e : Ending) (f : Found) → follows (position_after (after_release e f)) ≡ ending_follows e
release_follows e (Found.Lock Step.More) = refl
release_follows e (Found.Lock (Step.End x)) = released_follows e
release_follows e _ = released_follows e

cancel_follows : (f : Found) → follows (position_after (after_cancel f)) ≡ false
cancel_follows (Found.Lock Step.More) = refl
cancel_follows (Found.Lock (Step.End x)) = refl
cancel_follows _ = refl

pub follower_then : (x : Place) (f : Found) (a : Progress) (w : Words) → Sure (At x) a w → (follows (At x) ≡ true → IsFollower w.size a) → follows (after x f) ≡ true → IsFollower (then x w).size (arrival_after (action_of x) w a)
follower_then (EnterLock e) f a w s was h = was (cc (h, lock_follows e f))
follower_then (WaitLock e) f a w s was h = was (cc (h, lock_follows e f))
follower_then (TakeLock e) f a w s was h = was (cc (h, lock_follows e f))
follower_then (ReleaseLock e) f a w s was h = was (cc (h, release_follows e f))
follower_then (ReleasingLock e) f a w s was h = was (cc (h, release_follows e f))
follower_then CancelLock f a w s was h = absurd (cc (h, cancel_follows f))
follower_then CancellingLock f a w s was h = absurd (cc (h, cancel_follows f))
follower_then Look Found.MustWait a w s was h = absurd (cc h)
follower_then Look Found.Leads a w s was h = absurd (cc h)
follower_then Look _ a w s was h = absurd (cc h)
follower_then Join Found.Done a w s was h = absurd (cc h)
follower_then Join _ a w s was h = absurd (cc h)
follower_then Arrive _ a w s was h = record { counted = omega arith; unfinished = s }
follower_then Complete _ a w s was h = absurd (cc h)
follower_then NotifyAll _ a w s was h = absurd (cc h)
follower_then Check _ a w s was h = was refl
follower_then JoinAgain _ a w s was h = was refl
follower_then Ask _ a w s was h = was refl
follower_then CancelLeave _ a w s was h = absurd (cc h)
follower_then Abandon _ a w s was h = absurd (cc h)

-- ---- what parties are sure of

lock_sure : (a : Aim) (f : Found) (b : Progress) (w : Words) → Sure (position_after (after_lock a f)) b w
lock_sure a (Found.Lock Step.More) b w = tt
lock_sure Aim.Arrive (Found.Lock (Step.End End.Got)) b w = tt
lock_sure Aim.Check (Found.Lock (Step.End End.Got)) b w = tt
lock_sure a (Found.Lock (Step.End (End.Refused r))) b w = tt
lock_sure a (Found.Lock (Step.End _)) b w = tt
lock_sure a _ b w = tt

released_sure : (e : Ending) (b : Progress) (w : Words) → Sure (position_after (released e)) b w
released_sure Ending.Wait b w = tt
released_sure Ending.Follow b w = tt
released_sure Ending.Lead b w = tt
released_sure Ending.RefuseGenerations b w = tt
released_sure (Ending.RefuseMemory a) b w = tt

release_sure : (e : Ending) (f : Found) (b : Progress) (w : Words) → Sure (position_after (after_release e f)) b w
release_sure e (Found.Lock Step.More) b w = tt
release_sure e (Found.Lock (Step.End x)) b w = released_sure e b w
release_sure e _ b w = released_sure e b w

cancel_sure : (f : Found) (b : Progress) (w : Words) → Sure (position_after (after_cancel f)) b w
cancel_sure (Found.Lock Step.More) b w = tt
cancel_sure (Found.Lock (Step.End x)) b w = tt
cancel_sure _ b w = tt

module _ (i : Inputs) (p : ℕ) (a : Progress) (w : Words) (l : List (Entry ℕ)) where
  pub sure_then : (x : Place) (f : Found) → Finds i p (action_of x) f w a l → Sure (At x) a w → Sure (after x f) (arrival_after (action_of x) w a) (then x w)
  sure_then (EnterLock e) f finds s = lock_sure e f a w
  sure_then (WaitLock e) f finds s = lock_sure e f a w
  sure_then (TakeLock e) f finds s = lock_sure e f a w
  sure_then (ReleaseLock e) f finds s = release_sure e f a w
  sure_then (ReleasingLock e) f finds s = release_sure e f a w
  sure_then CancelLock f finds s = cancel_sure f a w
  sure_then CancellingLock f finds s = cancel_sure f a w
  sure_then Look Found.MustWait finds s = finds
  sure_then Look Found.Leads finds s = finds
  sure_then Look _ finds s = tt
  sure_then Join Found.Done finds s = s
  sure_then Join _ finds s = tt
  sure_then Arrive _ finds s = tt
  sure_then Complete _ finds s = tt
  sure_then NotifyAll _ finds s = tt
  sure_then Check Found.Finished finds s = tt
  sure_then Check Found.Unfinished finds s = finds
  sure_then Check _ finds s = absurd finds
  sure_then JoinAgain Found.Done finds s = tt
  sure_then JoinAgain _ finds s = tt
  sure_then Ask Found.Yes finds s = tt
  sure_then Ask _ finds s = tt
  sure_then CancelLeave _ finds s = tt
  sure_then Abandon _ finds s = tt

-- ---- how waits end

lock_outcome : (a : Aim) (f : Found) (b : Progress) (w : Words) → HasOutcome (position_after (after_lock a f)) b w
lock_outcome a (Found.Lock Step.More) b w = tt
lock_outcome Aim.Arrive (Found.Lock (Step.End End.Got)) b w = tt
lock_outcome Aim.Check (Found.Lock (Step.End End.Got)) b w = tt
lock_outcome a (Found.Lock (Step.End (End.Refused r))) b w = tt
lock_outcome a (Found.Lock (Step.End _)) b w = tt
lock_outcome a _ b w = tt

released_outcome : (e : Ending) (b : Progress) (w : Words) → HasOutcome (position_after (released e)) b w
released_outcome Ending.Wait b w = tt
released_outcome Ending.Follow b w = tt
released_outcome Ending.Lead b w = tt
released_outcome Ending.RefuseGenerations b w = tt
released_outcome (Ending.RefuseMemory a) b w = tt

release_outcome : (e : Ending) (f : Found) (b : Progress) (w : Words) → Outcome e b w → HasOutcome (position_after (after_release e f)) b w
release_outcome e (Found.Lock Step.More) b w h = h
release_outcome e (Found.Lock (Step.End x)) b w h = released_outcome e b w
release_outcome e _ b w h = released_outcome e b w

cancel_outcome : (f : Found) (b : Progress) (w : Words) → HasOutcome (position_after (after_cancel f)) b w
cancel_outcome (Found.Lock Step.More) b w = tt
cancel_outcome (Found.Lock (Step.End x)) b w = tt
cancel_outcome _ b w = tt

module _ (i : Inputs) (p : ℕ) (a : Progress) (w : Words) (l : List (Entry ℕ)) where
  pub outcome_then : (x : Place) (f : Found) → Finds i p (action_of x) f w a l → IsPast a w.progress → (follows (At x) ≡ true → IsFollower w.size a) → HasOutcome (At x) a w → HasOutcome (after x f) (arrival_after (action_of x) w a) (then x w)
  outcome_then (EnterLock e) f finds past was h = lock_outcome e f a w
  outcome_then (WaitLock e) f finds past was h = lock_outcome e f a w
  outcome_then (TakeLock e) f finds past was h = lock_outcome e f a w
  outcome_then (ReleaseLock e) f finds past was h = release_outcome e f a w h
  outcome_then (ReleasingLock e) f finds past was h = release_outcome e f a w h
  outcome_then CancelLock f finds past was h = cancel_outcome f a w
  outcome_then CancellingLock f finds past was h = cancel_outcome f a w
  outcome_then Look Found.MustWait finds past was h = tt
  outcome_then Look Found.Leads finds past was h = tt
  outcome_then Look _ finds past was h = tt
  outcome_then Join Found.Done finds past was h = tt
  outcome_then Join _ finds past was h = tt
  outcome_then Arrive _ finds past was h = tt
  outcome_then Complete _ finds past was h = (refl, omega arith)
  outcome_then NotifyAll _ finds past was h = h
  outcome_then Check Found.Finished finds past was h = (was refl, less a.generation w.progress.generation past.generation finds) where
    less : (n m : ℕ) → n ≤ m → n ≢ m → n < m
    less n m few apart = elim (ℕ_discrete n m) as (λ _. n < m) [
      | yes e ↦ absurd (apart e)
      | no off ↦ omega (arith, few, off)
    ]
  outcome_then Check Found.Unfinished finds past was h = tt
  outcome_then Check _ finds past was h = absurd finds
  outcome_then JoinAgain Found.Done finds past was h = tt
  outcome_then JoinAgain _ finds past was h = tt
  outcome_then Ask Found.Yes finds past was h = tt
  outcome_then Ask _ finds past was h = tt
  outcome_then CancelLeave _ finds past was h = tt
  outcome_then Abandon _ finds past was h = tt

outcome_on : (e : Ending) (x : Place) (b : Progress) (w : Words) → Outcome e b w → Outcome e b (then x w)
outcome_on Ending.Lead x b w h = h
outcome_on Ending.Follow Arrive b w h = h
outcome_on Ending.Follow Complete b w h = (let less = h.1 in (h.0, omega arith))
outcome_on Ending.Follow _ b w h = h
outcome_on _ x b w h = tt

pub outcome_others : (x : Place) (y : Position) (b : Progress) (w : Words) → HasOutcome y b w → HasOutcome y b (then x w)
outcome_others x (At NotifyAll) b w h = h
outcome_others x (At (ReleaseLock e)) b w h = outcome_on e x b w h
outcome_others x (At (ReleasingLock e)) b w h = outcome_on e x b w h
outcome_others x (At _) b w h = tt
outcome_others x _ b w h = tt

-- only whoever has the inner lock is sure of anything
sure_free : (y : Position) (b : Progress) (w : Words) → (in_lock y ≡ holds → ⊥) → Sure y b w
sure_free (At Join) b w h = absurd (h refl)
sure_free (At Arrive) b w h = absurd (h refl)
sure_free (At Complete) b w h = absurd (h refl)
sure_free (At JoinAgain) b w h = absurd (h refl)
sure_free (At _) b w h = tt
sure_free _ b w h = tt

pub sure_others : (x : Place) (y : Position) (b : Progress) (w : Words) → (in_lock (At x) ≡ holds → in_lock y ≡ holds → ⊥) → Sure y b w → Sure y b (then x w)
sure_others Arrive y b w h s = sure_free y b (then Arrive w) (h refl)
sure_others Complete y b w h s = sure_free y b (then Complete w) (h refl)
sure_others _ y b w h s = s

-- a generation is finished by whoever then tells all
pub same_generation : (x : Place) (f : Found) (w : Words) → will_tell (after x f) ≡ false → (then x w).progress.generation ≡ w.progress.generation
same_generation Complete f w h = absurd (cc h)
same_generation Arrive f w h = refl
same_generation _ f w h = refl
