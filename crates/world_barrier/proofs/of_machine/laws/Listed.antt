-- Whose the entries of the barrier's list are, after an action.
use Rattle.world_barrier.proofs.Prelude.{◌≡◌, ◌≢◌, ℕ, ◌+◌, List, length, refl, Entry, entries_of, Inputs, joins, asks, leaves, notifies, joined_own, asked_own, asked_not, left_own, notified_own, LockStep as Step, End, Mutex, Action, Aim, Ending, Found, Place, EnterLock, WaitLock, TakeLock, Look, Join, Arrive, Complete, NotifyAll, Check, JoinAgain, ReleaseLock, ReleasingLock, Ask, CancelLock, CancellingLock, CancelLeave, Abandon, At, Progress, Words, action_of, position_after, after_lock, after_cancel, after_release, released, Finds, CanDo, entries_after, everyone, listed, ending_listed}
use Rattle.world_base.proofs.Lists as lists
use Rattle.world_barrier.proofs.of_machine.laws.Rows.{after}

pub lock_listed : (a : Aim) (f : Found) → listed (position_after (after_lock a f)) ≡ 0
lock_listed a (Found.Lock Step.More) = refl
lock_listed Aim.Arrive (Found.Lock (Step.End End.Got)) = refl
lock_listed Aim.Check (Found.Lock (Step.End End.Got)) = refl
lock_listed a (Found.Lock (Step.End (End.Refused r))) = refl
lock_listed a (Found.Lock (Step.End _)) = refl
lock_listed a _ = refl

released_listed : (e : Ending) → listed (position_after (released e)) ≡ ending_listed e
released_listed Ending.Wait = refl
released_listed Ending.Follow = refl
released_listed Ending.Lead = refl
released_listed Ending.RefuseGenerations = refl
released_listed (Ending.RefuseMemory a) = refl

pub release_listed : (e : Ending) (f : Found) → listed (position_after (after_release e f)) ≡ ending_listed e
release_listed e (Found.Lock Step.More) = refl
release_listed e (Found.Lock (Step.End x)) = released_listed e
release_listed e _ = released_listed e

pub cancel_listed : (f : Found) → listed (position_after (after_cancel f)) ≡ 0
cancel_listed (Found.Lock Step.More) = refl
cancel_listed (Found.Lock (Step.End x)) = refl
cancel_listed _ = refl

module _ (p : ℕ) (l : List (Entry ℕ)) where
  -- the other parties keep their entries
  pub others_listed : (a : Action) (f : Found) (j : ℕ) → j ≢ p → entries_of j (entries_after p a f l) ≡ entries_of j l
  others_listed Action.Join Found.Done j apart = lists.others p l joins j apart
  others_listed Action.Join _ j apart = refl
  others_listed Action.Ask f j apart = lists.others p l asks j apart
  others_listed Action.Leave f j apart = lists.others p l leaves j apart
  others_listed Action.NotifyAll f j apart = lists.others p l (notifies everyone) j apart
  others_listed _ f j apart = refl

  -- the list grows and shrinks by the party's own entry
  pub own_listed : (a : Action) (f : Found) (w : Words) (n : ℕ) (m : Mutex) → CanDo p a w (record { parties = n; entries = l }) m → entries_of p (entries_after p a f l) + length l ≡ entries_of p l + length (entries_after p a f l)
  own_listed Action.Join Found.Done w n m can = lists.own p l joins tt
  own_listed Action.Join _ w n m can = refl
  own_listed Action.Ask f w n m can = lists.own p l asks can.1
  own_listed Action.Leave f w n m can = lists.own p l leaves can.1
  own_listed Action.NotifyAll f w n m can = lists.own p l (notifies everyone) tt
  own_listed _ f w n m can = refl

  -- the party's entries are told by where it then stands
  pub listed_then : (i : Inputs) (w : Words) (a : Progress) (x : Place) (f : Found) → Finds i p (action_of x) f w a l → entries_of p l ≡ listed (At x) → entries_of p (entries_after p (action_of x) f l) ≡ listed (after x f)
  listed_then i w a (EnterLock e) f finds h = rw (lock_listed e f) h
  listed_then i w a (WaitLock e) f finds h = rw (lock_listed e f) h
  listed_then i w a (TakeLock e) f finds h = rw (lock_listed e f) h
  listed_then i w a (ReleaseLock e) f finds h = rw (release_listed e f) h
  listed_then i w a (ReleasingLock e) f finds h = rw (release_listed e f) h
  listed_then i w a CancelLock f finds h = rw (cancel_listed f) h
  listed_then i w a CancellingLock f finds h = rw (cancel_listed f) h
  listed_then i w a Look Found.MustWait finds h = h
  listed_then i w a Look Found.Leads finds h = h
  listed_then i w a Look _ finds h = h
  listed_then i w a Join Found.Done finds h = joined_own p l h
  listed_then i w a Join _ finds h = h
  listed_then i w a Arrive _ finds h = h
  listed_then i w a Complete _ finds h = h
  listed_then i w a NotifyAll _ finds h = notified_own p l everyone 0 h
  listed_then i w a Check Found.Finished finds h = h
  listed_then i w a Check _ finds h = h
  listed_then i w a JoinAgain Found.Done finds h = joined_own p l h
  listed_then i w a JoinAgain _ finds h = h
  listed_then i w a Ask Found.Yes finds h = asked_own p l finds h
  listed_then i w a Ask Found.No finds h = asked_not p l finds h
  listed_then i w a Ask _ finds h = absurd finds
  listed_then i w a CancelLeave _ finds h = left_own p l h
  listed_then i w a Abandon _ finds h = h
