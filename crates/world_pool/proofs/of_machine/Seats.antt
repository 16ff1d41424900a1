-- What a party has after an action: how it stands in the semaphore and in the lock, and its lease.
use Rattle.world_pool.proofs.Prelude.{◌≡◌, ℕ, Bool, true, false, Option, is_some, List, refl, ap, sym, ◌∙◌, false≢true, End, Step, Action, Aim, Ending, Found, Taker, Return, Place, Acquire, WaitPermit, TakePermit, TryPermit, TryLock, EnterLock, WaitLock, TakeLock, Pop, Push, ReleaseLock, ReleasingLock, ReturnPermit, ReturningPermit, CancelPermit, CancellingPermit, CancelLock, CancellingLock, Lose, Abandon, At, action_of, next_of, position_after, after_permit, after_lock, after_release, released, after_return, returned, after_cancel, cancelled, OnItems, InLock, has, in_permits, in_lock, is_leased}
use Rattle.world_pool.proofs.of_machine.Links
use Rattle.world_pool.proofs.of_machine.Items.{is_pop, is_loss}

-- ---- the seat after an action

try_has : (f : Found) → in_permits (position_after (next_of TryLock f)) ≡ has
try_has (Found.Lock (Step.End End.Got)) = refl
try_has _ = refl

lock_has : (a : Aim) (f : Found) → in_permits (position_after (after_lock a f)) ≡ has
lock_has a (Found.Lock Step.More) = refl
lock_has Aim.Take (Found.Lock (Step.End End.Got)) = refl
lock_has Aim.Give (Found.Lock (Step.End End.Got)) = refl
lock_has Aim.Take (Found.Lock (Step.End (End.Refused r))) = refl
lock_has Aim.Give (Found.Lock (Step.End (End.Refused r))) = refl
lock_has a _ = refl

released_has : (e : Ending) → in_permits (position_after (released e)) ≡ has
released_has (Ending.Leased Taker.Poll) = refl
released_has (Ending.Leased Taker.Try) = refl
released_has Ending.Given = refl

releasing_has : (e : Ending) → in_permits (At (ReleasingLock e)) ≡ has
releasing_has (Ending.Leased t) = refl
releasing_has Ending.Given = refl

release_has : (e : Ending) (f : Found) → in_permits (position_after (after_release e f)) ≡ has
release_has e (Found.Lock Step.More) = releasing_has e
release_has e _ = released_has e

cancelled_has : (a : Aim) → in_permits (position_after (cancelled a)) ≡ has
cancelled_has Aim.Take = refl
cancelled_has Aim.Give = refl

cancel_has : (a : Aim) (f : Found) → in_permits (position_after (after_cancel a f)) ≡ has
cancel_has a (Found.Lock Step.More) = refl
cancel_has a _ = cancelled_has a

-- a place whose action is no step of the semaphore leaves its party there where it was
pub same_permits : (x : Place) (f : Found) → Links.in_semaphore x ≡ false → in_permits (position_after (next_of x f)) ≡ in_permits (At x)
same_permits TryLock f h = try_has f
same_permits (EnterLock a) f h = lock_has a f
same_permits (WaitLock a) f h = lock_has a f
same_permits (TakeLock a) f h = lock_has a f
same_permits (ReleaseLock (Ending.Leased t)) f h = release_has (Ending.Leased t) f
same_permits (ReleaseLock Ending.Given) f h = release_has Ending.Given f
same_permits (ReleasingLock (Ending.Leased t)) f h = release_has (Ending.Leased t) f
same_permits (ReleasingLock Ending.Given) f h = release_has Ending.Given f
same_permits (CancelLock a) f h = cancel_has a f
same_permits (CancellingLock a) f h = cancel_has a f
same_permits (Pop t) f h = refl
same_permits Push f h = refl
same_permits Abandon f h = refl
same_permits _ f h = absurd (false≢true (sym h))

permit_outside : (f : Found) → in_lock (position_after (after_permit f)) ≡ InLock.outside
permit_outside (Found.Permit Step.More) = refl
permit_outside (Found.Permit (Step.End End.Got)) = refl
permit_outside (Found.Permit (Step.End (End.Refused r))) = refl
permit_outside _ = refl

try_outside : (f : Found) → in_lock (position_after (next_of TryPermit f)) ≡ InLock.outside
try_outside (Found.Permit (Step.End End.Granted)) = refl
try_outside _ = refl

returned_outside : (r : Return) → in_lock (position_after (returned r)) ≡ InLock.outside
returned_outside Return.Given = refl
returned_outside Return.Dropped = refl
returned_outside Return.InVain = refl
returned_outside Return.NoMemory = refl
returned_outside Return.Starved = refl

return_outside : (r : Return) (f : Found) → in_lock (position_after (after_return r f)) ≡ InLock.outside
return_outside r (Found.Permit Step.More) = refl
return_outside r _ = returned_outside r

cancel_outside : (f : Found) → in_lock (position_after (next_of CancelPermit f)) ≡ InLock.outside
cancel_outside (Found.Permit Step.More) = refl
cancel_outside _ = refl

-- and one whose action is no step of the lock
pub same_lock : (x : Place) (f : Found) → Links.in_mutex x ≡ false → in_lock (position_after (next_of x f)) ≡ in_lock (At x)
same_lock Acquire f h = permit_outside f
same_lock WaitPermit f h = permit_outside f
same_lock TakePermit f h = permit_outside f
same_lock TryPermit f h = try_outside f
same_lock (ReturnPermit r) f h = return_outside r f
same_lock (ReturningPermit r) f h = return_outside r f
same_lock CancelPermit f h = cancel_outside f
same_lock CancellingPermit f h = cancel_outside f
same_lock (Pop t) f h = refl
same_lock Push f h = refl
same_lock Lose f h = refl
same_lock Abandon f h = refl
same_lock _ f h = absurd (false≢true (sym h))

-- ---- and its lease

take_bare : (f : Found) → is_leased (position_after (after_permit f)) ≡ false
take_bare (Found.Permit Step.More) = refl
take_bare (Found.Permit (Step.End End.Got)) = refl
take_bare (Found.Permit (Step.End (End.Refused r))) = refl
take_bare _ = refl

try_permit_bare : (f : Found) → is_leased (position_after (next_of TryPermit f)) ≡ false
try_permit_bare (Found.Permit (Step.End End.Granted)) = refl
try_permit_bare _ = refl

try_lock_bare : (f : Found) → is_leased (position_after (next_of TryLock f)) ≡ false
try_lock_bare (Found.Lock (Step.End End.Got)) = refl
try_lock_bare _ = refl

lock_lease : (a : Aim) (f : Found) → is_leased (position_after (after_lock a f)) ≡ is_leased (At (TakeLock a))
lock_lease a (Found.Lock Step.More) = refl
lock_lease Aim.Take (Found.Lock (Step.End End.Got)) = refl
lock_lease Aim.Give (Found.Lock (Step.End End.Got)) = refl
lock_lease Aim.Take (Found.Lock (Step.End (End.Refused r))) = refl
lock_lease Aim.Give (Found.Lock (Step.End (End.Refused r))) = refl
lock_lease a _ = refl

released_lease : (e : Ending) → is_leased (position_after (released e)) ≡ is_leased (At (ReleaseLock e))
released_lease (Ending.Leased Taker.Poll) = refl
released_lease (Ending.Leased Taker.Try) = refl
released_lease Ending.Given = refl

releasing_lease : (e : Ending) → is_leased (At (ReleasingLock e)) ≡ is_leased (At (ReleaseLock e))
releasing_lease (Ending.Leased t) = refl
releasing_lease Ending.Given = refl

release_lease : (e : Ending) (f : Found) → is_leased (position_after (after_release e f)) ≡ is_leased (At (ReleaseLock e))
release_lease e (Found.Lock Step.More) = releasing_lease e
release_lease e _ = released_lease e

returned_bare : (r : Return) → is_leased (position_after (returned r)) ≡ false
returned_bare Return.Given = refl
returned_bare Return.Dropped = refl
returned_bare Return.InVain = refl
returned_bare Return.NoMemory = refl
returned_bare Return.Starved = refl

return_bare : (r : Return) (f : Found) → is_leased (position_after (after_return r f)) ≡ false
return_bare r (Found.Permit Step.More) = refl
return_bare r _ = returned_bare r

cancel_bare : (f : Found) → is_leased (position_after (next_of CancelPermit f)) ≡ false
cancel_bare (Found.Permit Step.More) = refl
cancel_bare _ = refl

cancelled_lease : (a : Aim) → is_leased (position_after (cancelled a)) ≡ is_leased (At (CancelLock a))
cancelled_lease Aim.Take = refl
cancelled_lease Aim.Give = refl

cancel_lease : (a : Aim) (f : Found) → is_leased (position_after (after_cancel a f)) ≡ is_leased (At (CancelLock a))
cancel_lease a (Found.Lock Step.More) = refl
cancel_lease a _ = cancelled_lease a

-- what becomes of the lease by the action
abbrev pub leases_then : Action → Bool → Bool
leases_then Action.Pop b = true
leases_then Action.Push b = false
leases_then Action.Lose b = false
leases_then _ b = b

pub leased_after : (x : Place) (f : Found) → is_leased (position_after (next_of x f)) ≡ leases_then (action_of x) (is_leased (At x))
leased_after Acquire f = take_bare f
leased_after WaitPermit f = take_bare f
leased_after TakePermit f = take_bare f
leased_after TryPermit f = try_permit_bare f
leased_after TryLock f = try_lock_bare f
leased_after (EnterLock a) f = lock_lease a f
leased_after (WaitLock a) f = lock_lease a f
leased_after (TakeLock a) f = lock_lease a f
leased_after (Pop t) f = refl
leased_after Push f = refl
leased_after (ReleaseLock e) f = release_lease e f
leased_after (ReleasingLock e) f = release_lease e f ∙ sym (releasing_lease e)
leased_after (ReturnPermit r) f = return_bare r f
leased_after (ReturningPermit r) f = return_bare r f
leased_after CancelPermit f = cancel_bare f
leased_after CancellingPermit f = cancel_bare f
leased_after (CancelLock a) f = cancel_lease a f
leased_after (CancellingLock a) f = cancel_lease a f
leased_after Lose f = refl
leased_after Abandon f = refl

pub lease_made : (a : Action) (items : List ℕ) (lease : Option ℕ) (new : List ℕ) (then : Option ℕ) → OnItems a items lease new then → is_some then ≡ leases_then a (is_some lease)
lease_made Action.Pop items lease new then e = ap is_some e.2
lease_made Action.Push items lease new then e = ap is_some e.3
lease_made Action.Lose items lease new then e = ap is_some e.1
lease_made _ items lease new then e = ap is_some e.1

pub pops_bare : (x : Place) → is_pop (action_of x) ≡ true → is_leased (At x) ≡ false
pops_bare (Pop t) h = refl
pops_bare _ h = absurd (false≢true h)

pub loses_leased : (x : Place) → is_loss (action_of x) ≡ true → is_leased (At x) ≡ true
loses_leased Lose h = refl
loses_leased _ h = absurd (false≢true h)
