-- Why a try is in vain.
use Rattle.world_pool.proofs.Prelude.{◌≡◌, ℕ, ◌<◌, ◌⊎◌, inl, inr, Bool, true, false, Option, Some, None, refl, ap, sym, ◌∙◌, subst, some_eq, none_some, false≢true, Answer, Got, Inputs, Move, What, Rest, Stage, Outside, Inside, Forgotten, Begin, Go, Within, inside, ◌≢◌, Out, Made, Acquiring, Locking, Leased, goes_with, get_or-set_same, inputs_of, Table, stage_at, stands_as, answer_of, got_with, End, Step, Refusal, Mutex, lock_course, Permits, permit_course, Aim, Ending, Taker, Return, Found, Next, Place, Acquire, WaitPermit, TakePermit, TryPermit, TryLock, EnterLock, WaitLock, TakeLock, Pop, Push, ReleaseLock, ReleasingLock, ReturnPermit, ReturningPermit, CancelPermit, CancellingPermit, CancelLock, CancellingLock, Lose, Abandon, Position, At, action_of, next_of, position_after, place_for, after_permit, after_lock, after_release, released, after_return, returned, after_cancel, cancelled, OnPermits, OnLock, Pool, position_at, lease_at, answer_by, standing_of, view_of, verdict, verdict_of, verdict_in, decided_inside}
use Rattle.lock_program.specs.declared.end.Next.TheVariants as next
use Rattle.world_base.specs.Standings.{is_decided, Decides, decision}
use Rattle.world_base.proofs.of_table.Calls.{decided_after, decision_seen}
use Rattle.world_mutex.specs.machine.Course as lock
use Rattle.world_mutex.specs.machine.Mutex.{holders, starved}
use Rattle.world_semaphore.specs.machine.Course as permit
use Rattle.world_pool.specs.AtOnce.{IsInVain}
use Rattle.world_pool.specs.View.{decided_ending, decided_return}
use Rattle.world_pool.proofs.table.Seen as seen
use Rattle.world_pool.specs.declared.program.places.PoolCall.{PoolCall}
use Rattle.world_pool.specs.program.Program.{start_of, started, asked_of}
use Rattle.world_pool.proofs.step.Acting.{Acting, now_standing}

-- a place at which a call is decided on None
abbrev is_vain : Place → Bool
is_vain (ReturnPermit Return.InVain) = true
is_vain (ReturningPermit Return.InVain) = true
is_vain _ = false

abbrev vains : Next → Bool
vains (next.Do y) = is_vain y
vains (next.End End.NotFree x) = true
vains (next.End e x) = false

inside_never : (d : Option End) → decided_inside d ≡ Some Answer.None → ⊥
inside_never None e = none_some e
inside_never (Some End.Got) e = none_some e
inside_never (Some End.Granted) e = none_some e
inside_never (Some End.Pending) e = cc (some_eq e)
inside_never (Some End.Waiting) e = none_some e
inside_never (Some End.NotFree) e = none_some e
inside_never (Some End.GivenBack) e = none_some e
inside_never (Some (End.Refused r)) e = cc (some_eq e)

ending_never : (k : Ending) (l : Option ℕ) → decided_ending k l ≡ Some Answer.None → ⊥
ending_never (Ending.Leased Taker.Poll) l e = cc (some_eq e)
ending_never (Ending.Leased Taker.Try) l e = cc (some_eq e)
ending_never Ending.Given l e = cc (some_eq e)

return_vain : (r : Return) → decided_return r ≡ Some Answer.None → is_vain (ReturnPermit r) ≡ true
return_vain Return.InVain e = refl
return_vain Return.Given e = absurd (cc (some_eq e))
return_vain Return.Dropped e = absurd (cc (some_eq e))
return_vain Return.NoMemory e = absurd (cc (some_eq e))
return_vain Return.Starved e = absurd (cc (some_eq e))

returning_vain : (r : Return) → is_vain (ReturnPermit r) ≡ true → is_vain (ReturningPermit r) ≡ true
returning_vain Return.InVain h = refl
returning_vain Return.Given h = absurd (false≢true h)
returning_vain Return.Dropped h = absurd (false≢true h)
returning_vain Return.NoMemory h = absurd (false≢true h)
returning_vain Return.Starved h = absurd (false≢true h)

place_vain : (y : Place) (c : permit.Course) (d : lock.Course) (l : Option ℕ) → verdict_of y c d l ≡ Some Answer.None → is_vain y ≡ true
place_vain TakePermit c d l e = absurd (inside_never (permit.decision c) e)
place_vain (TakeLock a) c d l e = absurd (inside_never (lock.decision d) e)
place_vain (ReleaseLock k) c d l e = absurd (ending_never k l e)
place_vain (ReleasingLock k) c d l e = absurd (ending_never k l e)
place_vain (ReturnPermit r) c d l e = return_vain r e
place_vain (ReturningPermit r) c d l e = returning_vain r (return_vain r e)
place_vain CancelPermit c d l e = absurd (cc (some_eq e))
place_vain CancellingPermit c d l e = absurd (cc (some_eq e))
place_vain (CancelLock a) c d l e = absurd (cc (some_eq e))
place_vain (CancellingLock a) c d l e = absurd (cc (some_eq e))
place_vain Lose c d l e = absurd (cc (some_eq e))
place_vain Abandon c d l e = absurd (cc (some_eq e))
place_vain _ c d l e = absurd (none_some e)

end_vain : (e : End) (g : Got) (x : Position) → answer_of g e ≡ Answer.None → vains (next.End e x) ≡ true
end_vain End.NotFree g x h = refl
end_vain End.Got g x h = absurd (cc h)
end_vain End.Granted g x h = absurd (cc h)
end_vain End.Pending g x h = absurd (cc h)
end_vain End.Waiting g x h = absurd (cc h)
end_vain End.GivenBack g x h = absurd (cc h)
end_vain (End.Refused r) g x h = absurd (cc h)

answered : (a : Answer) (d : Option Answer) → a ≢ Answer.Stepped → decided_after a d ≡ Some Answer.None → a ≡ Answer.None
answered Answer.Stepped d n e = absurd (n refl)
answered Answer.Pending d n e = some_eq e
answered (Answer.Ready g) d n e = some_eq e
answered (Answer.Granted g) d n e = some_eq e
answered Answer.None d n e = refl
answered Answer.GivenBack d n e = some_eq e
answered Answer.Waiting d n e = some_eq e
answered (Answer.Refused k) d n e = some_eq e
answered Answer.NotPossible d n e = some_eq e

-- which step leads there: a try's, or one that was in vain already
abbrev LeadsIn : Place → Type 0
LeadsIn x = (x ≡ TryPermit) ⊎ ((x ≡ TryLock) ⊎ (is_vain x ≡ true))

permit_never : (f : Found) → vains (after_permit f) ≡ false
permit_never (Found.Permit Step.More) = refl
permit_never (Found.Permit (Step.End End.Got)) = refl
permit_never (Found.Permit (Step.End (End.Refused r))) = refl
permit_never _ = refl

lock_never : (a : Aim) (f : Found) → vains (after_lock a f) ≡ false
lock_never a (Found.Lock Step.More) = refl
lock_never Aim.Take (Found.Lock (Step.End End.Got)) = refl
lock_never Aim.Give (Found.Lock (Step.End End.Got)) = refl
lock_never Aim.Take (Found.Lock (Step.End (End.Refused Refusal.Starved))) = refl
lock_never Aim.Take (Found.Lock (Step.End (End.Refused _))) = refl
lock_never Aim.Give (Found.Lock (Step.End (End.Refused r))) = refl
lock_never a _ = refl

released_never : (k : Ending) → vains (released k) ≡ false
released_never (Ending.Leased Taker.Poll) = refl
released_never (Ending.Leased Taker.Try) = refl
released_never Ending.Given = refl

release_never : (k : Ending) (f : Found) → vains (after_release k f) ≡ false
release_never k (Found.Lock Step.More) = refl
release_never k _ = released_never k

cancelled_never : (a : Aim) → vains (cancelled a) ≡ false
cancelled_never Aim.Take = refl
cancelled_never Aim.Give = refl

cancel_never : (a : Aim) (f : Found) → vains (after_cancel a f) ≡ false
cancel_never a (Found.Lock Step.More) = refl
cancel_never a _ = cancelled_never a

cancel_permit_never : (f : Found) → vains (next_of CancelPermit f) ≡ false
cancel_permit_never (Found.Permit Step.More) = refl
cancel_permit_never _ = refl

returned_so : (r : Return) → vains (returned r) ≡ true → is_vain (ReturnPermit r) ≡ true
returned_so Return.InVain h = refl
returned_so Return.Given h = absurd (false≢true h)
returned_so Return.Dropped h = absurd (false≢true h)
returned_so Return.NoMemory h = absurd (false≢true h)
returned_so Return.Starved h = absurd (false≢true h)

going_so : (r : Return) → is_vain (ReturningPermit r) ≡ true → is_vain (ReturnPermit r) ≡ true
going_so Return.InVain h = refl
going_so Return.Given h = absurd (false≢true h)
going_so Return.Dropped h = absurd (false≢true h)
going_so Return.NoMemory h = absurd (false≢true h)
going_so Return.Starved h = absurd (false≢true h)

return_so : (r : Return) (f : Found) → vains (after_return r f) ≡ true → is_vain (ReturnPermit r) ≡ true
return_so r (Found.Permit Step.More) h = going_so r h
return_so r _ h = returned_so r h

no_lead : (b : Bool) → b ≡ false → b ≡ true → ⊥
no_lead b e h = false≢true (sym e ∙ h)

leads_in : (x : Place) (f : Found) → vains (next_of x f) ≡ true → LeadsIn x
leads_in TryPermit f h = inl refl
leads_in TryLock f h = inr (inl refl)
leads_in Acquire f h = absurd (no_lead _ (permit_never f) h)
leads_in WaitPermit f h = absurd (no_lead _ (permit_never f) h)
leads_in TakePermit f h = absurd (no_lead _ (permit_never f) h)
leads_in (EnterLock a) f h = absurd (no_lead _ (lock_never a f) h)
leads_in (WaitLock a) f h = absurd (no_lead _ (lock_never a f) h)
leads_in (TakeLock a) f h = absurd (no_lead _ (lock_never a f) h)
leads_in (Pop t) f h = absurd (false≢true h)
leads_in Push f h = absurd (false≢true h)
leads_in (ReleaseLock k) f h = absurd (no_lead _ (release_never k f) h)
leads_in (ReleasingLock k) f h = absurd (no_lead _ (release_never k f) h)
leads_in (ReturnPermit r) f h = inr (inr (return_so r f h))
leads_in (ReturningPermit r) f h = inr (inr (returning_vain r (return_so r f h)))
leads_in CancelPermit f h = absurd (no_lead _ (cancel_permit_never f) h)
leads_in CancellingPermit f h = absurd (no_lead _ (cancel_permit_never f) h)
leads_in (CancelLock a) f h = absurd (no_lead _ (cancel_never a f) h)
leads_in (CancellingLock a) f h = absurd (no_lead _ (cancel_never a f) h)
leads_in Lose f h = absurd (false≢true h)
leads_in Abandon f h = absurd (false≢true h)

-- why a try finds nothing
try_permit_vain : (i : Inputs) (p : ℕ) (f : Found) (t u : Permits) → OnPermits i p (action_of TryPermit) f t u → vains (next_of TryPermit f) ≡ true → t.words.available < 1
try_permit_vain i p (Found.Permit (Step.End End.Granted)) t u h v = absurd (false≢true v)
try_permit_vain i p (Found.Permit (Step.End End.NotFree)) t u h v = h.legal.reason End.NotFree refl refl
try_permit_vain i p (Found.Permit _) t u h v = absurd h.leads
try_permit_vain i p _ t u h v = absurd h

try_lock_vain : (i : Inputs) (p : ℕ) (f : Found) (t u : Mutex) → OnLock i p (action_of TryLock) f t u → vains (next_of TryLock f) ≡ true → (holders t ≡ 1) ⊎ (0 < starved t)
try_lock_vain i p (Found.Lock (Step.End End.Got)) t u h v = absurd (false≢true v)
try_lock_vain i p (Found.Lock (Step.End End.NotFree)) t u h v = h.legal.reason End.NotFree refl refl
try_lock_vain i p (Found.Lock _) t u h v = absurd h.leads
try_lock_vain i p _ t u h v = absurd h

was_vain : (y : Place) (c : permit.Course) (d : lock.Course) (l : Option ℕ) → is_vain y ≡ true → verdict_of y c d l ≡ Some Answer.None
was_vain (ReturnPermit Return.InVain) c d l h = refl
was_vain (ReturningPermit Return.InVain) c d l h = refl
was_vain _ c d l h = absurd (cc h)

-- no call begins there
begins_never : (c : PoolCall) (x : Position) (from : Place) → start_of c x ≡ Some from → is_vain from ≡ false
begins_never PoolCall.Take Out from e = ap is_vain (sym (some_eq e))
begins_never PoolCall.TryTake Out from e = ap is_vain (sym (some_eq e))
begins_never PoolCall.Give Leased from e = ap is_vain (sym (some_eq e))
begins_never PoolCall.Poll (Made Aim.Take) from e = ap is_vain (sym (some_eq e))
begins_never PoolCall.Poll (Made Aim.Give) from e = ap is_vain (sym (some_eq e))
begins_never PoolCall.Poll Acquiring from e = ap is_vain (sym (some_eq e))
begins_never PoolCall.Poll (Locking a) from e = ap is_vain (sym (some_eq e))
begins_never PoolCall.Drop (Made Aim.Take) from e = ap is_vain (sym (some_eq e))
begins_never PoolCall.Drop (Made Aim.Give) from e = ap is_vain (sym (some_eq e))
begins_never PoolCall.Drop Acquiring from e = ap is_vain (sym (some_eq e))
begins_never PoolCall.Drop (Locking a) from e = ap is_vain (sym (some_eq e))
begins_never PoolCall.Drop Leased from e = ap is_vain (sym (some_eq e))
begins_never _ _ from e = absurd (none_some e)

call_never : (o : Option PoolCall) (x : Position) (from : Place) → started o x ≡ Some from → is_vain from ≡ true → ⊥
call_never (Some c) x from e h = false≢true (sym (begins_never c x from e) ∙ h)
call_never None x from e h = none_some e

go_place : (what : What) (x : Position) (from : Place) → place_for what x ≡ Some from → is_vain from ≡ true → x ≡ At from
go_place (Go i) (At y) from e h = ap At (some_eq e)
go_place (Go i) _ from e h = absurd (none_some e)
go_place (Begin c i) x from e h = absurd (call_never (asked_of c) x from e h)

inside_decided : (d : Option Answer) (st : Stage) (y : Place) → d ≡ Some Answer.None → goes_with st (At y) ≡ true → is_decided (stands_as d st) ≡ true
inside_decided d (Inside w) y e h = ap (λ z. is_decided (inside w z)) e
inside_decided d (Outside Rest.Idle) y e h = absurd (false≢true h)
inside_decided d (Outside Rest.Pending) y e h = absurd (false≢true h)
inside_decided d (Outside Rest.Holding) y e h = absurd (false≢true h)
inside_decided d (Outside Rest.Finished) y e h = absurd (false≢true h)
inside_decided d Forgotten y e h = absurd (false≢true h)

module _ (t u : Table Pool) (m : Move) (a : Answer) (w : Within) (k : Acting t u m a w) where
  abbrev p : ℕ
  p = m.party

  abbrev n : Next
  n = next_of k.from k.found

  -- what the step decides, by what comes next
  decided_then : (n : Next) (l : Option ℕ) (x : Position) (c : permit.Course) (d : lock.Course) → a ≡ answer_by n l → x ≡ position_after n → decided_after a (verdict x c d l) ≡ Some Answer.None → vains n ≡ true
  decided_then (next.Do y) l x c d is at e = place_vain y c d l (ap (λ z. verdict z c d l) (sym at) ∙ (sym (ap (λ b. decided_after b (verdict x c d l)) is) ∙ e))
  decided_then (next.End z y) l x c d is at e = end_vain z (got_with l) y (sym is ∙ answered a (verdict x c d l) (λ st. never z (sym is ∙ st)) e) where
    never : (z : End) → answer_of (got_with l) z ≡ Answer.Stepped → ⊥
    never End.Got h = cc h
    never End.Granted h = cc h
    never End.Pending h = cc h
    never End.Waiting h = cc h
    never End.NotFree h = cc h
    never End.GivenBack h = cc h
    never (End.Refused r) h = cc h

  pub vain_so : Decides (standing_of (view_of t) p) a (standing_of (view_of u) p) Answer.None → IsInVain (view_of t)
  vain_so d = by_place (leads_in k.from k.found led) where
    here : position_at u.machine.positions p ≡ position_after n
    here = ap (λ xs. position_at xs p) k.acts.positions ∙ get_or-set_same t.machine.positions p _ Out k.known

    led : vains n ≡ true
    led = decided_then n (lease_at u.machine.leases p) (position_at u.machine.positions p) (permit_course u.machine.permits.courses p) (lock_course u.machine.lock.courses p) k.answer here
        (sym (decision_seen Rest.Holding w a (verdict_in u.machine p)) ∙ (ap (decision a) (sym (now_standing t u m a w k)) ∙ d.1))

    undecided_not : is_vain k.from ≡ true → ⊥
    undecided_not e =
        let at : position_at t.machine.positions p ≡ At k.from = go_place m.what (position_at t.machine.positions p) k.from k.starts e in
        let V : Position → Type 0 = λ x. verdict x (permit_course t.machine.permits.courses p) (lock_course t.machine.lock.courses p) (lease_at t.machine.leases p) ≡ Some Answer.None in
        let said : verdict_in t.machine p ≡ Some Answer.None = subst V (sym at) (was_vain k.from _ _ _ e) in
        let G : Position → Type 0 = λ x. goes_with (stage_at t.stages p) x ≡ true in
        let decided : is_decided (stands_as (verdict_in t.machine p) (stage_at t.stages p)) ≡ true = inside_decided (verdict_in t.machine p) (stage_at t.stages p) k.from said (subst G at (k.old_fits.stands p k.inside)) in
        false≢true (sym d.0 ∙ (ap is_decided (seen.standing_seen t p) ∙ decided))

    by_place : LeadsIn k.from → IsInVain (view_of t)
    by_place (inl e) = inl (try_permit_vain (inputs_of m.what) p k.found t.machine.permits u.machine.permits (let Q : Place → Type 0 = λ x. OnPermits (inputs_of m.what) p (action_of x) k.found t.machine.permits u.machine.permits in subst Q e k.acts.permits) (sym (ap (λ x. vains (next_of x k.found)) e) ∙ led))
    by_place (inr (inl e)) = inr (try_lock_vain (inputs_of m.what) p k.found t.machine.lock u.machine.lock (let Q : Place → Type 0 = λ x. OnLock (inputs_of m.what) p (action_of x) k.found t.machine.lock u.machine.lock in subst Q e k.acts.lock) (sym (ap (λ x. vains (next_of x k.found)) e) ∙ led))
    by_place (inr (inr e)) = absurd (undecided_not e)
