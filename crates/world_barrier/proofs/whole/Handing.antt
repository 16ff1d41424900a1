-- A refused poll of a party that stood in the inner lock's list hands on what it was told there.
use Rattle.world_barrier.proofs.Prelude.{◌≡◌, ◌≢◌, ℕ, ◌<◌, true, false, length, refl, sym, ap, ◌∙◌, subst, marked_count, is_marked_at, is_party, entries_of, Answer, Call, Inputs, Rest, Account, is_refusal, outside, moves_of, answers_of, Table, joined_unmarked, LockStep, End, HandsOn, is_told, is_waiting, course_at, Aim, Ending, Found, Next, Place, WaitLock, TakeLock, Look, Join, Arrive, Complete, NotifyAll, Check, JoinAgain, ReleaseLock, ReleasingLock, Ask, Position, At, with_lock, after_lock, after_release, released, action_of, next_of, entries_after, fits_lock, in_lock, listed, Barrier, IsBarrier, position_at, is_own_marked, World, standing_of, Runs, Stands}
use Rattle.world_mutex.proofs.of_machine.callers.Released.{released_marks}
use Rattle.world_barrier.proofs.whole.Served.{Step, Then}
use Rattle.world_barrier.proofs.whole.Alone.{whole}
use Rattle.world_barrier.proofs.whole.Polls.{at_rest_there, stands_at, from_waiting}

module _ (p : ℕ) where
  abbrev IsUnmarked : Barrier → Type 0
  IsUnmarked x = is_own_marked x p ≡ false

  abbrev IsWoken : Barrier → Type 0
  IsWoken x = 0 < length x.lock.entries → 0 < marked_count x.lock.entries

  -- it is pending in the end, and not notified meanwhile, if it joined the list
  abbrev Joined : Ending → Barrier → Type 0
  Joined Ending.Wait x = IsUnmarked x
  Joined e x = Unit {0}

  -- what it has to hand on, or the lock
  abbrev Hands : Position → Barrier → Type 0
  Hands (At (TakeLock a)) x = is_told (course_at x.lock.courses p) ≡ true
  Hands (At Look) x = Unit {0}
  Hands (At Join) x = Unit {0}
  Hands (At Arrive) x = IsUnmarked x
  Hands (At Complete) x = Unit {0}
  Hands (At NotifyAll) x = Unit {0}
  Hands (At Check) x = Unit {0}
  Hands (At JoinAgain) x = Unit {0}
  Hands (At (ReleaseLock e)) x = Joined e x
  Hands (At (ReleasingLock e)) x = Joined e x
  Hands (At Ask) x = IsUnmarked x
  Hands _ x = ⊥

  abbrev Handed : Answer → Position → Barrier → Type 0
  Handed a at y = is_refusal a ≡ true → IsWoken y

  abbrev HandsThen : Next → Barrier → Type 0
  HandsThen = Then Hands Handed

  hands_inside : (z : Position) (x : Barrier) → Hands z x → (y : Place) × (z ≡ At y)
  hands_inside (At y) x h = (y, refl)
  hands_inside _ x h = absurd h

  has_lock : (a : Aim) (y : Barrier) → Hands (At (with_lock a)) y
  has_lock Aim.Arrive y = tt
  has_lock Aim.Check y = tt

  takes : (a : Aim) (n : LockStep) (y : Barrier) → HandsOn n (course_at y.lock.courses p) y.lock.entries → HandsThen (after_lock a (Found.Lock n)) y
  takes a LockStep.More y h = h
  takes a (LockStep.End End.Got) y h = has_lock a y
  takes a (LockStep.End (End.Refused r)) y h = λ _. h
  takes a (LockStep.End End.Pending) y h = λ r. absurd (cc r)
  takes a (LockStep.End End.NotFree) y h = λ r. absurd (cc r)
  takes a (LockStep.End End.Granted) y h = λ r. absurd (cc r)
  takes a (LockStep.End End.Waiting) y h = λ r. absurd (cc r)
  takes a (LockStep.End End.GivenBack) y h = λ r. absurd (cc r)

  kept : (e : Ending) (x y : Barrier) → y.entries ≡ x.entries → Joined e x → Joined e y
  kept Ending.Wait x y same h = ap (is_marked_at (is_party p)) same ∙ h
  kept Ending.Follow x y same h = tt
  kept Ending.Lead x y same h = tt
  kept Ending.RefuseGenerations x y same h = tt
  kept (Ending.RefuseMemory a) x y same h = tt

  module _ (i : Inputs) (x y : Barrier) (laws : IsBarrier x) where
    lock_at : (from : Place) → position_at x.positions p ≡ At from → fits_lock (in_lock (At from)) (course_at x.lock.courses p) ≡ true
    lock_at from here = let P : Position → Type 0 = λ z. fits_lock (in_lock z) (course_at x.lock.courses p) ≡ true in subst P here (laws.links p)

    joined : (from : Place) → position_at x.positions p ≡ At from → listed (At from) ≡ 0 → y.entries ≡ entries_after p (action_of Join) Found.Done x.entries → IsUnmarked y
    joined from here none entries = ap (is_marked_at (is_party p)) entries ∙ joined_unmarked p x.entries (laws.owners p ∙ (ap listed here ∙ none))

    lets_go : (e : Ending) (n : LockStep) → Joined e x → Step i p (ReleaseLock e) (Found.Lock n) x y → HandsThen (after_release e (Found.Lock n)) y
    lets_go e LockStep.More so k = kept e x y k.entries so
    lets_go e (LockStep.End z) so k = let never : LockStep.End z ≡ LockStep.More = k.lock.releases refl in absurd (cc never)

    done : (e : Ending) → Joined e y → IsWoken y → HandsThen (released e) y
    done Ending.Wait so woken = so
    done Ending.Follow so woken = λ r. woken
    done Ending.Lead so woken = λ r. woken
    done Ending.RefuseGenerations so woken = λ r. woken
    done (Ending.RefuseMemory a) so woken = λ r. woken

    gives_back : (e : Ending) (n : LockStep) → position_at x.positions p ≡ At (ReleasingLock e) → Joined e x → Step i p (ReleasingLock e) (Found.Lock n) x y → HandsThen (after_release e (Found.Lock n)) y
    gives_back e LockStep.More here so k = kept e x y k.entries so
    gives_back e (LockStep.End z) here so k = done e (kept e x y k.entries so) (released_marks i.memory p _ (LockStep.End z) x.lock y.lock (lock_at (ReleasingLock e) here) k.lock.legal)

    hands : (from : Place) (f : Found) → position_at x.positions p ≡ At from → Hands (At from) x → Step i p from f x y → HandsThen (next_of from f) y
    hands (TakeLock a) (Found.Lock n) here so k = takes a n y (k.lock.hands_on so)
    hands (TakeLock a) _ here so k = absurd k.lock
    hands Look Found.MustWait here so k = tt
    hands Look Found.Leads here so k = tt
    hands Look _ here so k = tt
    hands Join Found.Done here so k = joined Join here refl k.entries
    hands Join _ here so k = tt
    hands Arrive f here so k = ap (is_marked_at (is_party p)) k.entries ∙ so
    hands Complete f here so k = tt
    hands NotifyAll f here so k = tt
    hands Check Found.Finished here so k = tt
    hands Check _ here so k = tt
    hands JoinAgain Found.Done here so k = joined JoinAgain here refl k.entries
    hands JoinAgain _ here so k = tt
    hands (ReleaseLock e) (Found.Lock n) here so k = lets_go e n so k
    hands (ReleaseLock e) _ here so k = absurd k.lock
    hands (ReleasingLock e) (Found.Lock n) here so k = gives_back e n here so k
    hands (ReleasingLock e) _ here so k = absurd k.lock
    hands Ask Found.Yes here so k = let never : true ≡ false = sym k.finds ∙ so in absurd (cc never)
    hands Ask _ here so k = λ r. absurd (cc r)
    hands _ f here so k = absurd so

  begins : (i : Inputs) (a : Aim) (f : Found) (x y : Barrier) → is_waiting (course_at x.lock.courses p) ≡ true → Step i p (WaitLock a) f x y → HandsThen (next_of (WaitLock a) f) y
  begins i a (Found.Lock n) x y waits k = takes a n y (k.lock.hands_on waits)
  begins i a _ x y waits k = absurd k.lock

module _ (known : ℕ → Account) (w : World) (p : ℕ) (i : Inputs) (n : ℕ) (a : Answer) (v : World) (stood : Stands w) (stands : Stands v) (ended : a ≢ Answer.Stepped) (runs : Runs known w (moves_of p Call.Poll i n) (answers_of n a) v) where
  pub hands_on : standing_of w p ≡ outside Rest.Pending → 0 < entries_of p w.lock_list → is_refusal a ≡ true → 0 < length v.lock_list → 0 < marked_count v.lock_list
  hands_on pending some refused =
      let t : Table Barrier = w.behind in
      let at = at_rest_there t p stood.laws stood.fits Rest.Pending (subst (λ x. standing_of x p ≡ outside Rest.Pending) stood.seen pending) in
      let there = subst (λ x. 0 < entries_of p x.lock_list) stood.seen some in
      let found = from_waiting t p stood.laws stood.fits i (position_at t.machine.positions p) refl at (stands_at t p stood.laws stood.fits Rest.Pending at) there in
      let k = found.0 in
      let end = whole t p i (Hands p) (Handed p) (hands_inside p) (λ x y from f laws later here so step. hands p i x y laws from f here so step)
      known w Call.Poll n a v k.stage k.within (WaitLock k.its_aim) refl k.at k.called k.first k.starts (λ f y laws step. begins p i k.its_aim f t.machine y found.2 step) runs ended in
      subst (λ x. 0 < length x.lock_list → 0 < marked_count x.lock_list) (sym stands.seen) (end.ended refused)
