-- A party that was notified in the inner lock's list and has waited for too long, or beside whom somebody is starved, is starved at its poll's end where it found the lock held.
use Rattle.world_barrier.proofs.Prelude.{◌≡◌, ◌≢◌, ℕ, zero, suc, ◌<◌, ◌≤◌, ◌==◌, ◌⊎◌, inl, inr, ◌||◌, Bool, true, false, refl, ap, ◌∙◌, subst, arith, nat_tests, false≢true, Answer, Call, Inputs, Rest, Account, how_many, moves_of, answers_of, Table, End as LockEnd, LockStep, starved_there as counted, course_at, starved, holders, Aim, Found, Place, WaitLock, TakeLock, Position, At, next_of, after_lock, Barrier, IsBarrier, position_at, Next, World, is_starved, Runs, Stands, IsSolo, None}
use Rattle.std.specs.Prelude.{nat_lt}
use Rattle.world_mutex.specs.machine.Conduct.{IsLong, StaysLong, BeginsLong}
use Rattle.world_mutex.proofs.of_machine.callers.Holders as sees
use Rattle.world_barrier.proofs.whole.Served.{Step, Then}
use Rattle.world_barrier.proofs.whole.Alone.{whole}
use Rattle.world_barrier.proofs.whole.Polls.{from_waiting, at_rest_there, stands_at}
use Rattle.world_base.proofs.Bounds.{marked_listed}

module _ (p : ℕ) (i : Inputs) (found : i.memory ≡ true) where
  -- in a poll of the lock that counts it
  abbrev pub Going : Position → Barrier → Type 0
  Going (At (TakeLock a)) x = IsLong i.starving p x.lock
  Going z x = ⊥

  abbrev pub EndsLong : Answer → Position → Barrier → Type 0
  EndsLong a z y = counted (course_at y.lock.courses p) ≡ 1

  abbrev On : Next → Barrier → Type 0
  On = Then Going EndsLong

  took : (a : Aim) (s : LockStep) (y : Barrier) → StaysLong i.starving p s y.lock → On (after_lock a (Found.Lock s)) y
  took a LockStep.More y h = h
  took a (LockStep.End LockEnd.Pending) y h = ap counted h
  took a (LockStep.End _) y h = absurd h

  pub inside : (z : Position) (x : Barrier) → Going z x → (y : Place) × (z ≡ At y)
  inside (At y) x h = (y, refl)
  inside _ x h = absurd h

  pub starts : (a : Aim) (f : Found) (x y : Barrier) → BeginsLong i.starving p x.lock → Step i p (WaitLock a) f x y → On (next_of (WaitLock a) f) y
  starts a (Found.Lock s) x y b k = took a s y (k.lock.long found refl b)
  starts a _ x y b k = absurd k.lock

  takes_so : (a : Aim) (f : Found) (x y : Barrier) → IsLong i.starving p x.lock → Step i p (TakeLock a) f x y → On (next_of (TakeLock a) f) y
  takes_so a (Found.Lock s) x y g k = took a s y (k.lock.long found g)
  takes_so a _ x y g k = absurd k.lock

  pub leads : (x y : Barrier) (from : Place) (f : Found) → IsBarrier x → IsBarrier y → position_at x.positions p ≡ At from → Going (At from) x → Step i p from f x y → On (next_of from f) y
  leads x y (TakeLock a) f laws later here g k = takes_so a f x y g k
  leads x y _ f laws later here g k = absurd g

module _ (known : ℕ → Account) (w : World) (p : ℕ) (i : Inputs) (n : ℕ) (a : Answer) (v : World) (stood : Stands w) (stands : Stands v) (ended : a ≢ Answer.Stepped) (runs : Runs known w (moves_of p Call.Poll i n) (answers_of n a) v) where
  abbrev t : Table Barrier
  t = w.behind

  pub held : IsSolo w p i → (i.starving ≡ true) ⊎ (0 < how_many w.lock.starved) → how_many w.lock.starved < w.starved_limit → w.lock.holder ≢ None → is_starved v.lock p ≡ true
  held polls why below taken =
      let solo = subst (λ x. IsSolo x p i) stood.seen polls in
      let at = at_rest_there t p stood.laws stood.fits Rest.Pending solo.pending in
      let there = marked_listed p t.machine.lock.entries solo.marked in
      let found = from_waiting t p stood.laws stood.fits i (position_at t.machine.positions p) refl at (stands_at t p stood.laws stood.fits Rest.Pending at) there in
      let k = found.0 in
      let below' = subst (λ x. how_many x.lock.starved < x.starved_limit) stood.seen below in
      let many : how_many w.lock.starved ≡ starved t.machine.lock = ap (λ x. how_many x.lock.starved) stood.seen ∙ sees.how_many_counted t.machine.lock.courses in
      let b : BeginsLong i.starving p t.machine.lock = record {
        held = one (holders t.machine.lock) refl stood.laws.lock.one_holder;
        called = found.2;
        marked = solo.marked;
        long = long_so i.starving (starved t.machine.lock) (elim why as (λ _. (i.starving ≡ true) ⊎ (0 < starved t.machine.lock)) [ inl e ↦ inl e | inr some ↦ inr (omega (arith, some, many)) ]);
        below = omega (arith, below', sees.how_many_counted t.machine.lock.courses);
      } in
      let counts = (whole t p i (Going p i solo.memory) (EndsLong p i solo.memory) (inside p i solo.memory) (leads p i solo.memory)
      known w Call.Poll n a v k.stage k.within (WaitLock k.its_aim) refl k.at k.called k.first k.starts (λ f y laws step. starts p i solo.memory k.its_aim f t.machine y b step) runs ended).ended in
      ap (λ x. is_starved x.lock p) stands.seen ∙ (sees.starved_at v.behind.machine.lock.courses p ∙ ap (λ (k : ℕ). k == 1) counts) where
        one : (k : ℕ) → holders t.machine.lock ≡ k → holders t.machine.lock ≤ 1 → holders t.machine.lock ≡ 1
        one zero is few = absurd (taken (ap (λ x. x.lock.holder) stood.seen ∙ sees.none_held 0 t.machine.lock.courses is))
        one (suc zero) is few = is
        one (suc (suc k)) is few = absurd (omega (arith, few, is))

        long_so : (b : Bool) (k : ℕ) → (b ≡ true) ⊎ (0 < k) → b || nat_lt 0 k ≡ true
        long_so true k h = refl
        long_so false k (inl e) = absurd (false≢true e)
        long_so false k (inr h) = grind (arith, nat_tests)
