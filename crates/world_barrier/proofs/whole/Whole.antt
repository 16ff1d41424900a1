-- A call that is carried out alone ends within its number of steps.
use Rattle.world_barrier.proofs.Prelude.{◌≡◌, ℕ, ◌+◌, ◌<◌, ◌≤◌, Bool, true, false, Some, refl, arith, ap, sym, ◌∙◌, subst, get_or-set_same, Answer, Call, Got, Inputs, Move, Go, Rest, Within, going_on, some_eq, none_some, left_by, beginning, End, answer_of, Table, Acted, way, by_way, lock_steps_left, Aim, Next, Place, EnterLock, WaitLock, TakeLock, ReleaseLock, ReleasingLock, Ask, CancelLock, CancellingLock, Position, Out, Made, Locking, Waiting, At, start_of, place_for, next_of, position_after, got_left, Barrier, IsBarrier, Moves, position_at, answer_by, is_own_marked, steps_left, left_from, left_after, IsBarrierTable, TableSteps}
use Rattle.lock_program.specs.declared.end.Next.TheVariants as next
use Rattle.world_barrier.specs.machine.Ranks.{left, left_at, left_asking}
use Rattle.world_barrier.specs.Whole.{most_steps_of}
use Rattle.world_barrier.proofs.whole.Alone.{known_calls}

-- how many steps are left where a call begins
few_locking : (a : Aim) (k : Bool) (n : ℕ) → left (EnterLock a) k n ≤ 18
few_locking Aim.Arrive k n = omega arith
few_locking Aim.Check k n = omega arith

few_waiting : (a : Aim) (k : Bool) (n : ℕ) → left (WaitLock a) k n ≤ 18
few_waiting Aim.Arrive k n = omega arith
few_waiting Aim.Check k n = omega arith

few_asking : (k : Bool) → left_asking k ≤ 18
few_asking true = omega arith
few_asking false = omega arith

module _ (k : Bool) (n : ℕ) where
  abbrev Few : ℕ → Place → Type 0
  Few most from = left from k n ≤ most

  few_from : (c : Call) (x : Position) (from : Place) → start_of c x ≡ Some from → Few (most_steps_of c) from
  few_from Call.Wait Out from e = subst (Few 18) (some_eq e) (few_locking Aim.Arrive k n)
  few_from Call.Poll (Made a) from e = subst (Few 18) (some_eq e) (few_locking a k n)
  few_from Call.Poll (Locking a) from e = subst (Few 18) (some_eq e) (few_waiting a k n)
  few_from Call.Poll Waiting from e = subst (Few 18) (some_eq e) (few_asking k)
  few_from Call.Drop (Locking a) from e = subst (Few 2) (some_eq e) (omega arith)
  few_from Call.Drop Waiting from e = subst (Few 2) (some_eq e) (omega arith)
  few_from Call.Drop Out from e = subst (Few 2) (some_eq e) (omega arith)
  few_from Call.Drop (Made a) from e = subst (Few 2) (some_eq e) (omega arith)
  few_from _ _ from e = absurd (none_some e)

one_at_least : (c : Call) → 1 ≤ most_steps_of c
one_at_least Call.Wait = omega arith
one_at_least Call.Poll = omega arith
one_at_least Call.Drop = omega arith
one_at_least _ = omega arith

-- at least one step is left
some_asking : (k : Bool) → 0 < left_asking k
some_asking true = omega arith
some_asking false = omega arith

some_left : (x : Place) (k : Bool) (n : ℕ) → 0 < n → 0 < left x k n
some_left (EnterLock a) k n h = omega arith
some_left (WaitLock a) k n h = omega arith
some_left (TakeLock a) k n h = omega (arith, h)
some_left (ReleaseLock e) k n h = omega arith
some_left (ReleasingLock e) k n h = omega (arith, h)
some_left Ask k n h = some_asking k
some_left CancelLock k n h = omega arith
some_left CancellingLock k n h = h
some_left _ k n h = omega arith

pub some_at : (x : Position) (k : Bool) (n : ℕ) → 0 < n → 0 < left_at x k n
some_at (At x) k n h = some_left x k n h
some_at _ k n h = omega arith

-- ---- one step

pub place_of : (i : Inputs) (x : Position) (from : Place) → place_for (Go i) x ≡ Some from → x ≡ At from
place_of i (At y) from e = ap At (some_eq e)
place_of i _ from e = absurd (none_some e)

none_left : (g : Got) (e : End) (n : ℕ) → left_by (answer_of g e) n ≡ 0
none_left g End.Got n = refl
none_left g End.Granted n = refl
none_left g End.Pending n = refl
none_left g End.NotFree n = refl
none_left g End.Waiting n = refl
none_left g End.GivenBack n = refl
none_left g (End.Refused r) n = refl

-- what is left by the answer is left after what the step decided
left_is : (n : Next) (y : Barrier) (p : ℕ) → position_at y.positions p ≡ position_after n → left_by (answer_by n) (steps_left y p) ≡ left_after n y p
left_is (next.Do x) y p to = ap (λ z. left_at z (is_own_marked y p) (lock_steps_left y.lock p)) to
left_is (next.End e x) y p to = none_left (got_left x) e (steps_left y p)

module _ (t u : Table Barrier) (m : Move) (a : Answer) (tf : IsBarrierTable t) where
  abbrev p : ℕ
  p = m.party

  fewer : (w : Within) (k : Acted known_calls Rest.Finished Moves w t m a u) → left_by a (steps_left u.machine p) < left_from k.acts.from t.machine p
  fewer w k =
      let known : p < _ = omega (arith, k.inside, tf.as_many) in
      let to : position_at u.machine.positions p ≡ position_after (next_of k.acts.from k.acts.found) = ap (λ ps. position_at ps p) k.acts.acts.positions ∙ get_or-set_same t.machine.positions p (position_after (next_of k.acts.from k.acts.found)) Out known in
      let same : left_by a (steps_left u.machine p) ≡ left_after (next_of k.acts.from k.acts.found) u.machine p = ap (λ b. left_by b (steps_left u.machine p)) k.acts.answer ∙ left_is (next_of k.acts.from k.acts.found) u.machine p to in
      rw same k.acts.falls

module _ (t u : Table Barrier) (tl : IsBarrier t.machine) (tf : IsBarrierTable t) (p : ℕ) (i : Inputs) (a : Answer) where
  pub begins_few : (c : Call) → TableSteps t (beginning p c i) a u → 1 + left_by a (steps_left u.machine p) ≤ most_steps_of c
  begins_few c step = by_way known_calls Rest.Finished Moves t u (beginning p c i) a (λ b x. 1 + left_by b (steps_left x.machine p) ≤ most_steps_of c) (λ e. one_at_least c) (λ w e f. one_at_least c)
      (λ w e f k. (let few = few_from (is_own_marked t.machine p) (lock_steps_left t.machine.lock p) c (position_at t.machine.positions p) k.acts.from k.acts.starts in
      let less = fewer t u (beginning p c i) a tf w k in omega (arith, less, few)))
      (way known_calls Rest.Finished Moves t u (beginning p c i) a step)

  pub falls : TableSteps t (going_on p i) a u → left_by a (steps_left u.machine p) < steps_left t.machine p
  falls step =
      let some = some_at (position_at t.machine.positions p) (is_own_marked t.machine p) (lock_steps_left t.machine.lock p) (tl.lock.some_left p) in
      by_way known_calls Rest.Finished Moves t u (going_on p i) a (λ b x. left_by b (steps_left x.machine p) < steps_left t.machine p) (λ e. some) (λ w e f. some)
      (λ w e f k. (let here = place_of i (position_at t.machine.positions p) k.acts.from k.acts.starts in
      let P : Position → Type 0 = λ x. left_by a (steps_left u.machine p) < left_at x (is_own_marked t.machine p) (lock_steps_left t.machine.lock p) in
      subst P (sym here) (fewer t u (going_on p i) a tf w k)))
      (way known_calls Rest.Finished Moves t u (going_on p i) a step)
