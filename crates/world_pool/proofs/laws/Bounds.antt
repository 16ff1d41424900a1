-- A call that is carried out alone ends within its number of steps.
use Rattle.world_pool.proofs.Prelude.{◌≡◌, ℕ, ◌+◌, ◌<◌, ◌≤◌, Option, Some, refl, arith, ap, sym, ◌∙◌, subst, get_or-set_same, Answer, Call, Got, Inputs, Move, Go, Rest, Within, going_on, some_eq, none_some, left_by, beginning, End, answer_of, Table, Acted, way, by_way, lock_steps_left, permit_steps_left, Aim, Next, Place, Acquire, WaitPermit, TakePermit, TryPermit, EnterLock, WaitLock, TakeLock, ReleaseLock, ReleasingLock, ReturningPermit, CancellingPermit, CancelLock, CancellingLock, Position, Out, Made, Acquiring, Locking, Leased, At, place_for, next_of, position_after, got_with, Pool, IsPool, Moves, position_at, answer_by, steps_left, left_from, left_after, IsPoolTable, TableSteps}
use Rattle.lock_program.specs.declared.end.Next.TheVariants as next
use Rattle.world_pool.specs.program.Program.{started, asked_of}
use Rattle.world_pool.specs.machine.Ranks.{left, left_at}
use Rattle.world_pool.specs.Whole.{most_steps_of}
use Rattle.world_pool.proofs.step.Stepping.{known_calls}

module _ (k n : ℕ) where
  abbrev Few : ℕ → Place → Type 0
  Few most from = left from k n ≤ most

  few_locking : (a : Aim) → Few 18 (WaitLock a)
  few_locking Aim.Take = omega arith
  few_locking Aim.Give = omega arith

  few_cancelling : (a : Aim) → Few 5 (CancelLock a)
  few_cancelling Aim.Take = omega arith
  few_cancelling Aim.Give = omega arith

  few_from : (c : Call) (x : Position) (from : Place) → started (asked_of c) x ≡ Some from → Few (most_steps_of c) from
  few_from Call.Take Out from e = subst (Few 20) (some_eq e) (omega arith)
  few_from Call.TryTake Out from e = subst (Few 5) (some_eq e) (omega arith)
  few_from Call.Give Leased from e = subst (Few 18) (some_eq e) (omega arith)
  few_from Call.Poll (Made Aim.Take) from e = subst (Few 22) (some_eq e) (omega arith)
  few_from Call.Poll (Made Aim.Give) from e = subst (Few 22) (some_eq e) (omega arith)
  few_from Call.Poll Acquiring from e = subst (Few 22) (some_eq e) (omega arith)
  few_from Call.Poll (Locking a) from e = (let l = few_locking a in subst (Few 22) (some_eq e) (omega arith))
  few_from Call.Drop (Made Aim.Take) from e = subst (Few 5) (some_eq e) (omega arith)
  few_from Call.Drop (Made Aim.Give) from e = subst (Few 5) (some_eq e) (omega arith)
  few_from Call.Drop Acquiring from e = subst (Few 5) (some_eq e) (omega arith)
  few_from Call.Drop (Locking a) from e = subst (Few 5) (some_eq e) (few_cancelling a)
  few_from Call.Drop Leased from e = subst (Few 5) (some_eq e) (omega arith)
  few_from _ _ from e = absurd (none_some e)

one_at_least : (c : Call) → 1 ≤ most_steps_of c
one_at_least Call.Take = omega arith
one_at_least Call.TryTake = omega arith
one_at_least Call.Give = omega arith
one_at_least Call.Poll = omega arith
one_at_least Call.Drop = omega arith
one_at_least _ = omega arith

some_left : (x : Place) (k n : ℕ) → 0 < k → 0 < n → 0 < left x k n
some_left Acquire k n g h = omega arith
some_left WaitPermit k n g h = omega arith
some_left TakePermit k n g h = omega arith
some_left TryPermit k n g h = omega arith
some_left (EnterLock a) k n g h = omega arith
some_left (WaitLock a) k n g h = omega arith
some_left (TakeLock a) k n g h = omega arith
some_left (ReleaseLock e) k n g h = omega arith
some_left (ReleasingLock e) k n g h = omega arith
some_left (ReturningPermit r) k n g h = g
some_left CancellingPermit k n g h = g
some_left (CancelLock a) k n g h = omega arith
some_left (CancellingLock a) k n g h = omega arith
some_left _ k n g h = omega arith

some_at : (x : Position) (k n : ℕ) → 0 < k → 0 < n → 0 < left_at x k n
some_at (At x) k n g h = some_left x k n g h
some_at _ k n g h = omega arith

place_of : (i : Inputs) (x : Position) (from : Place) → place_for (Go i) x ≡ Some from → x ≡ At from
place_of i (At y) from e = ap At (some_eq e)
place_of i _ from e = absurd (none_some e)

none_left : (g : Got) (e : End) (n : ℕ) → left_by (answer_of g e) n ≡ 0
none_left g End.Got n = refl
none_left g End.Granted n = refl
none_left g End.Pending n = refl
none_left g End.NotFree n = refl
none_left g End.Waiting n = refl
none_left g End.GivenBack n = refl
none_left g (End.Refused r) n = refl

left_is : (n : Next) (y : Pool) (p : ℕ) (l : Option ℕ) → position_at y.positions p ≡ position_after n → left_by (answer_by n l) (steps_left y p) ≡ left_after n y p
left_is (next.Do x) y p l to = ap (λ z. left_at z (permit_steps_left y.permits p) (lock_steps_left y.lock p)) to
left_is (next.End e x) y p l to = none_left (got_with l) e (steps_left y p)

module _ (t u : Table Pool) (m : Move) (a : Answer) (tf : IsPoolTable t) where
  abbrev p : ℕ
  p = m.party

  fewer : (w : Within) (k : Acted known_calls Rest.Holding Moves w t m a u) → left_by a (steps_left u.machine p) < left_from k.acts.from t.machine p
  fewer w k =
      let known : p < _ = omega (arith, k.inside, tf.as_many) in
      let to : position_at u.machine.positions p ≡ position_after (next_of k.acts.from k.acts.found) = ap (λ ps. position_at ps p) k.acts.acts.positions ∙ get_or-set_same t.machine.positions p (position_after (next_of k.acts.from k.acts.found)) Out known in
      let same : left_by a (steps_left u.machine p) ≡ left_after (next_of k.acts.from k.acts.found) u.machine p = ap (λ b. left_by b (steps_left u.machine p)) k.acts.answer ∙ left_is (next_of k.acts.from k.acts.found) u.machine p _ to in
      rw same k.acts.falls

module _ (t u : Table Pool) (tl : IsPool t.machine) (tf : IsPoolTable t) (p : ℕ) (i : Inputs) (a : Answer) where
  pub begins_few : (c : Call) → TableSteps t (beginning p c i) a u → 1 + left_by a (steps_left u.machine p) ≤ most_steps_of c
  begins_few c step = by_way known_calls Rest.Holding Moves t u (beginning p c i) a (λ b x. 1 + left_by b (steps_left x.machine p) ≤ most_steps_of c) (λ e. one_at_least c) (λ w e f. one_at_least c)
      (λ w e f k. (let few = few_from (permit_steps_left t.machine.permits p) (lock_steps_left t.machine.lock p) c (position_at t.machine.positions p) k.acts.from k.acts.starts in
      let less = fewer t u (beginning p c i) a tf w k in omega (arith, less, few)))
      (way known_calls Rest.Holding Moves t u (beginning p c i) a step)

  pub falls : TableSteps t (going_on p i) a u → left_by a (steps_left u.machine p) < steps_left t.machine p
  falls step =
      let some = some_at (position_at t.machine.positions p) (permit_steps_left t.machine.permits p) (lock_steps_left t.machine.lock p) (tl.semaphore.some_left p) (tl.mutex.some_left p) in
      by_way known_calls Rest.Holding Moves t u (going_on p i) a (λ b x. left_by b (steps_left x.machine p) < steps_left t.machine p) (λ e. some) (λ w e f. some)
      (λ w e f k. (let here = place_of i (position_at t.machine.positions p) k.acts.from k.acts.starts in
      let P : Position → Type 0 = λ x. left_by a (steps_left u.machine p) < left_at x (permit_steps_left t.machine.permits p) (lock_steps_left t.machine.lock p) in
      subst P (sym here) (fewer t u (going_on p i) a tf w k)))
      (way known_calls Rest.Holding Moves t u (going_on p i) a step)
