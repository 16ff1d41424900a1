-- A call that is decided ends within three further steps of its own, however others step.
use Rattle.world_barrier.proofs.Prelude.{◌≡◌, ◌≢◌, ℕ, ◌+◌, ◌<◌, ◌≤◌, ◌⊎◌, inl, inr, Bool, true, false, length, Option, Some, None, is_some, refl, sym, ap, ◌∙◌, subst, arith, get_or-set_same, get_or-set_other, Answer, Inputs, Move, Rest, stage_at, call_at, polls_again, is_decided, going_on, End, LockStep, Course, course_at, Mutex, lock_steps_left, Aim, Ending, Found, Place, TakeLock, NotifyAll, ReleaseLock, ReleasingLock, CancelLock, CancellingLock, CancelLeave, Abandon, Position, Out, At, refused_by, verdict, fits_lock, in_lock, Barrier, Moves, knows, position_at, position_after, next_of, answer_by, is_own_marked, way, by_way, World, standing_of, Stands, Steps}
use Rattle.lock_program.specs.declared.end.End.TheVariants as lock_end
use Rattle.world_base.proofs.Ending.{ends_within}
use Rattle.world_base.proofs.of_table.Views.{some_decided}
use Rattle.world_mutex.specs.machine.Course.{decision}
use Rattle.world_mutex.specs.machine.Mutex.{IsMutex}
use Rattle.world_mutex.proofs.of_machine.callers.Callers.{releasing_decided, cancelling_decided}
use Rattle.world_mutex.proofs.of_machine.callers.Ending.{same_left}
use Rattle.world_mutex.proofs.of_machine.callers.Hearing as mutex
use Rattle.world_barrier.specs.machine.Ranks.{left_at}
use Rattle.world_barrier.specs.Whole.{EndsSoon, steps_left_of}
use Rattle.world_barrier.proofs.bound.InTurn.{acts_or_not}
use Rattle.world_barrier.proofs.laws.WorldLaws as law
use Rattle.world_barrier.proofs.table.Seen.{standing_seen}
use Rattle.world_barrier.proofs.whole.Alone.{known_calls}
use Rattle.world_barrier.proofs.whole.Whole.{some_at, place_of}

-- how many steps are left at most of a call that is decided, by how many its call on the inner lock has left
abbrev last : Position → ℕ → ℕ
last (At (TakeLock a)) n = n
last x n = left_at x false n

-- as many as are left to one that moves alone, but where the inner lock is taken
as_left : (x : Position) (c : Course) → is_some (verdict x c) ≡ true → ((m : Bool) (n : ℕ) → left_at x m n ≡ last x n) ⊎ ((a : Aim) × (x ≡ At (TakeLock a)))
as_left (At (TakeLock a)) c d = inr (a, refl)
as_left (At NotifyAll) c d = inl (λ m n. refl)
as_left (At (ReleaseLock Ending.Wait)) c d = absurd (cc d)
as_left (At (ReleaseLock Ending.Follow)) c d = inl (λ m n. refl)
as_left (At (ReleaseLock Ending.Lead)) c d = inl (λ m n. refl)
as_left (At (ReleaseLock Ending.RefuseGenerations)) c d = inl (λ m n. refl)
as_left (At (ReleaseLock (Ending.RefuseMemory for))) c d = inl (λ m n. refl)
as_left (At (ReleasingLock Ending.Wait)) c d = absurd (cc d)
as_left (At (ReleasingLock Ending.Follow)) c d = inl (λ m n. refl)
as_left (At (ReleasingLock Ending.Lead)) c d = inl (λ m n. refl)
as_left (At (ReleasingLock Ending.RefuseGenerations)) c d = inl (λ m n. refl)
as_left (At (ReleasingLock (Ending.RefuseMemory for))) c d = inl (λ m n. refl)
as_left (At CancelLock) c d = inl (λ m n. refl)
as_left (At CancellingLock) c d = inl (λ m n. refl)
as_left (At CancelLeave) c d = inl (λ m n. refl)
as_left (At Abandon) c d = inl (λ m n. refl)
as_left _ c d = absurd (cc d)

not_more : (x : Position) (c : Course) (m : Bool) (n : ℕ) → is_some (verdict x c) ≡ true → last x n ≤ left_at x m n
not_more x c m n d = elim (as_left x c d) as (λ _. last x n ≤ left_at x m n) [
  | inl same ↦ omega (arith, same m n)
  | inr taking ↦ omega (arith, ap (λ y. last y n) taking.1, ap (λ y. left_at y m n) taking.1)
]

-- a refusal in the inner lock decides its call there too
refused_some : (o : Option End) → is_some (refused_by o) ≡ true → (e : End) × (o ≡ Some e)
refused_some (Some e) h = (e, refl)
refused_some None h = absurd (cc h)

-- they are three at most, and as many whatever its call on the inner lock is, where that is decided as it is here
steady : (x : Position) (c : Course) (n k : ℕ) → is_some (verdict x c) ≡ true → fits_lock (in_lock x) c ≡ true → ((e : End) → decision c ≡ Some e → (n ≡ k) × (n ≤ 2)) → (last x n ≡ last x k) × (last x n ≤ 3)
steady (At (TakeLock a)) c n k d fits here = let e = refused_some (decision c) d in let it = here e.0 e.1 in (it.0, omega (arith, it.1))
steady (At NotifyAll) c n k d fits here = (refl, omega arith)
steady (At (ReleaseLock Ending.Wait)) c n k d fits here = absurd (cc d)
steady (At (ReleaseLock Ending.Follow)) c n k d fits here = (refl, omega arith)
steady (At (ReleaseLock Ending.Lead)) c n k d fits here = (refl, omega arith)
steady (At (ReleaseLock Ending.RefuseGenerations)) c n k d fits here = (refl, omega arith)
steady (At (ReleaseLock (Ending.RefuseMemory for))) c n k d fits here = (refl, omega arith)
steady (At (ReleasingLock Ending.Wait)) c n k d fits here = absurd (cc d)
steady (At (ReleasingLock Ending.Follow)) c n k d fits here = let it = here lock_end.GivenBack (releasing_decided c fits) in (omega (arith, it.0), omega (arith, it.1))
steady (At (ReleasingLock Ending.Lead)) c n k d fits here = let it = here lock_end.GivenBack (releasing_decided c fits) in (omega (arith, it.0), omega (arith, it.1))
steady (At (ReleasingLock Ending.RefuseGenerations)) c n k d fits here = let it = here lock_end.GivenBack (releasing_decided c fits) in (omega (arith, it.0), omega (arith, it.1))
steady (At (ReleasingLock (Ending.RefuseMemory for))) c n k d fits here = let it = here lock_end.GivenBack (releasing_decided c fits) in (omega (arith, it.0), omega (arith, it.1))
steady (At CancelLock) c n k d fits here = (refl, omega arith)
steady (At CancellingLock) c n k d fits here = let it = here lock_end.GivenBack (cancelling_decided c fits) in (it.0, omega (arith, it.1))
steady (At CancelLeave) c n k d fits here = (refl, omega arith)
steady (At Abandon) c n k d fits here = (refl, omega arith)
steady _ c n k d fits here = absurd (cc d)

-- a call that is refused in the inner lock goes on there
row : (a : Aim) (f : Found) (c : Course) → answer_by (next_of (TakeLock a) f) ≡ Answer.Stepped → is_some (verdict (position_after (next_of (TakeLock a) f)) c) ≡ true → position_after (next_of (TakeLock a) f) ≡ At (TakeLock a)
row a (Found.Lock LockStep.More) c e d = refl
row Aim.Arrive (Found.Lock (LockStep.End lock_end.Got)) c e d = absurd (cc d)
row Aim.Check (Found.Lock (LockStep.End lock_end.Got)) c e d = absurd (cc d)
row a (Found.Lock (LockStep.End (lock_end.Refused r))) c e d = absurd (cc e)
row a _ c e d = absurd (cc e)

abbrev course_of : World → ℕ → Course
course_of w q = course_at w.behind.machine.lock.courses q

abbrev where_is : World → ℕ → Position
where_is w q = position_at w.behind.machine.positions q

abbrev in_lock_left : World → ℕ → ℕ
in_lock_left w q = lock_steps_left w.behind.machine.lock q

abbrev last_left_of : World → ℕ → ℕ
last_left_of w q = last (where_is w q) (in_lock_left w q)

-- whoever stands decided is at a place that decides
decided_there : (w : World) (q : ℕ) → Stands w → is_decided (standing_of w q) ≡ true → is_some (verdict (where_is w q) (course_of w q)) ≡ true
decided_there w q s h = some_decided (verdict (where_is w q) (course_of w q)) (stage_at w.behind.stages q) (ap is_decided (sym (ap (λ x. standing_of x q) s.seen ∙ standing_seen w.behind q)) ∙ h)

-- ---- a step of its own

module _ (w : World) (p : ℕ) (i : Inputs) (v : World) (s : Steps w (going_on p i) Answer.Stepped v) (decided : is_decided (standing_of w p) ≡ true) (on : is_decided (standing_of v p) ≡ true) where
  abbrev then : Answer → Position → Type 0
  then b x = b ≡ Answer.Stepped → is_some (verdict x (course_of v p)) ≡ true → (a : Aim) → where_is w p ≡ At (TakeLock a) → x ≡ At (TakeLock a)

  still_taking : then Answer.Stepped (where_is v p)
  still_taking = by_way known_calls Rest.Finished Moves w.behind v.behind (going_on p i) Answer.Stepped (λ b x. then b (position_at x.machine.positions p)) (λ e h. absurd (cc h)) (λ u e f h. absurd (cc h))
      (λ u e f k h d a is. (
      let from : where_is w p ≡ At k.acts.from = place_of i (where_is w p) k.acts.from k.acts.starts in
      let same : k.acts.from ≡ TakeLock a = at_eq k.acts.from (TakeLock a) (sym from ∙ is) in
      let known : p < length w.behind.machine.positions = omega (arith, k.inside, s.did.stood.fits.as_many) in
      let to : where_is v p ≡ position_after (next_of k.acts.from k.acts.found) = ap (λ ps. position_at ps p) k.acts.acts.positions ∙ get_or-set_same w.behind.machine.positions p (position_after (next_of k.acts.from k.acts.found)) Out known in
      let so : where_is v p ≡ position_after (next_of (TakeLock a) k.acts.found) = to ∙ ap (λ x. position_after (next_of x k.acts.found)) same in
      let D : Position → Type 0 = λ x. is_some (verdict x (course_of v p)) ≡ true in
      so ∙ row a k.acts.found (course_of v p) (sym (k.acts.answer ∙ ap (λ x. answer_by (next_of x k.acts.found)) same)) (subst D so d)))
      (way known_calls Rest.Finished Moves w.behind v.behind (going_on p i) Answer.Stepped s.did.step) where
        at_eq : (x y : Place) → At x ≡ At y → x ≡ y
        at_eq x y e = cc e

  falls : last_left_of v p < last_left_of w p
  falls =
      let fell : steps_left_of v p < steps_left_of w p = law.falls w p i Answer.Stepped v s in
      let here = decided_there w p s.did.stood decided in
      let now = decided_there v p s.did.stands on in
      let less = not_more (where_is v p) (course_of v p) (is_own_marked v.behind.machine p) (in_lock_left v p) now in
      elim (as_left (where_is w p) (course_of w p) here) as (λ _. last_left_of v p < last_left_of w p) [
        | inl same ↦ omega (arith, fell, less, same (is_own_marked w.behind.machine p) (in_lock_left w p))
        | inr taking ↦ (
            let to = still_taking refl now taking.0 taking.1 in
            let A : Position → Position → Type 0 = λ x y. left_at y (is_own_marked v.behind.machine p) (in_lock_left v p) < left_at x (is_own_marked w.behind.machine p) (in_lock_left w p) in
            let at : A (At (TakeLock taking.0)) (where_is v p) = subst (λ x. A x (where_is v p)) taking.1 fell in
            let both : A (At (TakeLock taking.0)) (At (TakeLock taking.0)) = subst (A (At (TakeLock taking.0))) to at in
            omega (arith, both, ap (λ x. last x (in_lock_left v p)) to, ap (λ x. last x (in_lock_left w p)) taking.1))
      ]

-- ---- a step of another

-- it leaves a party's call on the inner lock where it is
same_course : (q p : ℕ) (m n : Mutex) → q ≢ p → (n ≡ m) ⊎ mutex.Moves p m n → course_at n.courses q ≡ course_at m.courses q
same_course q p m n apart (inl same) = ap (λ x. course_at x.courses q) same
same_course q p m n apart (inr k) = k.others q apart

module _ (w : World) (m : Move) (a : Answer) (v : World) (s : Steps w m a v) (q : ℕ) where
  abbrev c : Barrier
  c = w.behind.machine

  abbrev d : Barrier
  d = v.behind.machine

  same_place : q ≢ m.party → where_is v q ≡ where_is w q
  same_place apart = by_way known_calls Rest.Finished Moves w.behind v.behind m a (λ b x. position_at x.machine.positions q ≡ where_is w q) (λ e. refl) (λ u e f. refl)
      (λ u e f k. ap (λ ps. position_at ps q) k.acts.acts.positions ∙ get_or-set_other c.positions m.party q (position_after (next_of k.acts.from k.acts.found)) Out apart)
      (way known_calls Rest.Finished Moves w.behind v.behind m a s.did.step)

  pub same_there : q ≢ m.party → course_of v q ≡ course_of w q
  same_there apart = same_course q m.party c.lock d.lock apart (acts_or_not (call_at knows (stage_at w.behind.stages m.party) m.what) (polls_again (stage_at w.behind.stages m.party) m.what) w.behind m a v.behind s.did.step)

  keeps : q ≢ m.party → is_decided (standing_of w q) ≡ true → last_left_of v q ≤ last_left_of w q
  keeps apart decided =
      let alike = steady (where_is w q) (course_of w q) (in_lock_left w q) (in_lock_left v q) (decided_there w q s.did.stood decided) (s.did.stood.laws.links q)
      (λ e is. (sym (same_left c.lock d.lock q s.did.stood.laws.lock s.did.stands.laws.lock (same_there apart) e is), (s.did.stood.laws.lock.last_left q e is).1)) in
      omega (arith, ap (λ x. last x (in_lock_left v q)) (same_place apart), alike.0)

  few : is_decided (standing_of w q) ≡ true → last_left_of w q ≤ 3
  few decided = (steady (where_is w q) (course_of w q) (in_lock_left w q) (in_lock_left w q) (decided_there w q s.did.stood decided) (s.did.stood.laws.links q) (λ e is. (refl, (s.did.stood.laws.lock.last_left q e is).1))).1

  some : (0 < last_left_of w q) × (0 < last_left_of v q)
  some = (some_last (where_is w q) (in_lock_left w q) (s.did.stood.laws.lock.some_left q), some_last (where_is v q) (in_lock_left v q) (s.did.stands.laws.lock.some_left q)) where
    some_last : (x : Position) (n : ℕ) → 0 < n → 0 < last x n
    some_last (At (TakeLock b)) n h = h
    some_last x n h = some_at x false n h

pub ends_soon : (w : World) → EndsSoon w
ends_soon = ends_within Steps standing_of (λ w p. knows) Rest.Finished last_left_of 3
    (λ w m a v s. s.legal.possible) (λ w m a v s. s.legal.ends_properly) (λ w m a v s q apart. s.legal.one_change.others q apart)
    falls keeps few some (omega arith)
