-- A call that is decided ends within four further steps of its own, however others step.
use Rattle.world_rwlock.proofs.Prelude.{◌≡◌, ◌≢◌, ℕ, ◌+◌, ◌<◌, ◌≤◌, ◌⊎◌, inl, inr, Bool, true, false, length, Option, Some, None, is_some, refl, sym, ap, ◌∙◌, subst, arith, get_or-set_same, get_or-set_other, and_parts, Answer, Go, Inputs, Move, What, Rest, Stage, Inside, Outside, Forgotten, stage_at, call_at, polls_again, put_in, is_decided, going_on, End, Pending, Refused, Got, GivenBack, TurnStep, TurnCourse, turn_at, Mutex, turn_steps_left, Purpose, Ending, Found, Turn, Place, refused_by, verdict, fits_turn, some_eq, is_marked_at, is_party, RwLock, Guarded, MovesThere, knows_there, knows_of, place_at, place_after, next_of, answer_by, Next, is_inside, is_on_course, course_of, goes_with, left, Table, World, standing_of, stands_as, Stands, Moved as Steps, steps_left_of, Does, Acted, inside_or_past}
use Rattle.world_base.proofs.Ending.{ends_within}
use Rattle.world_base.proofs.of_table.Views.{some_decided}
use Rattle.world_base.proofs.of_table.Ways.{way, by_way}
use Rattle.world_mutex.specs.machine.Course.{decision}
use Rattle.world_mutex.proofs.of_machine.callers.Callers.{releasing_decided, cancelling_decided}
use Rattle.world_mutex.proofs.of_machine.callers.Ending.{same_left}
use Rattle.world_mutex.proofs.of_machine.callers.Hearing as turn
use Rattle.world_rwlock.specs.Whole.{EndsSoon}
use Rattle.world_rwlock.proofs.bound.InTurn.{acts_or_not}
use Rattle.world_rwlock.proofs.laws.WorldLaws as law
use Rattle.world_rwlock.proofs.step.Idle.{Laws, stood}
use Rattle.world_rwlock.proofs.whole.Whole.{some_left}

-- how many steps are left at most of a call that is decided, by how many its call on the turn has left
abbrev last : Place → ℕ → ℕ
last (Place.TakeTurn q) n = n
last x n = left x false false n

-- as many as are left to one that moves alone, but where the turn is taken
as_left : (v : ℕ) (x : Place) (t : TurnCourse) → is_some (verdict v x t) ≡ true → ((h m : Bool) (n : ℕ) → left x h m n ≡ last x n) ⊎ ((q : Purpose) × (x ≡ Place.TakeTurn q))
as_left v (Place.TakeTurn q) t d = inr (q, refl)
as_left v Place.LeaveNoWriter t d = inl (λ h m n. refl)
as_left v Place.LeaveNoReaders t d = inl (λ h m n. refl)
as_left v (Place.RefuseLeave true) t d = inl (λ h m n. refl)
as_left v (Place.RefuseLeave false) t d = inl (λ h m n. refl)
as_left v (Place.RefuseNotify r) t d = inl (λ h m n. refl)
as_left v (Place.ReleaseTurn Ending.GivenBack) t d = inl (λ h m n. refl)
as_left v (Place.ReleaseTurn (Ending.NotFree q)) t d = inl (λ h m n. refl)
as_left v (Place.ReleaseTurn Ending.RefuseReaders) t d = inl (λ h m n. refl)
as_left v (Place.ReleaseTurn Ending.RefuseMemory) t d = inl (λ h m n. refl)
as_left v (Place.ReleaseTurn Ending.Reading) t d = inl (λ h m n. refl)
as_left v (Place.ReleaseTurn Ending.NotifyReaders) t d = inl (λ h m n. refl)
as_left v (Place.Unmark true) t d = inl (λ h m n. refl)
as_left v (Place.Unmark false) t d = inl (λ h m n. refl)
as_left v (Place.UnmarkNotify true) t d = inl (λ h m n. refl)
as_left v (Place.UnmarkNotify false) t d = inl (λ h m n. refl)
as_left v Place.Out t d = inl (λ h m n. refl)
as_left v Place.CancelRead t d = inl (λ h m n. refl)
as_left v Place.CancelTurn t d = inl (λ h m n. refl)
as_left v Place.DropRead t d = inl (λ h m n. refl)
as_left v Place.DropReadNotify t d = inl (λ h m n. refl)
as_left v Place.DropUpgradable t d = inl (λ h m n. refl)
as_left v Place.DropUpgradableNotify t d = inl (λ h m n. refl)
as_left v Place.DropWrite t d = inl (λ h m n. refl)
as_left v Place.DownNotify t d = inl (λ h m n. refl)
as_left v Place.DowngradeNotify t d = inl (λ h m n. refl)
as_left v (Place.ReleasingTurn Ending.GivenBack) t d = inl (λ h m n. refl)
as_left v (Place.ReleasingTurn (Ending.NotFree q)) t d = inl (λ h m n. refl)
as_left v (Place.ReleasingTurn Ending.RefuseReaders) t d = inl (λ h m n. refl)
as_left v (Place.ReleasingTurn Ending.RefuseMemory) t d = inl (λ h m n. refl)
as_left v (Place.ReleasingTurn Ending.Reading) t d = inl (λ h m n. refl)
as_left v (Place.ReleasingTurn Ending.NotifyReaders) t d = inl (λ h m n. refl)
as_left v Place.CancellingTurn t d = inl (λ h m n. refl)
as_left v Place.CancelAwait t d = inl (λ h m n. refl)
as_left v _ t d = absurd (cc d)

not_more : (v : ℕ) (x : Place) (t : TurnCourse) (h m : Bool) (n : ℕ) → is_some (verdict v x t) ≡ true → last x n ≤ left x h m n
not_more v x t h m n d = elim (as_left v x t d) as (λ _. last x n ≤ left x h m n) [
  | inl same ↦ omega (arith, same h m n)
  | inr taking ↦ omega (arith, ap (λ y. last y n) taking.1, ap (λ y. left y h m n) taking.1)
]

-- a refusal in the turn decides its call there too
refused_some : (o : Option End) → is_some (refused_by o) ≡ true → (e : End) × (o ≡ Some e)
refused_some (Some e) h = (e, refl)
refused_some None h = absurd (cc h)

-- they are four at most, and as many whatever its call on the turn is, where that is decided as it is here
steady : (v : ℕ) (x : Place) (t : TurnCourse) (n k : ℕ) → is_inside x ≡ true → is_some (verdict v x t) ≡ true → fits_turn x t ≡ true → ((e : End) → decision t ≡ Some e → (n ≡ k) × (n ≤ 2)) → (last x n ≡ last x k) × (last x n ≤ 4)
steady v (Place.TakeTurn q) t n k i d fits here = let e = refused_some (decision t) d in let it = here e.0 e.1 in (it.0, omega (arith, it.1))
steady v Place.LeaveNoWriter t n k i d fits here = (refl, omega arith)
steady v Place.LeaveNoReaders t n k i d fits here = (refl, omega arith)
steady v (Place.RefuseLeave true) t n k i d fits here = (refl, omega arith)
steady v (Place.RefuseLeave false) t n k i d fits here = (refl, omega arith)
steady v (Place.RefuseNotify r) t n k i d fits here = (refl, omega arith)
steady v (Place.ReleaseTurn Ending.GivenBack) t n k i d fits here = (refl, omega arith)
steady v (Place.ReleaseTurn (Ending.NotFree q)) t n k i d fits here = (refl, omega arith)
steady v (Place.ReleaseTurn Ending.RefuseReaders) t n k i d fits here = (refl, omega arith)
steady v (Place.ReleaseTurn Ending.RefuseMemory) t n k i d fits here = (refl, omega arith)
steady v (Place.ReleaseTurn Ending.Reading) t n k i d fits here = (refl, omega arith)
steady v (Place.ReleaseTurn Ending.NotifyReaders) t n k i d fits here = (refl, omega arith)
steady v (Place.Unmark true) t n k i d fits here = (refl, omega arith)
steady v (Place.Unmark false) t n k i d fits here = (refl, omega arith)
steady v (Place.UnmarkNotify true) t n k i d fits here = (refl, omega arith)
steady v (Place.UnmarkNotify false) t n k i d fits here = (refl, omega arith)
steady v Place.Out t n k i d fits here = (refl, omega arith)
steady v Place.CancelRead t n k i d fits here = (refl, omega arith)
steady v Place.CancelTurn t n k i d fits here = (refl, omega arith)
steady v Place.DropRead t n k i d fits here = (refl, omega arith)
steady v Place.DropReadNotify t n k i d fits here = (refl, omega arith)
steady v Place.DropUpgradable t n k i d fits here = (refl, omega arith)
steady v Place.DropUpgradableNotify t n k i d fits here = (refl, omega arith)
steady v Place.DropWrite t n k i d fits here = (refl, omega arith)
steady v Place.DownNotify t n k i d fits here = (refl, omega arith)
steady v Place.DowngradeNotify t n k i d fits here = (refl, omega arith)
steady v (Place.ReleasingTurn Ending.GivenBack) t n k i d fits here = let it = here GivenBack (releasing_decided t fits) in (omega (arith, it.0), omega (arith, it.1))
steady v (Place.ReleasingTurn (Ending.NotFree q)) t n k i d fits here = let it = here GivenBack (releasing_decided t fits) in (omega (arith, it.0), omega (arith, it.1))
steady v (Place.ReleasingTurn Ending.RefuseReaders) t n k i d fits here = let it = here GivenBack (releasing_decided t fits) in (omega (arith, it.0), omega (arith, it.1))
steady v (Place.ReleasingTurn Ending.RefuseMemory) t n k i d fits here = let it = here GivenBack (releasing_decided t fits) in (omega (arith, it.0), omega (arith, it.1))
steady v (Place.ReleasingTurn Ending.Reading) t n k i d fits here = let it = here GivenBack (releasing_decided t fits) in (omega (arith, it.0), omega (arith, it.1))
steady v (Place.ReleasingTurn Ending.NotifyReaders) t n k i d fits here = let it = here GivenBack (releasing_decided t fits) in (omega (arith, it.0), omega (arith, it.1))
steady v Place.CancellingTurn t n k i d fits here = let it = here GivenBack (cancelling_decided t fits) in (it.0, omega (arith, it.1))
steady v Place.CancelAwait t n k i d fits here = absurd (cc i)
steady v _ t n k i d fits here = absurd (cc d)

-- a call that is refused in the turn goes on there
row : (v : ℕ) (q : Purpose) (f : Found) (t : TurnCourse) → answer_by v (next_of (Place.TakeTurn q) f) ≡ Answer.Stepped → is_some (verdict v (place_after (next_of (Place.TakeTurn q) f)) t) ≡ true → place_after (next_of (Place.TakeTurn q) f) ≡ Place.TakeTurn q
row v q (Turn TurnStep.More) t e d = refl
row v Purpose.UpgradableRead (Turn (TurnStep.End Got)) t e d = absurd (cc d)
row v Purpose.Write (Turn (TurnStep.End Got)) t e d = absurd (cc d)
row v q (Turn (TurnStep.End (Refused r))) t e d = absurd (cc e)
row v q _ t e d = absurd (cc e)

abbrev course_there : World → ℕ → TurnCourse
course_there w q = turn_at w.behind.machine.lock.turn.courses q

abbrev where_is : World → ℕ → Place
where_is w q = place_at w.behind.machine.lock.places q

abbrev in_turn_left : World → ℕ → ℕ
in_turn_left w q = turn_steps_left w.behind.machine.lock.turn q

abbrev last_left_of : World → ℕ → ℕ
last_left_of w q = last (where_is w q) (in_turn_left w q)

abbrev value_of : World → ℕ
value_of w = w.behind.machine.value

abbrev here_marked : World → ℕ → Bool
here_marked w q = is_marked_at (is_party q) w.behind.machine.lock.no_writer

abbrev there_marked : World → ℕ → Bool
there_marked w q = is_marked_at (is_party q) w.behind.machine.lock.no_readers

-- whoever stands decided is at a place that decides, inside a call
module _ (w : World) (q : ℕ) (s : Stands w) (h : is_decided (standing_of w q) ≡ true) where
  seen_so : is_decided (stands_as (verdict (value_of w) (where_is w q) (course_there w q)) (stage_at w.behind.stages q)) ≡ true
  seen_so = ap is_decided (sym (ap (λ x. standing_of x q) s.seen ∙ stood w.behind q (record { lock = s.laws; fits = s.fits }))) ∙ h

  decided_there : is_some (verdict (value_of w) (where_is w q) (course_there w q)) ≡ true
  decided_there = some_decided (verdict (value_of w) (where_is w q) (course_there w q)) (stage_at w.behind.stages q) seen_so

  inside_there : is_inside (where_is w q) ≡ true
  inside_there = elim (inside_or_past w.behind.stages q) as (λ _. is_inside (where_is w q) ≡ true) [
    | inl known ↦ by_stage (stage_at w.behind.stages q) seen_so (s.fits.stands q known)
    | inr past ↦ (let out : is_decided (stands_as (verdict (value_of w) (where_is w q) (course_there w q)) Forgotten) ≡ true = ap (λ x. is_decided (stands_as (verdict (value_of w) (where_is w q) (course_there w q)) x)) (sym past.1) ∙ seen_so in absurd (cc out))
  ] where
    by_stage : (x : Stage) → is_decided (stands_as (verdict (value_of w) (where_is w q) (course_there w q)) x) ≡ true → goes_with x (where_is w q) ≡ true → is_inside (where_is w q) ≡ true
    by_stage (Inside u) d g = (and_parts (is_inside (where_is w q)) (is_on_course u.kind u.was (course_of (where_is w q))) g).0
    by_stage (Outside r) d g = absurd (cc d)
    by_stage Forgotten d g = absurd (cc d)

-- ---- a step of its own

module _ (w : World) (p : ℕ) (i : Inputs) (v : World) (s : Steps w (going_on p i) Answer.Stepped v) (decided : is_decided (standing_of w p) ≡ true) (on : is_decided (standing_of v p) ≡ true) where
  abbrev then : Answer → ℕ → Place → Type 0
  then b n x = b ≡ Answer.Stepped → is_some (verdict n x (course_there v p)) ≡ true → (q : Purpose) → where_is w p ≡ Place.TakeTurn q → x ≡ Place.TakeTurn q

  still_taking : then Answer.Stepped (value_of v) (where_is v p)
  still_taking = by_way knows_there Rest.Holding MovesThere w.behind v.behind (going_on p i) Answer.Stepped (λ b x. then b x.machine.value (place_at x.machine.lock.places p)) (λ e h. absurd (cc h)) (λ u e f h. absurd (cc h))
      (λ u e f k h d q is. (
      let acts : Acted w.behind.machine p (Go i) Answer.Stepped v.behind.machine = k.acts in
      let same : acts.from ≡ Place.TakeTurn q = sym (some_eq acts.starts) ∙ is in
      let known : p < length w.behind.machine.lock.places = omega (arith, k.inside, s.did.stood.fits.as_many) in
      let next : acts.next ≡ next_of (Place.TakeTurn q) acts.acts.found = acts.acts.next_is ∙ ap (λ x. next_of x acts.acts.found) same in
      let to : where_is v p ≡ place_after acts.next = ap (λ ps. place_at ps p) acts.acts.places ∙ get_or-set_same w.behind.machine.lock.places p (place_after acts.next) Place.Out known in
      let so : where_is v p ≡ place_after (next_of (Place.TakeTurn q) acts.acts.found) = to ∙ ap place_after next in
      let D : Place → Type 0 = λ x. is_some (verdict (value_of v) x (course_there v p)) ≡ true in
      let V : ℕ → Type 0 = λ n. is_some (verdict n (place_after (next_of (Place.TakeTurn q) acts.acts.found)) (course_there v p)) ≡ true in
      so ∙ row (value_of w) q acts.acts.found (course_there v p) (sym (acts.answer ∙ ap (answer_by (value_of w)) next)) (subst V acts.value (subst D so d))))
      (way knows_there Rest.Holding MovesThere w.behind v.behind (going_on p i) Answer.Stepped s.did.step)

  falls : last_left_of v p < last_left_of w p
  falls =
      let fell : steps_left_of v p < steps_left_of w p = law.falls w p i Answer.Stepped v s in
      let here = decided_there w p s.did.stood decided in
      let now = decided_there v p s.did.stands on in
      let less = not_more (value_of v) (where_is v p) (course_there v p) (here_marked v p) (there_marked v p) (in_turn_left v p) now in
      elim (as_left (value_of w) (where_is w p) (course_there w p) here) as (λ _. last_left_of v p < last_left_of w p) [
        | inl same ↦ omega (arith, fell, less, same (here_marked w p) (there_marked w p) (in_turn_left w p))
        | inr taking ↦ (
            let to = still_taking refl now taking.0 taking.1 in
            let A : Place → Place → Type 0 = λ x y. left y (here_marked v p) (there_marked v p) (in_turn_left v p) < left x (here_marked w p) (there_marked w p) (in_turn_left w p) in
            let at : A (Place.TakeTurn taking.0) (where_is v p) = subst (λ x. A x (where_is v p)) taking.1 fell in
            let both : A (Place.TakeTurn taking.0) (Place.TakeTurn taking.0) = subst (A (Place.TakeTurn taking.0)) to at in
            omega (arith, both, ap (λ x. last x (in_turn_left v p)) to, ap (λ x. last x (in_turn_left w p)) taking.1))
      ]

-- ---- a step of another

-- it leaves a party's call on the turn where it is
same_course : (q p : ℕ) (m n : Mutex) → q ≢ p → (n ≡ m) ⊎ turn.Moves p m n → turn_at n.courses q ≡ turn_at m.courses q
same_course q p m n apart (inl same) = ap (λ x. turn_at x.courses q) same
same_course q p m n apart (inr k) = k.others q apart

module _ (w : World) (m : Move) (a : Answer) (v : World) (s : Steps w m a v) (q : ℕ) where
  abbrev l : RwLock
  l = w.behind.machine.lock

  abbrev k : RwLock
  k = v.behind.machine.lock

  same_by : (o : Option ℕ) → q ≢ m.party → Does o w.behind.machine m.party m.what a v.behind.machine → where_is v q ≡ where_is w q
  same_by (Some n) apart d = ap (λ x. place_at x.lock.places q) d.1
  same_by None apart d = ap (λ ps. place_at ps q) d.acts.places ∙ get_or-set_other l.places m.party q (place_after d.next) Place.Out apart

  same_place : q ≢ m.party → where_is v q ≡ where_is w q
  same_place apart = by_way knows_there Rest.Holding MovesThere w.behind v.behind m a (λ b x. place_at x.machine.lock.places q ≡ where_is w q) (λ e. refl) (λ u e f. refl)
      (λ u e f d. same_by (put_in m.what) apart d.acts)
      (way knows_there Rest.Holding MovesThere w.behind v.behind m a s.did.step)

  pub same_there : q ≢ m.party → course_there v q ≡ course_there w q
  same_there apart = same_course q m.party l.turn k.turn apart (acts_or_not (call_at (knows_there w.behind.machine m.party) (stage_at w.behind.stages m.party) m.what) (polls_again (stage_at w.behind.stages m.party) m.what) w.behind m a v.behind s.did.step)

  keeps : q ≢ m.party → is_decided (standing_of w q) ≡ true → last_left_of v q ≤ last_left_of w q
  keeps apart decided =
      let alike = steady (value_of w) (where_is w q) (course_there w q) (in_turn_left w q) (in_turn_left v q) (inside_there w q s.did.stood decided) (decided_there w q s.did.stood decided) (s.did.stood.laws.in_turn q)
      (λ e is. (sym (same_left l.turn k.turn q s.did.stood.laws.turn s.did.stands.laws.turn (same_there apart) e is), (s.did.stood.laws.turn.last_left q e is).1)) in
      omega (arith, ap (λ x. last x (in_turn_left v q)) (same_place apart), alike.0)

  few : is_decided (standing_of w q) ≡ true → last_left_of w q ≤ 4
  few decided = (steady (value_of w) (where_is w q) (course_there w q) (in_turn_left w q) (in_turn_left w q) (inside_there w q s.did.stood decided) (decided_there w q s.did.stood decided) (s.did.stood.laws.in_turn q) (λ e is. (refl, (s.did.stood.laws.turn.last_left q e is).1))).1

  some : (0 < last_left_of w q) × (0 < last_left_of v q)
  some = (some_last (where_is w q) (in_turn_left w q) (s.did.stood.laws.turn.some_left q), some_last (where_is v q) (in_turn_left v q) (s.did.stands.laws.turn.some_left q)) where
    some_last : (x : Place) (n : ℕ) → 0 < n → 0 < last x n
    some_last (Place.TakeTurn b) n h = h
    some_last x n h = some_left x false false n h

pub ends_soon : (w : World) → EndsSoon w
ends_soon = ends_within Steps standing_of knows_of Rest.Holding last_left_of 4
    (λ w m a v s. s.legal.possible) (λ w m a v s. s.legal.ends_properly) (λ w m a v s q apart. s.legal.one_change.others q apart)
    falls keeps few some (omega arith)
