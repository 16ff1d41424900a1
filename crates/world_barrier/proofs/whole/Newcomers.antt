-- Beside parties that are starved for the inner lock a first poll waits as one of them, or is refused; where there are none it isn't counted, nor refused for their number.
use Rattle.world_barrier.proofs.Prelude.{◌≡◌, ◌≢◌, ℕ, ◌<◌, ◌==◌, ◌⊎◌, inl, inr, Bool, true, false, is_some, refl, sym, ap, ◌∙◌, subst, arith, nat_tests, false≢true, true≢false, Answer, Call, Inputs, Refusal, refused, is_refusal, Begin, Rest, Account, accounts_after, how_many, is_outside_stage, going_on, moves_of, answers_of, beginning, Onward, along, stage_at, Table, End as LockEnd, LockStep, Course, starved_there as counted, Takes, is_counting, decision, is_out, course_at, starved, Aim, Found, Place, EnterLock, TakeLock, Position, Out, Made, Locking, Waiting, At, next_of, position_after, position_left, after_lock, InLock, fits_lock, in_lock, Barrier, IsBarrier, position_at, answer_by, Next, World, standing_of, is_starved, view_of, entries_in, is_first_poll, knows, Runs, HoldsWell, Stands, Steps}
use Rattle.std.specs.Prelude.{nat_lt}
use Rattle.lock_program.specs.declared.end.Next.TheVariants as next
use Rattle.world_base.proofs.of_any_world.Unsaid.{unsaid}
use Rattle.world_mutex.specs.machine.Course as course
use Rattle.world_mutex.specs.machine.Conduct.{is_some_starved, IsUntold, StaysUntold}
use Rattle.world_mutex.proofs.of_machine.callers.Holders as sees
use Rattle.world_barrier.specs.machine.Roles as roles
use Rattle.world_barrier.proofs.table.Seen.{standing_seen}
use Rattle.world_barrier.proofs.whole.Served.{Step, Then}
use Rattle.world_barrier.proofs.whole.Alone.{GoesAt, EndsAt, did, is_inside, by_step, onward}
use Rattle.world_barrier.proofs.whole.Patient.{starved_refusal, midway, counting}
use Rattle.world_barrier.proofs.whole.Polls.{Begins, first_from, nobody_starved}
use Rattle.world_barrier.proofs.whole.Ring.{PastIn, PastAt, stays_past}

-- ---- who is about to be counted

untold_uncounting : (c : Course) → course.is_untold false c ≡ true → is_counting c ≡ false
untold_uncounting (course.taking course.counting a b d) h = absurd (false≢true h)
untold_uncounting (course.taking _ a b d) h = refl
untold_uncounting _ h = refl

decided_uncounting : (c : Course) → is_some (decision c) ≡ true → is_counting c ≡ false
decided_uncounting (course.taking course.counting a b d) h = absurd (false≢true h)
decided_uncounting (course.taking _ a b d) h = refl
decided_uncounting _ h = refl

-- nobody is who isn't in a poll of the lock
abbrev pub is_takes : InLock → Bool
is_takes roles.takes = true
is_takes _ = false

calm_in : (k : InLock) (c : Course) → fits_lock k c ≡ true → is_takes k ≡ false → is_counting c ≡ false
calm_in roles.takes c h t = absurd (true≢false t)
calm_in _ (course.taking course.counting a b d) h t = absurd (false≢true h)
calm_in _ (course.taking _ a b d) h t = absurd (false≢true h)
calm_in _ _ h t = refl

out_plain : (c : Course) → is_out c ≡ true → counted c ≡ 0
out_plain course.out h = refl
out_plain _ h = absurd (false≢true h)

-- ---- along a whole call

module _ (p : ℕ) (i : Inputs) (b : Bool) where
  abbrev there : Barrier → Course
  there x = course_at x.lock.courses p

  -- in a poll of the lock that took no notification
  abbrev NewIn : Place → Barrier → Type 0
  NewIn (TakeLock a) x = IsUntold p b x.lock × (is_some_starved x.lock ≡ b)
  NewIn place x = ⊥

  -- or past it, having got the lock where nobody is starved
  abbrev Going : Position → Barrier → Type 0
  Going (At place) x = NewIn place x ⊎ ((b ≡ false) × PastIn place p x)
  Going z x = ⊥

  abbrev EndAs : Bool → Answer → Position → Barrier → Type 0
  EndAs true a z y = ((a ≡ Answer.Pending) × (counted (there y) ≡ 1)) ⊎ ((a ≡ refused Refusal.Memory) ⊎ (a ≡ refused Refusal.Starved))
  EndAs false a z y = (counted (there y) ≡ 0) ⊎ PastAt z p y

  inside : (z : Position) (x : Barrier) → Going z x → (y : Place) × (z ≡ At y)
  inside (At y) x h = (y, refl)
  inside _ x h = absurd h

  abbrev On : Next → Barrier → Type 0
  On = Then Going (EndAs b)

  pends : (c : Bool) (a : Answer) (z : Position) (y : Barrier) → a ≡ Answer.Pending → there y ≡ course.waiting c → EndAs c a z y
  pends true a z y is e = inl (is, ap counted e)
  pends false a z y is e = inl (ap counted e)

  refuses : (c : Bool) (r : Refusal) (z : Position) (y : Barrier) → Takes (LockStep.End (LockEnd.Refused r)) (there y) → EndAs c (refused r) z y
  refuses true Refusal.Memory z y h = inr (inl refl)
  refuses true Refusal.Starved z y h = inr (inr refl)
  refuses false Refusal.Memory z y h = inl (ap counted h)
  refuses false Refusal.Starved z y h = inl (ap counted h)
  refuses c _ z y h = absurd h

  -- a step of the poll of the lock
  took : (a : Aim) (s : LockStep) (y : Barrier) → Takes s (there y) → StaysUntold p b s y.lock → On (after_lock a (Found.Lock s)) y
  took a LockStep.More y takes stays = inl stays
  took Aim.Arrive (LockStep.End LockEnd.Got) y takes stays = inr (stays, tt)
  took Aim.Check (LockStep.End LockEnd.Got) y takes stays = inr (stays, tt)
  took a (LockStep.End LockEnd.Pending) y takes stays = pends b Answer.Pending (Locking a) y refl stays
  took a (LockStep.End (LockEnd.Refused r)) y takes stays = refuses b r (Made a) y takes
  took a (LockStep.End _) y takes stays = absurd takes

  enters_so : (a : Aim) (f : Found) (x y : Barrier) → is_some_starved x.lock ≡ b → Step i p (EnterLock a) f x y → On (next_of (EnterLock a) f) y
  enters_so a (Found.Lock s) x y some k = let S : Bool → Type 0 = λ c. StaysUntold p c s y.lock in took a s y k.lock.leads (subst S some (k.lock.untold refl))
  enters_so a _ x y some k = absurd k.lock

  link_at : (from : Place) (x : Barrier) → IsBarrier x → position_at x.positions p ≡ At from → fits_lock (in_lock (At from)) (there x) ≡ true
  link_at from x laws here = let P : Position → Type 0 = λ z. fits_lock (in_lock z) (there x) ≡ true in subst P here (laws.links p)

  takes_so : (a : Aim) (f : Found) (x y : Barrier) → IsBarrier x → position_at x.positions p ≡ At (TakeLock a) → NewIn (TakeLock a) x → Step i p (TakeLock a) f x y → On (next_of (TakeLock a) f) y
  takes_so a (Found.Lock s) x y laws here new k =
      let U : Bool → Type 0 = λ c. IsUntold p c x.lock in
      let S : Bool → Type 0 = λ c. StaysUntold p c s y.lock in
      took a s y (k.lock.leads.takes (link_at (TakeLock a) x laws here)) (subst S new.1 (k.lock.untold (subst U (sym new.1) new.0)))
  takes_so a _ x y laws here new k = absurd k.lock

  past_on : (n : Next) (y : Barrier) → b ≡ false → PastAt (position_after n) p y → On n y
  past_on (next.Do place) y none past = inr (none, past)
  past_on (next.End e z) y none past = let E : Bool → Type 0 = λ c. EndAs c (answer_by (next.End e z)) (position_left z) y in subst E (sym none) (inr past)

  leads : (x y : Barrier) (from : Place) (f : Found) → IsBarrier x → IsBarrier y → position_at x.positions p ≡ At from → Going (At from) x → Step i p from f x y → On (next_of from f) y
  leads x y (TakeLock a) f laws later here (inl new) k = takes_so a f x y laws here new k
  leads x y from f laws later here (inr past) k = past_on (next_of from f) y past.0 (stays_past i p x y laws from f here past.1 k)
  leads x y _ f laws later here (inl new) k = absurd new

  -- nobody is about to be counted there, where nobody is starved
  calm_at : (place : Place) (x : Barrier) → IsBarrier x → position_at x.positions p ≡ At place → b ≡ false → Going (At place) x → is_counting (there x) ≡ false
  calm_at (TakeLock a) x laws here none (inl new) = let U : Bool → Type 0 = λ c. course.is_untold c (there x) ≡ true in untold_uncounting (there x) (subst U none new.0.0)
  calm_at (TakeLock a) x laws here none (inr past) = decided_uncounting (there x) past.1
  calm_at place x laws here none g = calm_in (in_lock (At place)) (there x) (link_at place x laws here) refl

-- ---- as callers see it

module _ (known : ℕ → Account) (w : World) (p : ℕ) (c : Call) (i : Inputs) (n : ℕ) (a : Answer) (v : World) (stood : Stands w) (stands : Stands v) (ended : a ≢ Answer.Stepped) (runs : Runs known w (moves_of p c i n) (answers_of n a) v) (is : is_first_poll (standing_of w p) (Begin c i) (entries_in w p) ≡ true) where
  abbrev t : Table Barrier
  t = w.behind

  starts : Begins t p c i EnterLock
  starts =
      let is' = subst (λ x. is_first_poll (standing_of x p) (Begin c i) (entries_in x p) ≡ true) stood.seen is in
      first_from t p stood.laws stood.fits i c (stage_at t.stages p) refl (subst (λ z. is_first_poll z (Begin c i) (entries_in (view_of t) p) ≡ true) (standing_seen t p) is')

  module _ (b : Bool) (some : is_some_starved t.machine.lock ≡ b) where
    begins : (e : Answer) (x : World) → Steps w (beginning p c i) e x → Onward (GoesAt t p i (Going p i b) (EndAs p i b b)) (EndsAt t p i (Going p i b) (EndAs p i b b)) e x
    begins e x step =
        let k = starts in
        let d = did t x.behind p e step.did.stood.laws step.did.stood.fits (Begin c i) k.stage k.within (EnterLock k.its_aim) k.at k.called k.first k.starts step.did.step in
        by_step t p i (Going p i b) (EndAs p i b b) w x (Begin c i) (EnterLock k.its_aim) e (λ q apart. refl) d (enters_so p i b k.its_aim d.found t.machine x.behind.machine some d.step)

    ends : EndsAt t p i (Going p i b) (EndAs p i b b) a v
    ends = along Steps accounts_after HoldsWell p i (GoesAt t p i (Going p i b) (EndAs p i b b)) (EndsAt t p i (Going p i b) (EndAs p i b b)) (onward t p i (Going p i b) (EndAs p i b b) (inside p i b) (leads p i b)) known n w (beginning p c i) a v begins ended runs

  linked : (z : Position) → position_at v.behind.machine.positions p ≡ z → fits_lock (in_lock z) (course_at v.behind.machine.lock.courses p) ≡ true
  linked z e = let P : Position → Type 0 = λ y. fits_lock (in_lock y) (course_at v.behind.machine.lock.courses p) ≡ true in subst P e (stands.laws.links p)

  -- at the end its party is out, or waits for its generation
  plain : (z : Position) → position_at v.behind.machine.positions p ≡ z → is_outside_stage (stage_at v.behind.stages p) ≡ true → PastAt z p v.behind.machine → counted (course_at v.behind.machine.lock.courses p) ≡ 0
  plain Out here out past = out_plain (course_at v.behind.machine.lock.courses p) (linked Out here)
  plain (Made m) here out past = out_plain (course_at v.behind.machine.lock.courses p) (linked (Made m) here)
  plain Waiting here out past = out_plain (course_at v.behind.machine.lock.courses p) (linked Waiting here)
  plain (Locking m) here out past = absurd past
  plain (At place) here out past = (let within = is_inside v.behind p place stands.fits here in absurd (false≢true (sym (ap is_outside_stage within.1) ∙ out)))

  some_so : (k : ℕ) → 0 < k → nat_lt 0 k ≡ true
  some_so k h = grind (arith, nat_tests)

  none_so : (k : ℕ) → k ≡ 0 → nat_lt 0 k ≡ false
  none_so k h = grind (arith, nat_tests)

  starved_then : is_starved v.lock p ≡ (counted (course_at v.behind.machine.lock.courses p) == 1)
  starved_then = ap (λ x. is_starved x.lock p) stands.seen ∙ sees.starved_at v.behind.machine.lock.courses p

  pub newcomer : 0 < how_many w.lock.starved → ((a ≡ Answer.Pending) × (is_starved v.lock p ≡ true)) ⊎ ((a ≡ refused Refusal.Memory) ⊎ (a ≡ refused Refusal.Starved))
  newcomer some =
      let many : how_many w.lock.starved ≡ starved t.machine.lock = ap (λ x. how_many x.lock.starved) stood.seen ∙ sees.how_many_counted t.machine.lock.courses in
      let there = some_so (starved t.machine.lock) (omega (arith, some, many)) in
      elim (ends true there).ended as (λ _. ((a ≡ Answer.Pending) × (is_starved v.lock p ≡ true)) ⊎ ((a ≡ refused Refusal.Memory) ⊎ (a ≡ refused Refusal.Starved))) [
        | inl q ↦ inl (q.0, starved_then ∙ ap (λ (k : ℕ). k == 1) q.1)
        | inr r ↦ inr r
      ]

  pub first_patient : how_many w.lock.starved ≡ 0 → (a ≢ starved_refusal) × (is_starved v.lock p ≡ false)
  first_patient none =
      let zero : starved t.machine.lock ≡ 0 = nobody_starved t (subst (λ x. how_many x.lock.starved ≡ 0) stood.seen none) in
      let there = none_so (starved t.machine.lock) zero in
      let e = ends false there in
      let uncounted : counted (course_at v.behind.machine.lock.courses p) ≡ 0 = elim e.ended as (λ _. counted (course_at v.behind.machine.lock.courses p) ≡ 0) [ inl z ↦ z | inr past ↦ plain (position_at v.behind.machine.positions p) refl e.outside past ] in (
        unsaid Steps standing_of (λ x q. knows) Rest.Finished (λ x m z y s. s.legal.possible) (λ x m z y s. s.legal.ends_properly) starved_refusal refl (λ x m z y s d. midway x y m z s d) p i (GoesAt t p i (Going p i false) (EndAs p i false false)) (EndsAt t p i (Going p i false) (EndAs p i false false)) (onward t p i (Going p i false) (EndAs p i false false) (inside p i false) (leads p i false))
            (λ x z y g s d. true≢false (sym (counting x y (going_on p i) z s d) ∙ quiet x s.did.stood g)) accounts_after HoldsWell known w c n a v (begins false there) ended runs,
        starved_then ∙ ap (λ (k : ℕ). k == 1) uncounted,
      ) where
        quiet : (x : World) → Stands x → GoesAt t p i (Going p i false) (EndAs p i false false) x → is_counting (course_at x.behind.machine.lock.courses p) ≡ false
        quiet x s g =
            let at = inside p i false (position_at x.behind.machine.positions p) x.behind.machine g.going in
            let P : Position → Type 0 = λ z. Going p i false z x.behind.machine in
            calm_at p i false at.0 x.behind.machine s.laws at.1 refl (subst P at.1 g.going)
