-- A later poll of a take without a permit, where one is available: it takes the permit.
use Rattle.world_pool.proofs.Prelude.{◌≡◌, ◌≢◌, ℕ, ◌<◌, ◌≤◌, ◌⊎◌, inl, inr, Bool, true, false, Option, Some, length, refl, ap, sym, ◌∙◌, subst, arith, some_eq, false≢true, get_or-set_same, Answer, Got, Call, Inputs, Begin, Go, Rest, Stage, Outside, outside, call_at, polls_again, knows, goes_with, going_on, beginning, moves_of, answers_of, Table, stage_at, answer_of, got_with, End, Step, Refusal, SemaphoreCall, Permits, permit_course, Aim, Ending, Taker, Return, Found, Next, Place, WaitPermit, TakePermit, EnterLock, TakeLock, Pop, ReleaseLock, ReleasingLock, ReturnPermit, ReturningPermit, Position, Out, Made, Acquiring, Locking, At, action_of, next_of, position_after, place_for, after_permit, after_lock, after_release, after_return, OnPermits, fits_permits, in_permits, has, wants, Pool, IsPool, Moves, position_at, lease_at, answer_by, World, standing_of, available, verdict_in, items_after, HoldsWell, Runs, Steps, StandsWell}
use Rattle.lock_program.specs.declared.end.Next.TheVariants as next
use Rattle.world_base.proofs.of_any_world.Runs.{Onward, along}
use Rattle.world_base.proofs.of_table.Ways.{acted}
use Rattle.world_base.proofs.of_table.Views.{outside_stage}
use Rattle.world_semaphore.specs.machine.Calls.{GoesOnAlone, CallsAlone, last, further, at_once, begun}
use Rattle.world_semaphore.specs.machine.Permits.{size_of}
use Rattle.world_semaphore.proofs.of_machine.callers.InVain.{alone}
use Rattle.world_pool.proofs.of_machine.Links.{wants_one, may_want}
use Rattle.world_pool.proofs.table.Seen.{standing_seen}
use Rattle.world_pool.proofs.step.Stepping.{known_calls}
use Rattle.world_semaphore.specs.machine.Course as permit
use Rattle.world_pool.proofs.whole.Free.{inside_positions, stage_inside, never_stepped as never_steps}

-- a take's poll that has its permit, or gives it back
abbrev has_taken : Place → Bool
has_taken (EnterLock Aim.Take) = true
has_taken (TakeLock Aim.Take) = true
has_taken (Pop Taker.Poll) = true
has_taken (ReleaseLock (Ending.Leased Taker.Poll)) = true
has_taken (ReleasingLock (Ending.Leased Taker.Poll)) = true
has_taken (ReturnPermit Return.NoMemory) = true
has_taken (ReturnPermit Return.Starved) = true
has_taken (ReturningPermit Return.NoMemory) = true
has_taken (ReturningPermit Return.Starved) = true
has_taken _ = false

-- what comes next keeps that, or is no end in pending but one that waits for the lock
abbrev Taken : Next → Type 0
Taken (next.Do y) = has_taken y ≡ true
Taken (next.End End.Pending x) = x ≡ Locking Aim.Take
Taken (next.End e x) = Unit {0}

lock_taken : (f : Found) → Taken (after_lock Aim.Take f)
lock_taken (Found.Lock Step.More) = refl
lock_taken (Found.Lock (Step.End End.Got)) = refl
lock_taken (Found.Lock (Step.End (End.Refused Refusal.Starved))) = refl
lock_taken (Found.Lock (Step.End (End.Refused Refusal.Memory))) = refl
lock_taken (Found.Lock (Step.End (End.Refused _))) = refl
lock_taken _ = refl

release_taken : (f : Found) → Taken (after_release (Ending.Leased Taker.Poll) f)
release_taken (Found.Lock Step.More) = refl
release_taken _ = tt

memory_taken : (f : Found) → Taken (after_return Return.NoMemory f)
memory_taken (Found.Permit Step.More) = refl
memory_taken _ = tt

starved_taken : (f : Found) → Taken (after_return Return.Starved f)
starved_taken (Found.Permit Step.More) = refl
starved_taken _ = tt

stays_taken : (x : Place) (f : Found) → has_taken x ≡ true → Taken (next_of x f)
stays_taken (EnterLock Aim.Take) f h = lock_taken f
stays_taken (TakeLock Aim.Take) f h = lock_taken f
stays_taken (Pop Taker.Poll) f h = refl
stays_taken (ReleaseLock (Ending.Leased Taker.Poll)) f h = release_taken f
stays_taken (ReleasingLock (Ending.Leased Taker.Poll)) f h = release_taken f
stays_taken (ReturnPermit Return.NoMemory) f h = memory_taken f
stays_taken (ReturnPermit Return.Starved) f h = starved_taken f
stays_taken (ReturningPermit Return.NoMemory) f h = memory_taken f
stays_taken (ReturningPermit Return.Starved) f h = starved_taken f
stays_taken _ f h = absurd (cc h)

module _ (p : ℕ) (i : Inputs) (m : Permits) where
  -- what is known of the semaphore's call so far
  abbrev Prefix : Permits → Type 0
  Prefix x = (e : End) (new : Permits) → GoesOnAlone i.memory p e new x → CallsAlone SemaphoreCall.Poll i.memory p e new m

  abbrev On : Pool → Type 0
  On s = ((position_at s.positions p ≡ At TakePermit) × Prefix s.permits) ⊎ ((x : Place) × (position_at s.positions p ≡ At x) × (has_taken x ≡ true))

  abbrev permit_has : Pool → Type 0
  permit_has s = fits_permits has (permit_course s.permits.courses p) ≡ true

  abbrev Waits : Answer → Pool → Type 0
  Waits a s = a ≡ Answer.Pending → permit_has s

  abbrev Goes : Answer → World → Type 0
  Goes a v = Onward (λ (y : World). On y.behind.machine) (λ b (y : World). Waits b y.behind.machine) a v

  never : (g : Got) (d : End) → answer_of g d ≡ Answer.Pending → d ≡ End.Pending
  never g End.Got e = absurd (cc e)
  never g End.Granted e = absurd (cc e)
  never g End.Pending e = refl
  never g End.Waiting e = absurd (cc e)
  never g End.NotFree e = absurd (cc e)
  never g End.GivenBack e = absurd (cc e)
  never g (End.Refused r) e = absurd (cc e)

  ends_taken : (d : End) (z : Position) → Taken (next.End d z) → d ≡ End.Pending → z ≡ Locking Aim.Take
  ends_taken End.Pending z h e = h
  ends_taken End.Got z h e = absurd (cc e)
  ends_taken End.Granted z h e = absurd (cc e)
  ends_taken End.Waiting z h e = absurd (cc e)
  ends_taken End.NotFree z h e = absurd (cc e)
  ends_taken End.GivenBack z h e = absurd (cc e)
  ends_taken (End.Refused r) z h e = absurd (cc e)

  -- once it has its permit
  onward_taken : (n : Next) (v : World) (a : Answer) (l : Option ℕ) → IsPool v.behind.machine → a ≡ answer_by n l → position_at v.behind.machine.positions p ≡ position_after n → Taken n → Goes a v
  onward_taken (next.Do y) v a l laws is at h = record { going = λ st. inr (y, at, h); ended = λ ne. absurd (ne is) }
  onward_taken (next.End d z) v a l laws is at h = record {
    going = λ st. (let never_goes : answer_of (got_with l) d ≡ Answer.Stepped = sym is ∙ st in absurd (never_steps (got_with l) d never_goes));
    ended = λ ne pending. (
        let here : position_at v.behind.machine.positions p ≡ Locking Aim.Take = at ∙ ends_taken d z h (never (got_with l) d (sym is ∙ pending)) in
        let P : Position → Type 0 = λ x. fits_permits (in_permits x) (permit_course v.behind.machine.permits.courses p) ≡ true in
        subst P here (laws.permits p));
  }

  -- the semaphore's step: it goes on, or it took the permit
  module _ (may : (e : End) (new : Permits) → CallsAlone SemaphoreCall.Poll i.memory p e new m → e ≡ End.Got) where
    stepped : (f : Found) (st : Step) (v : World) (a : Answer) (l : Option ℕ) → IsPool v.behind.machine → f ≡ Found.Permit st → a ≡ answer_by (after_permit f) l → position_at v.behind.machine.positions p ≡ position_after (after_permit f)
        → ((e : End) → st ≡ Step.End e → CallsAlone SemaphoreCall.Poll i.memory p e v.behind.machine.permits m) → (st ≡ Step.More → Prefix v.behind.machine.permits) → Goes a v
    stepped f st v a l laws is answer at ends more = by_step st refl where
      by_step : (k : Step) → st ≡ k → Goes a v
      by_step Step.More e =
          let found : f ≡ Found.Permit Step.More = is ∙ ap Found.Permit e in
          record { going = λ s. inl (at ∙ ap (λ g. position_after (after_permit g)) found, more e); ended = λ ne. absurd (ne (answer ∙ ap (λ g. answer_by (after_permit g) l) found)) }
      by_step (Step.End d) e =
          let got : d ≡ End.Got = may d v.behind.machine.permits (ends d e) in
          let found : f ≡ Found.Permit (Step.End End.Got) = is ∙ ap Found.Permit (e ∙ ap Step.End got) in
          let goes_on : a ≡ Answer.Stepped = answer ∙ ap (λ g. answer_by (after_permit g) l) found in
          record { going = λ s. inr (EnterLock Aim.Take, at ∙ ap (λ g. position_after (after_permit g)) found, refl); ended = λ ne. absurd (ne goes_on) }

    on_go : (old : Permits) (f : Found) (v : World) (a : Answer) (l : Option ℕ) → IsPool v.behind.machine → OnPermits i p (action_of TakePermit) f old v.behind.machine.permits → Prefix old → a ≡ answer_by (after_permit f) l → position_at v.behind.machine.positions p ≡ position_after (after_permit f) → Goes a v
    on_go old (Found.Permit st) v a l laws h so answer at = stepped (Found.Permit st) st v a l laws refl answer at
        (λ e is. so e v.behind.machine.permits (last old (rw is at h.done)))
        (λ is e new g. so e new (further old v.behind.machine.permits (rw is at h.done) g))
    on_go old _ v a l laws h so answer at = absurd h

    on_begin : (f : Found) (v : World) (a : Answer) (l : Option ℕ) → IsPool v.behind.machine → OnPermits i p (action_of WaitPermit) f m v.behind.machine.permits → a ≡ answer_by (after_permit f) l → position_at v.behind.machine.positions p ≡ position_after (after_permit f) → Goes a v
    on_begin (Found.Permit st) v a l laws h answer at = stepped (Found.Permit st) st v a l laws refl answer at
        (λ e is. at_once m (rw is at h.done))
        (λ is e new g. begun m v.behind.machine.permits (rw is at h.done) g)
    on_begin _ v a l laws h answer at = absurd h

    module _ (x : World) (a : Answer) (v : World) (s : Steps x (going_on p i) a v) where
      abbrev t : Table Pool
      t = x.behind

      record Went (y : Place) : Type 0 where
        found : Found
        permits : OnPermits i p (action_of y) found t.machine.permits v.behind.machine.permits
        answer : a ≡ answer_by (next_of y found) (lease_at v.behind.machine.leases p)
        at : position_at v.behind.machine.positions p ≡ position_after (next_of y found)

      went : (y : Place) → position_at t.machine.positions p ≡ At y → Went y
      went y here =
          let known : p < length t.stages = omega (arith, s.did.stood.fits.as_many, inside_positions t.machine p y here) in
          let P : Position → Type 0 = λ z. goes_with (stage_at t.stages p) z ≡ true in
          let stage = stage_inside (stage_at t.stages p) y (subst P here (s.did.stood.fits.stands p known)) in
          let call : call_at knows (stage_at t.stages p) (Go i) ≡ Some stage.0 = ap (λ z. call_at knows z (Go i)) stage.1 in
          let first : polls_again (stage_at t.stages p) (Go i) ≡ false = ap (λ z. polls_again z (Go i)) stage.1 in
          let k = acted known_calls Rest.Holding Moves t v.behind (going_on p i) a stage.0 call first s.did.step in
          let from : k.acts.from ≡ y = some_eq (sym k.acts.starts ∙ ap (place_for (Go i)) here) in
          let A : Place → Type 0 = λ z. OnPermits i p (action_of z) k.acts.found t.machine.permits v.behind.machine.permits in
          record {
            found = k.acts.found;
            permits = subst A from k.acts.acts.permits;
            answer = k.acts.answer ∙ ap (λ z. answer_by (next_of z k.acts.found) (lease_at v.behind.machine.leases p)) from;
            at = ap (λ ps. position_at ps p) k.acts.acts.positions ∙ (get_or-set_same t.machine.positions p _ Out (inside_positions t.machine p y here) ∙ ap (λ z. position_after (next_of z k.acts.found)) from);
          }

      by_phase : On t.machine → Goes a v
      by_phase (inl phase) = (let k = went TakePermit phase.0 in on_go t.machine.permits k.found v a (lease_at v.behind.machine.leases p) s.did.stands.laws k.permits phase.1 k.answer k.at)
      by_phase (inr phase) = (let k = went phase.0 phase.1 in onward_taken (next_of phase.0 k.found) v a (lease_at v.behind.machine.leases p) s.did.stands.laws k.answer k.at (stays_taken phase.0 k.found phase.2))

    goes_on : (x : World) (a : Answer) (v : World) → On x.behind.machine → Steps x (going_on p i) a v → Goes a v
    goes_on x a v on s = by_phase x a v s on

-- ---- as callers see it

waits_for_permit : (i : Inputs) (x : Position) (c : _) (from : Place) → goes_with (Outside Rest.Pending) x ≡ true → fits_permits (in_permits x) c ≡ true → fits_permits wants c ≡ true → place_for (Begin Call.Poll i) x ≡ Some from → from ≡ WaitPermit
waits_for_permit i Acquiring c from g f w e = sym (some_eq e)
waits_for_permit i (Made Aim.Take) permit.out from g f w e = absurd (false≢true w)
waits_for_permit i (Made Aim.Give) (permit.holding k) from g f w e = absurd (false≢true w)
waits_for_permit i (Locking a) (permit.holding k) from g f w e = absurd (false≢true w)
waits_for_permit i _ _ from g f w e = absurd (cc)

module _ (known : ℕ → Option ℕ) (w : World) (p : ℕ) (i : Inputs) (n : ℕ) (a : Answer) (v : World) (stood : StandsWell w) (ended : a ≢ Answer.Stepped) where
  abbrev m : Permits
  m = w.behind.machine.permits

  pub takes : standing_of w p ≡ outside Rest.Pending → fits_permits wants (permit_course w.semaphore.courses p) ≡ true → 1 ≤ available w → Runs known w (moves_of p Call.Poll i n) (answers_of n a) v → a ≡ Answer.Pending → fits_permits has (permit_course v.behind.machine.permits.courses p) ≡ true
  takes pending wanting one runs =
      let S : World → Type 0 = λ x. fits_permits wants (permit_course x.semaphore.courses p) ≡ true in
      let W : fits_permits wants (permit_course m.courses p) ≡ true = subst S stood.seen wanting in
      let A : World → Type 0 = λ x. 1 ≤ available x in
      let enough : size_of m p ≤ m.words.available = rw (wants_one (permit_course m.courses p) W) (subst A stood.seen one) in
      let may : (e : End) (new : Permits) → CallsAlone SemaphoreCall.Poll i.memory p e new m → e ≡ End.Got = λ e new calls. ((alone m stood.laws.semaphore).takes i.memory p e new (may_want (permit_course m.courses p) W) enough calls).0 in
      let stage : stage_at w.behind.stages p ≡ Outside Rest.Pending = outside_stage (verdict_in w.behind.machine p) (stage_at w.behind.stages p) Rest.Pending (sym (standing_seen w.behind p) ∙ (ap (λ x. standing_of x p) (sym stood.seen) ∙ pending)) in
      let first : (b : Answer) (x : World) → Steps w (beginning p Call.Poll i) b x → Goes p i m b x = λ b x s. (
      let call : call_at knows (stage_at w.behind.stages p) (Begin Call.Poll i) ≡ Some _ = ap (λ z. call_at knows z (Begin Call.Poll i)) stage in
      let again : polls_again (stage_at w.behind.stages p) (Begin Call.Poll i) ≡ false = ap (λ z. polls_again z (Begin Call.Poll i)) stage in
      let k = acted known_calls Rest.Holding Moves w.behind x.behind (beginning p Call.Poll i) b _ call again s.did.step in
      let P : Stage → Type 0 = λ z. goes_with z (position_at w.behind.machine.positions p) ≡ true in
      let from : k.acts.from ≡ WaitPermit = waits_for_permit i (position_at w.behind.machine.positions p) (permit_course m.courses p) k.acts.from (subst P stage (s.did.stood.fits.stands p k.inside)) (s.did.stood.laws.permits p) W k.acts.starts in
      let B : Place → Type 0 = λ z. OnPermits i p (action_of z) k.acts.found m x.behind.machine.permits in
      let inside : p < length w.behind.machine.positions = omega (arith, k.inside, s.did.stood.fits.as_many) in
      on_begin p i m may k.acts.found x b (lease_at x.behind.machine.leases p) s.did.stands.laws (subst B from k.acts.acts.permits)
      (k.acts.answer ∙ ap (λ z. answer_by (next_of z k.acts.found) (lease_at x.behind.machine.leases p)) from)
      (ap (λ ps. position_at ps p) k.acts.acts.positions ∙ (get_or-set_same w.behind.machine.positions p _ Out inside ∙ ap (λ z. position_after (next_of z k.acts.found)) from))
      ) in
      along Steps items_after HoldsWell p i (λ (y : World). On p i m y.behind.machine) (λ b (y : World). Waits p i m b y.behind.machine) (goes_on p i m may) known n w (beginning p Call.Poll i) a v first ended runs
