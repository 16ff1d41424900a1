-- A whole first call where the list's lock is free, and a take or a try finds a permit: it comes to what it is for.
use Rattle.world_pool.proofs.Prelude.{◌≡◌, ◌≢◌, ℕ, ◌<◌, ◌≤◌, true, false, Option, Some, length, refl, ap, sym, ◌∙◌, subst, arith, some_eq, false≢true, get_or-set_same, Answer, Got, Call, Inputs, What, Begin, Go, Rest, Stage, Outside, Inside, Forgotten, Within, call_at, polls_again, knows, goes_with, view_of, outside, inputs_of, going_on, beginning, moves_of, answers_of, Acted, stage_at, answer_of, got_with, End, Step, SemaphoreCall, LockCall, Mutex, lock_course, Permits, permit_course, Action, Aim, Ending, Taker, Return, Found, Next, Place, Acquire, TryPermit, TryLock, EnterLock, Pop, Push, ReleaseLock, ReleasingLock, ReturnPermit, ReturningPermit, Position, Out, Leased, At, action_of, next_of, position_after, place_for, OnPermits, OnLock, fits_lock, fits_permits, in_lock, in_permits, has, inl, inr, Pool, Moves, position_at, lease_at, answer_by, World, standing_of, available, verdict_in, items_after, HoldsWell, Runs, Steps}
use Rattle.lock_program.specs.declared.end.Next.TheVariants as next
use Rattle.world_base.proofs.of_any_world.Runs.{Onward, along}
use Rattle.world_base.proofs.of_table.Ways.{acted}
use Rattle.world_base.proofs.of_table.Mapped.{past_last}
use Rattle.std.proofs.lemmas.Bool.{cases_lt}
use Rattle.world_base.proofs.of_table.Views.{outside_stage}
use Rattle.world_mutex.specs.machine.Mutex.{holders, starved}
use Rattle.world_mutex.specs.machine.Course as lock
use Rattle.world_semaphore.specs.machine.Conduct.{Drops}
use Rattle.world_semaphore.specs.machine.Course as permit
use Rattle.world_semaphore.specs.machine.Seats.{a_fit}
use Rattle.world_pool.proofs.of_machine.Limits.{has_is}
use Rattle.world_pool.proofs.table.Seen.{standing_seen}
use Rattle.world_pool.proofs.step.Stepping.{known_calls}

-- nobody holds the list's lock, and nobody is starved for it
abbrev pub IsFree : Mutex → Type 0
IsFree m = (holders m ≡ 0) × (starved m ≡ 0)

-- the party is on its way to this end, at this place
abbrev pub OnWay : ℕ → End → Place → Pool → Type 0
OnWay p End.Got (EnterLock Aim.Take) s = IsFree s.lock
OnWay p End.Got (Pop Taker.Poll) s = Unit {0}
OnWay p End.Got (ReleaseLock (Ending.Leased Taker.Poll)) s = Unit {0}
OnWay p End.Got (ReleasingLock (Ending.Leased Taker.Poll)) s = Unit {0}
OnWay p End.Granted TryLock s = IsFree s.lock
OnWay p End.Granted (Pop Taker.Try) s = Unit {0}
OnWay p End.Granted (ReleaseLock (Ending.Leased Taker.Try)) s = Unit {0}
OnWay p End.Granted (ReleasingLock (Ending.Leased Taker.Try)) s = Unit {0}
OnWay p End.GivenBack (EnterLock Aim.Give) s = IsFree s.lock
OnWay p End.GivenBack Push s = Unit {0}
OnWay p End.GivenBack (ReleaseLock Ending.Given) s = Unit {0}
OnWay p End.GivenBack (ReleasingLock Ending.Given) s = Unit {0}
OnWay p End.GivenBack (ReturnPermit Return.Given) s = Unit {0}
OnWay p End.GivenBack (ReturningPermit Return.Given) s = (n : ℕ) × (permit_course s.permits.courses p ≡ permit.decided End.GivenBack 0 false (a_fit n))
OnWay p e x s = ⊥

-- after a step it is there still, or its call ends so
abbrev Then : ℕ → End → Next → Pool → Type 0
Then p e (next.Do y) s = OnWay p e y s
Then p e (next.End d z) s = d ≡ e

module _ (i : Inputs) (p : ℕ) (s v : Pool) (f : Found) where
  went : (e : End) (x : Place) (g : Found) → f ≡ g → Then p e (next_of x g) v → Then p e (next_of x f) v
  went e x g is h = let P : Found → Type 0 = λ z. Then p e (next_of x z) v in subst P (sym is) h

-- a step of the way
locked_at_once : (i : Inputs) (p : ℕ) (f : Found) (t u : Mutex) → IsFree t → OnLock i p (Action.Lock LockCall.Lock) f t u → f ≡ Found.Lock (Step.End End.Got)
locked_at_once i p (Found.Lock st) t u free e = ap Found.Lock (e.at_once.ends refl free.0 free.1)
locked_at_once i p _ t u free e = absurd e

tried_at_once : (i : Inputs) (p : ℕ) (f : Found) (t u : Mutex) → IsFree t → OnLock i p (Action.Lock LockCall.Try) f t u → f ≡ Found.Lock (Step.End End.Got)
tried_at_once i p (Found.Lock st) t u free e = ap Found.Lock (e.at_once.ends refl free.0 free.1)
tried_at_once i p _ t u free e = absurd e

release_goes_on : (i : Inputs) (p : ℕ) (f : Found) (t u : Mutex) → OnLock i p (Action.Lock LockCall.Release) f t u → f ≡ Found.Lock Step.More
release_goes_on i p (Found.Lock st) t u e = ap Found.Lock (e.releases refl)
release_goes_on i p _ t u e = absurd e

release_ends : (i : Inputs) (p : ℕ) (f : Found) (t u : Mutex) → lock.is_releasing (lock_course t.courses p) ≡ true → OnLock i p Action.GoLock f t u → f ≡ Found.Lock (Step.End End.GivenBack)
release_ends i p (Found.Lock st) t u link e = ap Found.Lock (e.leads.releases link).0
release_ends i p _ t u link e = absurd e

goes_or_out : (s : Step) (to : permit.Course) (n : ℕ) → Drops s to → to ≡ permit.decided End.GivenBack 0 false (a_fit n) → s ≡ Step.More
goes_or_out Step.More to n d is = refl
goes_or_out (Step.End End.GivenBack) to n d is = (let never : permit.out ≡ permit.decided End.GivenBack 0 false (a_fit n) = sym d ∙ is in absurd (cc never))
goes_or_out (Step.End _) to n d is = absurd d

-- a permit is given back in two steps
pub record Returns (p : ℕ) (f : Found) (u : Permits) : Type 0 where
  pub goes_on : f ≡ Found.Permit Step.More
  pub course : (n : ℕ) × (permit_course u.courses p ≡ permit.decided End.GivenBack 0 false (a_fit n))

permit_returns : (i : Inputs) (p : ℕ) (f : Found) (t u : Permits) → fits_permits has (permit_course t.courses p) ≡ true → OnPermits i p (Action.Permit SemaphoreCall.Drop) f t u → Returns p f u
permit_returns i p (Found.Permit st) t u link e =
    let back = e.at_once.returns refl (has_is (permit_course t.courses p) link) in
    record { goes_on = ap Found.Permit (goes_or_out st (permit_course u.courses p) u.words.available e.leads back.1); course = (u.words.available, back.1) }
permit_returns i p _ t u link e = absurd e

return_ends : (i : Inputs) (p : ℕ) (f : Found) (t u : Permits) (n : ℕ) → permit_course t.courses p ≡ permit.decided End.GivenBack 0 false (a_fit n) → OnPermits i p Action.GoPermit f t u → f ≡ Found.Permit (Step.End End.GivenBack)
return_ends i p (Found.Permit st) t u n is e = ap Found.Permit (e.in_turn.tells End.GivenBack 0 n false is (inl refl)).0
return_ends i p _ t u n is e = absurd e

module _ (i : Inputs) (p : ℕ) (s v : Pool) where
  goes : (e : End) (x : Place) (f : Found) → OnWay p e x s → OnPermits i p (action_of x) f s.permits v.permits → OnLock i p (action_of x) f s.lock v.lock
      → fits_permits (in_permits (At x)) (permit_course s.permits.courses p) ≡ true → fits_lock (in_lock (At x)) (lock_course s.lock.courses p) ≡ true → Then p e (next_of x f) v
  goes End.Got (EnterLock Aim.Take) f w h l pl ll = went i p s v f End.Got (EnterLock Aim.Take) _ (locked_at_once i p f s.lock v.lock w l) tt
  goes End.Got (Pop Taker.Poll) f w h l pl ll = tt
  goes End.Got (ReleaseLock (Ending.Leased Taker.Poll)) f w h l pl ll = went i p s v f End.Got (ReleaseLock (Ending.Leased Taker.Poll)) _ (release_goes_on i p f s.lock v.lock l) tt
  goes End.Got (ReleasingLock (Ending.Leased Taker.Poll)) f w h l pl ll = went i p s v f End.Got (ReleasingLock (Ending.Leased Taker.Poll)) _ (release_ends i p f s.lock v.lock ll l) refl
  goes End.Granted TryLock f w h l pl ll = went i p s v f End.Granted TryLock _ (tried_at_once i p f s.lock v.lock w l) tt
  goes End.Granted (Pop Taker.Try) f w h l pl ll = tt
  goes End.Granted (ReleaseLock (Ending.Leased Taker.Try)) f w h l pl ll = went i p s v f End.Granted (ReleaseLock (Ending.Leased Taker.Try)) _ (release_goes_on i p f s.lock v.lock l) tt
  goes End.Granted (ReleasingLock (Ending.Leased Taker.Try)) f w h l pl ll = went i p s v f End.Granted (ReleasingLock (Ending.Leased Taker.Try)) _ (release_ends i p f s.lock v.lock ll l) refl
  goes End.GivenBack (EnterLock Aim.Give) f w h l pl ll = went i p s v f End.GivenBack (EnterLock Aim.Give) _ (locked_at_once i p f s.lock v.lock w l) tt
  goes End.GivenBack Push f w h l pl ll = tt
  goes End.GivenBack (ReleaseLock Ending.Given) f w h l pl ll = went i p s v f End.GivenBack (ReleaseLock Ending.Given) _ (release_goes_on i p f s.lock v.lock l) tt
  goes End.GivenBack (ReleasingLock Ending.Given) f w h l pl ll = went i p s v f End.GivenBack (ReleasingLock Ending.Given) _ (release_ends i p f s.lock v.lock ll l) tt
  goes End.GivenBack (ReturnPermit Return.Given) f w h l pl ll = (let r = permit_returns i p f s.permits v.permits pl h in went i p s v f End.GivenBack (ReturnPermit Return.Given) _ r.goes_on r.course)
  goes End.GivenBack (ReturningPermit Return.Given) f w h l pl ll = went i p s v f End.GivenBack (ReturningPermit Return.Given) _ (return_ends i p f s.permits v.permits w.0 w.1 h) refl
  goes e x f w h l pl ll = absurd w

-- ---- along a call

abbrev pub Way : ℕ → End → Pool → Type 0
Way p e s = (x : Place) × (position_at s.positions p ≡ At x) × OnWay p e x s

abbrev pub Ended : End → Answer → Type 0
Ended e a = (l : Option ℕ) × (a ≡ answer_of (got_with l) e)

pub never_stepped : (g : Got) (d : End) → answer_of g d ≡ Answer.Stepped → ⊥
never_stepped g End.Got e = cc e
never_stepped g End.Granted e = cc e
never_stepped g End.Pending e = cc e
never_stepped g End.Waiting e = cc e
never_stepped g End.NotFree e = cc e
never_stepped g End.GivenBack e = cc e
never_stepped g (End.Refused r) e = cc e

then_onward : (p : ℕ) (e : End) (n : Next) (v : World) (a : Answer) (l : Option ℕ) → a ≡ answer_by n l → position_at v.behind.machine.positions p ≡ position_after n → Then p e n v.behind.machine → Onward (λ (y : World). Way p e y.behind.machine) (λ b (y : World). Ended e b) a v
then_onward p e (next.Do y) v a l is at h = record { going = λ st. (y, at, h); ended = λ ne. absurd (ne is) }
then_onward p e (next.End d z) v a l is at h = record { going = λ st. absurd (never_stepped (got_with l) d (sym is ∙ st)); ended = λ ne. (l, is ∙ ap (answer_of (got_with l)) h) }

-- a party that stands at a place is inside its call
pub stage_inside : (st : Stage) (x : Place) → goes_with st (At x) ≡ true → (w : Within) × (st ≡ Inside w)
stage_inside (Inside w) x h = (w, refl)
stage_inside (Outside Rest.Idle) x h = absurd (false≢true h)
stage_inside (Outside Rest.Pending) x h = absurd (false≢true h)
stage_inside (Outside Rest.Holding) x h = absurd (false≢true h)
stage_inside (Outside Rest.Finished) x h = absurd (false≢true h)
stage_inside Forgotten x h = absurd (false≢true h)

module _ (x : World) (p : ℕ) (what : What) (a : Answer) (v : World) (s : Steps x (record { party = p; what = what }) a v) where
  abbrev old : Pool
  old = x.behind.machine

  abbrev new : Pool
  new = v.behind.machine

  -- what one action of the party does, where it stands so
  by_act : (e : End) (w : Within) (k : Acted known_calls Rest.Holding Moves w x.behind (record { party = p; what = what }) a v.behind) → OnWay p e k.acts.from old
      → fits_permits (in_permits (At k.acts.from)) (permit_course old.permits.courses p) ≡ true → fits_lock (in_lock (At k.acts.from)) (lock_course old.lock.courses p) ≡ true
      → Onward (λ (y : World). Way p e y.behind.machine) (λ b (y : World). Ended e b) a v
  by_act e w k way pl ll =
      let known : p < length old.positions = omega (arith, k.inside, s.did.stood.fits.as_many) in
      let at : position_at new.positions p ≡ position_after (next_of k.acts.from k.acts.found) = ap (λ ps. position_at ps p) k.acts.acts.positions ∙ get_or-set_same old.positions p (position_after (next_of k.acts.from k.acts.found)) Out known in
      then_onward p e (next_of k.acts.from k.acts.found) v a (lease_at new.leases p) k.acts.answer at
      (goes (inputs_of what) p old new e k.acts.from k.acts.found way k.acts.acts.permits k.acts.acts.lock pl ll)

pub inside_positions : (s : Pool) (p : ℕ) (x : Place) → position_at s.positions p ≡ At x → p < length s.positions
inside_positions s p x e = elim (cases_lt p (length s.positions)) as (λ _. p < length s.positions) [ inl h ↦ h | inr h ↦ (let out : Out ≡ At x = sym (past_last s.positions p Out (omega arith)) ∙ e in absurd (cc out)) ]

pub goes_on : (i : Inputs) (p : ℕ) (e : End) (x : World) (a : Answer) (v : World) → Way p e x.behind.machine → Steps x (going_on p i) a v → Onward (λ (y : World). Way p e y.behind.machine) (λ b (y : World). Ended e b) a v
goes_on i p e x a v way s =
    let t = x.behind in
    let known : p < length t.stages = omega (arith, s.did.stood.fits.as_many, inside_positions t.machine p way.0 way.1) in
    let P : Position → Type 0 = λ z. goes_with (stage_at t.stages p) z ≡ true in
    let stage = stage_inside (stage_at t.stages p) way.0 (subst P way.1 (s.did.stood.fits.stands p known)) in
    let call : call_at knows (stage_at t.stages p) (Go i) ≡ Some stage.0 = ap (λ z. call_at knows z (Go i)) stage.1 in
    let first : polls_again (stage_at t.stages p) (Go i) ≡ false = ap (λ z. polls_again z (Go i)) stage.1 in
    let k = acted known_calls Rest.Holding Moves t v.behind (going_on p i) a stage.0 call first s.did.step in
    let from : k.acts.from ≡ way.0 = some_eq (sym k.acts.starts ∙ ap (place_for (Go i)) way.1) in
    let W : Place → Type 0 = λ y. OnWay p e y t.machine in
    let here : position_at t.machine.positions p ≡ At k.acts.from = way.1 ∙ ap At (sym from) in
    let Q : Position → Type 0 = λ z. fits_permits (in_permits z) (permit_course t.machine.permits.courses p) ≡ true in
    let R : Position → Type 0 = λ z. fits_lock (in_lock z) (lock_course t.machine.lock.courses p) ≡ true in
    by_act x p (Go i) a v s e stage.0 k (subst W (sym from) way.2) (subst Q here (s.did.stood.laws.permits p)) (subst R here (s.did.stood.laws.locks p))

-- ---- its first step

-- a call that begins at a place, outside every call
record Opens (c : Call) (r : Rest) (from : Place) : Type 0 where
  call : (i : Inputs) → (w : Within) × (call_at knows (Outside r) (Begin c i) ≡ Some w)
  first : (i : Inputs) → polls_again (Outside r) (Begin c i) ≡ false
  starts : (i : Inputs) (x : Position) → goes_with (Outside r) x ≡ true → place_for (Begin c i) x ≡ Some from

starts_take : (i : Inputs) (x : Position) → goes_with (Outside Rest.Idle) x ≡ true → place_for (Begin Call.Take i) x ≡ Some Acquire
starts_take i Out h = refl
starts_take i _ h = absurd (false≢true h)

starts_try : (i : Inputs) (x : Position) → goes_with (Outside Rest.Idle) x ≡ true → place_for (Begin Call.TryTake i) x ≡ Some TryPermit
starts_try i Out h = refl
starts_try i _ h = absurd (false≢true h)

starts_give : (i : Inputs) (x : Position) → goes_with (Outside Rest.Holding) x ≡ true → place_for (Begin Call.Give i) x ≡ Some (EnterLock Aim.Give)
starts_give i Leased h = refl
starts_give i _ h = absurd (false≢true h)

take_opens : Opens Call.Take Rest.Idle Acquire
take_opens = record { call = λ i. (_, refl); first = λ i. refl; starts = starts_take }

try_opens : Opens Call.TryTake Rest.Idle TryPermit
try_opens = record { call = λ i. (_, refl); first = λ i. refl; starts = starts_try }

give_opens : Opens Call.Give Rest.Holding (EnterLock Aim.Give)
give_opens = record { call = λ i. (_, refl); first = λ i. refl; starts = starts_give }

-- a permit is taken at once, where one is available
acquired : (i : Inputs) (p : ℕ) (f : Found) (t u : Permits) → 1 ≤ t.words.available → OnPermits i p (action_of Acquire) f t u → f ≡ Found.Permit (Step.End End.Got)
acquired i p (Found.Permit st) t u one e = ap Found.Permit (e.at_once.ends refl one)
acquired i p _ t u one e = absurd e

tried : (i : Inputs) (p : ℕ) (f : Found) (t u : Permits) → 1 ≤ t.words.available → OnPermits i p (action_of TryPermit) f t u → f ≡ Found.Permit (Step.End End.Granted)
tried i p (Found.Permit st) t u one e = ap Found.Permit (e.at_once.ends refl one)
tried i p _ t u one e = absurd e

module _ (w : World) (p : ℕ) (i : Inputs) (free : IsFree w.behind.machine.lock) (c : Call) (r : Rest) (from : Place) (opens : Opens c r from) (stage : stage_at w.behind.stages p ≡ Outside r) (e : End)
    (leads : (f : Found) (v : Pool) → OnPermits i p (action_of from) f w.behind.machine.permits v.permits → OnLock i p (action_of from) f w.behind.machine.lock v.lock → Then p e (next_of from f) v) where
  begins : (a : Answer) (v : World) → Steps w (beginning p c i) a v → Onward (λ (y : World). Way p e y.behind.machine) (λ b (y : World). Ended e b) a v
  begins a v s =
      let t = w.behind in
      let call : call_at knows (stage_at t.stages p) (Begin c i) ≡ Some (opens.call i).0 = ap (λ z. call_at knows z (Begin c i)) stage ∙ (opens.call i).1 in
      let first : polls_again (stage_at t.stages p) (Begin c i) ≡ false = ap (λ z. polls_again z (Begin c i)) stage ∙ opens.first i in
      let k = acted known_calls Rest.Holding Moves t v.behind (beginning p c i) a (opens.call i).0 call first s.did.step in
      let P : Stage → Type 0 = λ z. goes_with z (position_at t.machine.positions p) ≡ true in
      let same : k.acts.from ≡ from = some_eq (sym k.acts.starts ∙ opens.starts i (position_at t.machine.positions p) (subst P stage (s.did.stood.fits.stands p k.inside))) in
      let known : p < length t.machine.positions = omega (arith, k.inside, s.did.stood.fits.as_many) in
      let to = position_after (next_of k.acts.from k.acts.found) in
      let at : position_at v.behind.machine.positions p ≡ to = ap (λ ps. position_at ps p) k.acts.acts.positions ∙ get_or-set_same t.machine.positions p to Out known in
      let A : Place → Type 0 = λ x. OnPermits i p (action_of x) k.acts.found t.machine.permits v.behind.machine.permits in
      let B : Place → Type 0 = λ x. OnLock i p (action_of x) k.acts.found t.machine.lock v.behind.machine.lock in
      let T : Place → Type 0 = λ x. Then p e (next_of x k.acts.found) v.behind.machine in
      then_onward p e (next_of k.acts.from k.acts.found) v a (lease_at v.behind.machine.leases p) k.acts.answer at
      (subst T (sym same) (leads k.acts.found v.behind.machine (subst A same k.acts.acts.permits) (subst B same k.acts.acts.lock)))

  comes_to : (known : ℕ → Option ℕ) (n : ℕ) (a : Answer) (v : World) → Runs known w (moves_of p c i n) (answers_of n a) v → a ≢ Answer.Stepped → Ended e a
  comes_to known n a v runs ended = along Steps items_after HoldsWell p i (λ (y : World). Way p e y.behind.machine) (λ b (y : World). Ended e b) (goes_on i p e) known n w (beginning p c i) a v begins ended runs

-- ---- as callers see it

module _ (known : ℕ → Option ℕ) (w : World) (p : ℕ) (i : Inputs) (n : ℕ) (a : Answer) (v : World) (seen : w ≡ view_of w.behind) (ended : a ≢ Answer.Stepped) (free : IsFree w.lock) where
  free_there : IsFree w.behind.machine.lock
  free_there = let P : World → Type 0 = λ (x : World). IsFree x.lock in subst P seen free

  stage_there : (r : Rest) → standing_of w p ≡ outside r → stage_at w.behind.stages p ≡ Outside r
  stage_there r e = outside_stage (verdict_in w.behind.machine p) (stage_at w.behind.stages p) r (sym (standing_seen w.behind p) ∙ (ap (λ x. standing_of x p) (sym seen) ∙ e))

  enough_there : 1 ≤ available w → 1 ≤ w.behind.machine.permits.words.available
  enough_there h = let P : World → Type 0 = λ x. 1 ≤ available x in subst P seen h

  pub takes : standing_of w p ≡ outside Rest.Idle → 1 ≤ available w → Runs known w (moves_of p Call.Take i n) (answers_of n a) v → Ended End.Got a
  takes idle one runs = comes_to w p i free_there Call.Take Rest.Idle Acquire take_opens (stage_there Rest.Idle idle) End.Got
      (λ f u h l. went i p w.behind.machine u f End.Got Acquire _ (acquired i p f w.behind.machine.permits u.permits (enough_there one) h) (subst IsFree (sym l) free_there)) known n a v runs ended

  pub tries : standing_of w p ≡ outside Rest.Idle → 1 ≤ available w → Runs known w (moves_of p Call.TryTake i n) (answers_of n a) v → Ended End.Granted a
  tries idle one runs = comes_to w p i free_there Call.TryTake Rest.Idle TryPermit try_opens (stage_there Rest.Idle idle) End.Granted
      (λ f u h l. went i p w.behind.machine u f End.Granted TryPermit _ (tried i p f w.behind.machine.permits u.permits (enough_there one) h) (subst IsFree (sym l) free_there)) known n a v runs ended

  pub gives : standing_of w p ≡ outside Rest.Holding → Runs known w (moves_of p Call.Give i n) (answers_of n a) v → Ended End.GivenBack a
  gives held runs = comes_to w p i free_there Call.Give Rest.Holding (EnterLock Aim.Give) give_opens (stage_there Rest.Holding held) End.GivenBack
      (λ f u h l. went i p w.behind.machine u f End.GivenBack (EnterLock Aim.Give) _ (locked_at_once i p f w.behind.machine.lock u.lock free_there l) tt) known n a v runs ended
