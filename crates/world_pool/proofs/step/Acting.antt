-- An action of a party is a legal step, as callers see it.
use Rattle.world_pool.proofs.Prelude.{◌≡◌, ◌≢◌, ℕ, ◌<◌, true, false, length, Option, Some, None, is_some, refl, ap, sym, ◌∙◌, subst, get_or-set_same, get_or-set_other, length-set, length-standings, set, some_eq, none_some, false≢true, Answer, Got, got_with, Inputs, Move, Rest, Stage, Outside, Within, Next, Leased, Taker, Return, after_permit, after_lock, after_release, released, after_return, returned, after_cancel, cancelled, Standing, inputs_of, call_in, is_possible, is_stepped, call_seen, again_seen, is_poll_after_ready, stage_at, stands_as, stage_after, call_at, polls_again, Table, End, Step, Mutex, lock_course, permit_course, Action, Found, Place, Acquire, WaitPermit, TakePermit, TryPermit, TryLock, EnterLock, WaitLock, TakeLock, Pop, Push, ReleaseLock, ReleasingLock, ReturnPermit, ReturningPermit, CancelPermit, CancellingPermit, CancelLock, CancellingLock, Lose, Abandon, Position, Out, At, Aim, Ending, action_of, next_of, position_after, place_for, OnPermits, OnLock, OnItems, has, Seat, fits_permits, fits_lock, in_permits, in_lock, is_leased, knows, Pool, IsPool, Acts, position_at, lease_at, answer_by, goes_with, World, standing_of, lease_of, gives, view_of, verdict_in, Legal, StandsAfter, Effect, Does, Loses, call_of, ends as may_end_so, IsPoolTable}
use Rattle.lock_program.specs.declared.end.Next.TheVariants as next
use Rattle.world_base.specs.Standings.{rest_after}
use Rattle.world_base.proofs.of_table.Mapped.{set_same}
use Rattle.world_base.proofs.of_table.Views.{outside_stage}
use Rattle.world_pool.specs.Legal.{Carried, is_carrying}
use Rattle.world_pool.specs.machine.Machine.{has_lease}
use Rattle.world_semaphore.specs.machine.Conduct as semaphore
use Rattle.world_pool.specs.Legal.{nothing, in_semaphore, in_lock as in_lock_effect, pops, pushes, loses}
use Rattle.world_pool.proofs.of_machine.Starts.{Fits}
use Rattle.world_pool.proofs.of_machine.Links as links
use Rattle.world_pool.proofs.of_machine.Limits.{limit_stays, most_stays, size_one}
use Rattle.world_pool.proofs.table.Seen as seen
use Rattle.world_pool.proofs.step.Owns.{owns, one_guard, holds_one, no_lease, some_lease}
use Rattle.world_pool.proofs.step.Ends.{ends_by, later_gives, stands_then, possible_by}

-- what a move does that the machine carries out
pub record Acting (t u : Table Pool) (m : Move) (a : Answer) (w : Within) : Type 0 where
  pub inside : m.party < length t.stages
  pub known : m.party < length t.machine.positions
  pub old_laws : IsPool t.machine
  pub old_fits : IsPoolTable t
  pub new_laws : IsPool u.machine
  pub new_fits : IsPoolTable u
  pub call : call_at knows (stage_at t.stages m.party) m.what ≡ Some w
  pub first : polls_again (stage_at t.stages m.party) m.what ≡ false
  pub from : Place
  pub found : Found
  pub starts : place_for m.what (position_at t.machine.positions m.party) ≡ Some from
  pub fits : Fits w (position_at t.machine.positions m.party) from
  pub acts : Acts (inputs_of m.what) m.party from found t.machine u.machine
  pub answer : a ≡ answer_by (next_of from found) (lease_at u.machine.leases m.party)
  pub stages : u.stages ≡ set t.stages m.party (stage_after Rest.Holding w a)

-- the limit of the starved stays
lock_limit : (i : Inputs) (p : ℕ) (x : Place) (f : Found) (t u : Mutex) → OnLock i p (action_of x) f t u → u.limit ≡ t.limit
lock_limit i p TryLock (Found.Lock s) t u e = e.legal.limit
lock_limit i p TryLock _ t u e = absurd e
lock_limit i p (EnterLock a) (Found.Lock s) t u e = e.legal.limit
lock_limit i p (EnterLock a) _ t u e = absurd e
lock_limit i p (WaitLock a) (Found.Lock s) t u e = e.legal.limit
lock_limit i p (WaitLock a) _ t u e = absurd e
lock_limit i p (TakeLock a) (Found.Lock s) t u e = e.legal.limit
lock_limit i p (TakeLock a) _ t u e = absurd e
lock_limit i p (ReleaseLock r) (Found.Lock s) t u e = e.legal.limit
lock_limit i p (ReleaseLock r) _ t u e = absurd e
lock_limit i p (ReleasingLock r) (Found.Lock s) t u e = e.legal.limit
lock_limit i p (ReleasingLock r) _ t u e = absurd e
lock_limit i p (CancelLock a) (Found.Lock s) t u e = e.legal.limit
lock_limit i p (CancelLock a) _ t u e = absurd e
lock_limit i p (CancellingLock a) (Found.Lock s) t u e = e.legal.limit
lock_limit i p (CancellingLock a) _ t u e = absurd e
lock_limit i p _ f t u e = ap (λ (z : Mutex). z.limit) e

-- ---- which steps end with a lease

ready_with : (n : Next) (l : Option ℕ) (g : Got) → answer_by n l ≡ Answer.Ready g → got_with l ≡ g
ready_with (next.End End.Got x) l g e = cc e
ready_with (next.Do x) l g e = absurd (cc e)
ready_with (next.End End.Granted x) l g e = absurd (cc e)
ready_with (next.End End.Pending x) l g e = absurd (cc e)
ready_with (next.End End.Waiting x) l g e = absurd (cc e)
ready_with (next.End End.NotFree x) l g e = absurd (cc e)
ready_with (next.End End.GivenBack x) l g e = absurd (cc e)
ready_with (next.End (End.Refused r) x) l g e = absurd (cc e)

granted_with : (n : Next) (l : Option ℕ) (g : Got) → answer_by n l ≡ Answer.Granted g → got_with l ≡ g
granted_with (next.End End.Granted x) l g e = cc e
granted_with (next.Do x) l g e = absurd (cc e)
granted_with (next.End End.Got x) l g e = absurd (cc e)
granted_with (next.End End.Pending x) l g e = absurd (cc e)
granted_with (next.End End.Waiting x) l g e = absurd (cc e)
granted_with (next.End End.NotFree x) l g e = absurd (cc e)
granted_with (next.End End.GivenBack x) l g e = absurd (cc e)
granted_with (next.End (End.Refused r) x) l g e = absurd (cc e)

-- what goes with a lease, and only that
record Leasing (n : Next) : Type 0 where
  leased : (l : Option ℕ) → is_carrying (answer_by n l) ≡ true → position_after n ≡ Leased
  only : (l : Option ℕ) → has_lease (position_after n) ≡ true → is_carrying (answer_by n l) ≡ true

goes_on : (x : Place) → Leasing (next.Do x)
goes_on x = record { leased = λ l h. absurd (false≢true h); only = λ l h. absurd (false≢true h) }

after_permit_leases : (f : Found) → Leasing (after_permit f)
after_permit_leases (Found.Permit Step.More) = goes_on _
after_permit_leases (Found.Permit (Step.End End.Got)) = goes_on _
after_permit_leases (Found.Permit (Step.End (End.Refused r))) = record { leased = λ l h. absurd (false≢true h); only = λ l h. absurd (false≢true h) }
after_permit_leases _ = record { leased = λ l h. absurd (false≢true h); only = λ l h. absurd (false≢true h) }

try_permit_leases : (f : Found) → Leasing (next_of TryPermit f)
try_permit_leases (Found.Permit (Step.End End.Granted)) = goes_on _
try_permit_leases _ = record { leased = λ l h. absurd (false≢true h); only = λ l h. absurd (false≢true h) }

try_lock_leases : (f : Found) → Leasing (next_of TryLock f)
try_lock_leases (Found.Lock (Step.End End.Got)) = goes_on _
try_lock_leases _ = goes_on _

after_lock_leases : (b : Aim) (f : Found) → Leasing (after_lock b f)
after_lock_leases b (Found.Lock Step.More) = goes_on _
after_lock_leases Aim.Take (Found.Lock (Step.End End.Got)) = goes_on _
after_lock_leases Aim.Give (Found.Lock (Step.End End.Got)) = goes_on _
after_lock_leases Aim.Take (Found.Lock (Step.End (End.Refused r))) = goes_on _
after_lock_leases Aim.Give (Found.Lock (Step.End (End.Refused r))) = record { leased = λ l h. absurd (false≢true h); only = λ l h. absurd (false≢true h) }
after_lock_leases b _ = record { leased = λ l h. absurd (false≢true h); only = λ l h. absurd (false≢true h) }

released_leases : (e : Ending) → Leasing (released e)
released_leases (Ending.Leased Taker.Poll) = record { leased = λ l h. refl; only = λ l h. refl }
released_leases (Ending.Leased Taker.Try) = record { leased = λ l h. refl; only = λ l h. refl }
released_leases Ending.Given = goes_on _

after_release_leases : (e : Ending) (f : Found) → Leasing (after_release e f)
after_release_leases e (Found.Lock Step.More) = goes_on _
after_release_leases e _ = released_leases e

returned_leases : (r : Return) → Leasing (returned r)
returned_leases Return.Given = record { leased = λ l h. absurd (false≢true h); only = λ l h. absurd (false≢true h) }
returned_leases Return.Dropped = record { leased = λ l h. absurd (false≢true h); only = λ l h. absurd (false≢true h) }
returned_leases Return.InVain = record { leased = λ l h. absurd (false≢true h); only = λ l h. absurd (false≢true h) }
returned_leases Return.NoMemory = record { leased = λ l h. absurd (false≢true h); only = λ l h. absurd (false≢true h) }
returned_leases Return.Starved = record { leased = λ l h. absurd (false≢true h); only = λ l h. absurd (false≢true h) }

after_return_leases : (r : Return) (f : Found) → Leasing (after_return r f)
after_return_leases r (Found.Permit Step.More) = goes_on _
after_return_leases r _ = returned_leases r

cancel_permit_leases : (f : Found) → Leasing (next_of CancelPermit f)
cancel_permit_leases (Found.Permit Step.More) = goes_on _
cancel_permit_leases _ = record { leased = λ l h. absurd (false≢true h); only = λ l h. absurd (false≢true h) }

cancelled_leases : (b : Aim) → Leasing (cancelled b)
cancelled_leases Aim.Take = goes_on _
cancelled_leases Aim.Give = goes_on _

after_cancel_leases : (b : Aim) (f : Found) → Leasing (after_cancel b f)
after_cancel_leases b (Found.Lock Step.More) = goes_on _
after_cancel_leases b _ = cancelled_leases b

leases_by : (x : Place) (f : Found) → Leasing (next_of x f)
leases_by Acquire f = after_permit_leases f
leases_by WaitPermit f = after_permit_leases f
leases_by TakePermit f = after_permit_leases f
leases_by TryPermit f = try_permit_leases f
leases_by TryLock f = try_lock_leases f
leases_by (EnterLock b) f = after_lock_leases b f
leases_by (WaitLock b) f = after_lock_leases b f
leases_by (TakeLock b) f = after_lock_leases b f
leases_by (Pop b) f = goes_on _
leases_by Push f = goes_on _
leases_by (ReleaseLock e) f = after_release_leases e f
leases_by (ReleasingLock e) f = after_release_leases e f
leases_by (ReturnPermit r) f = after_return_leases r f
leases_by (ReturningPermit r) f = after_return_leases r f
leases_by CancelPermit f = cancel_permit_leases f
leases_by CancellingPermit f = cancel_permit_leases f
leases_by (CancelLock b) f = after_cancel_leases b f
leases_by (CancellingLock b) f = after_cancel_leases b f
leases_by Lose f = record { leased = λ l h. absurd (false≢true h); only = λ l h. absurd (false≢true h) }
leases_by Abandon f = record { leased = λ l h. absurd (false≢true h); only = λ l h. absurd (false≢true h) }

leasing : (x : Place) (f : Found) (l : Option ℕ) → is_carrying (answer_by (next_of x f) l) ≡ true → position_after (next_of x f) ≡ Leased
leasing x f l h = (leases_by x f).leased l h

only_leasing : (x : Place) (f : Found) (l : Option ℕ) → has_lease (position_after (next_of x f)) ≡ true → is_carrying (answer_by (next_of x f) l) ≡ true
only_leasing x f l h = (leases_by x f).only l h

-- a stage that goes with a lease
rests_held : (r : Rest) → goes_with (Outside r) Leased ≡ true → Outside r ≡ Outside Rest.Holding
rests_held Rest.Holding h = refl
rests_held Rest.Idle h = absurd (false≢true h)
rests_held Rest.Pending h = absurd (false≢true h)
rests_held Rest.Finished h = absurd (false≢true h)

held_by : (w : Within) (b : Answer) (x : Position) → is_carrying b ≡ true → x ≡ Leased → goes_with (stage_after Rest.Holding w b) x ≡ true → stage_after Rest.Holding w b ≡ Outside Rest.Holding
held_by w (Answer.Ready g) x c e h = refl
held_by w (Answer.Granted g) x c e h = (let P : Position → Type 0 = λ y. goes_with (stage_after Rest.Holding w (Answer.Granted g)) y ≡ true in rests_held (rest_after Rest.Holding w (Answer.Granted g)) (subst P e h))
held_by w _ x c e h = absurd (false≢true c)

carried_item : (v : World) (p : ℕ) (g : Got) (l : Option ℕ) → lease_of v p ≡ l → is_some l ≡ true → got_with l ≡ g → standing_of v p ≡ Standing.outside Rest.Holding → Carried g v p
carried_item v p g None e h same st = absurd (false≢true h)
carried_item v p g (Some i) e h same st = let P : Got → Type 0 = λ z. Carried z v p in subst P same (st, e)

module _ (t u : Table Pool) (m : Move) (a : Answer) (w : Within) (k : Acting t u m a w) where
  abbrev p : ℕ
  p = m.party

  abbrev i : Inputs
  i = inputs_of m.what

  abbrev s : Pool
  s = t.machine

  abbrev v : Pool
  v = u.machine

  pub permit_link : fits_permits (in_permits (At k.from)) (permit_course s.permits.courses p) ≡ true
  permit_link = ap (λ (z : Seat). fits_permits z.permits (permit_course s.permits.courses p)) k.fits.seat ∙ k.old_laws.permits p

  pub lock_link : fits_lock (in_lock (At k.from)) (lock_course s.lock.courses p) ≡ true
  lock_link = ap (λ (z : Seat). fits_lock z.lock (lock_course s.lock.courses p)) k.fits.seat ∙ k.old_laws.locks p

  lease_link : is_some (lease_at s.leases p) ≡ is_leased (At k.from)
  lease_link = k.old_laws.leases p ∙ ap (λ (z : Seat). z.leased) (sym k.fits.seat)

  inside_leases : p < length s.leases
  inside_leases = rw k.old_laws.as_many k.known

  -- the leases, where the mover's stays
  leases_stay : lease_at v.leases p ≡ lease_at s.leases p → v.leases ≡ s.leases
  leases_stay e = k.acts.leases ∙ set_same s.leases p None (lease_at v.leases p) (sym e) inside_leases

  abbrev DoesOne : Type 0
  DoesOne = (d : Effect) × Does d (view_of t) m (view_of u)

  in_the_semaphore : (size : ℕ) (d : Option End) (st : Step) → semaphore.IsLegal i.memory p size d st s.permits v.permits → v.lock ≡ s.lock → (v.items ≡ s.items) × (lease_at v.leases p ≡ lease_at s.leases p) → DoesOne
  in_the_semaphore size d st legal same items = (in_semaphore, ((size, d, st, legal), same, (items.0, leases_stay items.1)))

  pub loss : (f : Found) → OnPermits i p Action.Lose f s.permits v.permits → OnItems Action.Lose s.items (lease_at s.leases p) v.items (lease_at v.leases p) → fits_permits has (permit_course s.permits.courses p) ≡ true → is_some (lease_at s.leases p) ≡ true → Loses (view_of t) m (view_of u)
  loss f h l pl il =
      let one = size_one (permit_course s.permits.courses p) pl in
      record {
        permit = one_guard (permit_course s.permits.courses p) pl;
        item = some_lease (lease_at s.leases p) il;
        items = l.0;
        leases = k.acts.leases ∙ ap (set s.leases p) l.1;
        forgotten = limit_stays i p s.permits v.permits Lose f h pl;
        conduct = (let P : ℕ → Type 0 = λ n. semaphore.IsLegal i.memory p n (Some End.GivenBack) (Step.End End.GivenBack) s.permits v.permits in subst P one h.legal);
      }

  -- by the place
  does : (x : Place) (f : Found) → OnPermits i p (action_of x) f s.permits v.permits → OnLock i p (action_of x) f s.lock v.lock → OnItems (action_of x) s.items (lease_at s.leases p) v.items (lease_at v.leases p)
      → fits_permits (in_permits (At x)) (permit_course s.permits.courses p) ≡ true → fits_lock (in_lock (At x)) (lock_course s.lock.courses p) ≡ true → is_some (lease_at s.leases p) ≡ is_leased (At x) → DoesOne
  does Acquire (Found.Permit st) h e l pl ll il = in_the_semaphore _ _ st h.legal e l
  does Acquire _ h e l pl ll il = absurd h
  does WaitPermit (Found.Permit st) h e l pl ll il = in_the_semaphore _ _ st h.legal e l
  does WaitPermit _ h e l pl ll il = absurd h
  does TakePermit (Found.Permit st) h e l pl ll il = in_the_semaphore _ _ st h.legal e l
  does TakePermit _ h e l pl ll il = absurd h
  does TryPermit (Found.Permit st) h e l pl ll il = in_the_semaphore _ _ st h.legal e l
  does TryPermit _ h e l pl ll il = absurd h
  does (ReturnPermit r) (Found.Permit st) h e l pl ll il = in_the_semaphore _ _ st h.legal e l
  does (ReturnPermit r) _ h e l pl ll il = absurd h
  does (ReturningPermit r) (Found.Permit st) h e l pl ll il = in_the_semaphore _ _ st h.legal e l
  does (ReturningPermit r) _ h e l pl ll il = absurd h
  does CancelPermit (Found.Permit st) h e l pl ll il = in_the_semaphore _ _ st h.legal e l
  does CancelPermit _ h e l pl ll il = absurd h
  does CancellingPermit (Found.Permit st) h e l pl ll il = in_the_semaphore _ _ st h.legal e l
  does CancellingPermit _ h e l pl ll il = absurd h
  does TryLock (Found.Lock st) h e l pl ll il = (in_lock_effect, (h, (_, st, e.legal), (l.0, leases_stay l.1)))
  does TryLock _ h e l pl ll il = absurd e
  does (EnterLock b) (Found.Lock st) h e l pl ll il = (in_lock_effect, (h, (_, st, e.legal), (l.0, leases_stay l.1)))
  does (EnterLock b) _ h e l pl ll il = absurd e
  does (WaitLock b) (Found.Lock st) h e l pl ll il = (in_lock_effect, (h, (_, st, e.legal), (l.0, leases_stay l.1)))
  does (WaitLock b) _ h e l pl ll il = absurd e
  does (TakeLock b) (Found.Lock st) h e l pl ll il = (in_lock_effect, (h, (_, st, e.legal), (l.0, leases_stay l.1)))
  does (TakeLock b) _ h e l pl ll il = absurd e
  does (ReleaseLock b) (Found.Lock st) h e l pl ll il = (in_lock_effect, (h, (_, st, e.legal), (l.0, leases_stay l.1)))
  does (ReleaseLock b) _ h e l pl ll il = absurd e
  does (ReleasingLock b) (Found.Lock st) h e l pl ll il = (in_lock_effect, (h, (_, st, e.legal), (l.0, leases_stay l.1)))
  does (ReleasingLock b) _ h e l pl ll il = absurd e
  does (CancelLock b) (Found.Lock st) h e l pl ll il = (in_lock_effect, (h, (_, st, e.legal), (l.0, leases_stay l.1)))
  does (CancelLock b) _ h e l pl ll il = absurd e
  does (CancellingLock b) (Found.Lock st) h e l pl ll il = (in_lock_effect, (h, (_, st, e.legal), (l.0, leases_stay l.1)))
  does (CancellingLock b) _ h e l pl ll il = absurd e
  does (Pop b) f h e l pl ll il = (
    pops,
    (
      h,
      e,
      record {
        may = record { permit = one_guard (permit_course s.permits.courses p) pl; lock = holds_one (lock_course s.lock.courses p) ll; bare = no_lease (lease_at s.leases p) il };
        item = l.0;
        last = l.1;
        leases = k.acts.leases ∙ ap (set s.leases p) l.2;
      },
    ),
  )
  does Push f h e l pl ll il = (
    pushes,
    (
      h,
      e,
      record {
        may = record { permit = one_guard (permit_course s.permits.courses p) pl; lock = holds_one (lock_course s.lock.courses p) ll };
        item = l.0;
        leased = l.1;
        last = l.2;
        leases = k.acts.leases ∙ ap (set s.leases p) l.3;
      },
    ),
  )
  does Lose f h e l pl ll il = (loses, (e, loss f h l pl il))
  does Abandon f h e l pl ll il = (nothing, (h, e, (l.0, leases_stay l.1)))

  pub did_one : DoesOne
  did_one = does k.from k.found k.acts.permits k.acts.lock k.acts.items permit_link lock_link lease_link

  -- ---- the other parties

  abbrev to : Position
  to = position_after (next_of k.from k.found)

  other_position : (q : ℕ) → q ≢ p → position_at v.positions q ≡ position_at s.positions q
  other_position q apart = ap (λ xs. position_at xs q) k.acts.positions ∙ get_or-set_other s.positions p q to Out apart

  pub other_lease : (q : ℕ) → q ≢ p → lease_at v.leases q ≡ lease_at s.leases q
  other_lease q apart = ap (λ ls. lease_at ls q) k.acts.leases ∙ get_or-set_other s.leases p q (lease_at v.leases p) None apart

  other_stage : (q : ℕ) → q ≢ p → stage_at u.stages q ≡ stage_at t.stages q
  other_stage q apart = ap (λ ss. stage_at ss q) k.stages ∙ get_or-set_other t.stages p q _ _ apart

  pub other_standing : (q : ℕ) → q ≢ p → standing_of (view_of u) q ≡ standing_of (view_of t) q
  other_standing q apart =
      let c = links.permit_others i p s.permits v.permits (action_of k.from) k.found k.acts.permits q apart in
      let d = links.lock_others i p s.lock v.lock (action_of k.from) k.found k.acts.lock q apart in
      let x = other_position q apart in
      let l = other_lease q apart in
      let same : verdict_in v q ≡ verdict_in s q = cc in
      let stage = other_stage q apart in
      let alike : stands_as (verdict_in v q) (stage_at u.stages q) ≡ stands_as (verdict_in s q) (stage_at t.stages q) = cc in
      seen.standing_seen u q ∙ (alike ∙ sym (seen.standing_seen t q))

  -- ---- how it ends

  own_stage : stage_at u.stages p ≡ stage_after Rest.Holding w a
  own_stage = ap (λ ss. stage_at ss p) k.stages ∙ get_or-set_same t.stages p _ _ k.inside

  possible : is_possible a ≡ true
  possible = ap is_possible k.answer ∙ possible_by (next_of k.from k.found) (lease_at v.leases p)

  pub stands : StandsAfter (gives (view_of t) p) w a (standing_of (view_of u) p)
  stands =
      let led = links.led_permit i p s.permits v.permits k.from k.found k.acts.permits permit_link in
      let led_lock = links.led_lock i p s.lock v.lock k.from k.found k.acts.lock lock_link in
      let ends = ends_by (lease_at v.leases p) (gives (view_of t) p) w.kind w.was k.from k.found (permit_course v.permits.courses p) (lock_course v.lock.courses p)
      (λ e. seen.giving_seen t p ∙ later_gives (stage_at t.stages p) m.what w (position_at s.positions p) k.from k.call k.starts e) led led_lock k.fits.runs in
      let P : Answer → Type 0 = λ b. is_stepped b ≡ false → may_end_so (gives (view_of t) p) w.kind b ≡ true in
      let Q : Standing → Type 0 = StandsAfter (gives (view_of t) p) w a in
      subst Q (sym (seen.standing_seen u p ∙ ap (stands_as (verdict_in v p)) own_stage)) (stands_then (gives (view_of t) p) w a (verdict_in v p) possible (subst P (sym k.answer) ends))

  call_is : call_of (view_of t) m ≡ Some w
  call_is = ap (λ z. call_in knows z m.what) (seen.standing_seen t p) ∙ (call_seen knows (verdict_in s p) (stage_at t.stages p) m.what ∙ k.call)

  not_again : is_poll_after_ready (standing_of (view_of t) p) m.what ≡ false
  not_again = ap (λ z. is_poll_after_ready z m.what) (seen.standing_seen t p) ∙ (again_seen (verdict_in s p) (stage_at t.stages p) m.what ∙ k.first)

  impossible_not : a ≡ Answer.NotPossible → ⊥
  impossible_not e = let no = possible in cc (e, no)

  here_now : position_at v.positions p ≡ to
  here_now = ap (λ xs. position_at xs p) k.acts.positions ∙ get_or-set_same s.positions p to Out k.known

  now_inside : p < length u.stages
  now_inside = rw (ap length k.stages ∙ length-set t.stages p (stage_after Rest.Holding w a)) k.inside

  now_stands : goes_with (stage_after Rest.Holding w a) to ≡ true
  now_stands =
      let P : Stage → Type 0 = λ z. goes_with z (position_at v.positions p) ≡ true in
      let Q : Position → Type 0 = λ x. goes_with (stage_after Rest.Holding w a) x ≡ true in
      subst Q here_now (subst P own_stage (k.new_fits.stands p now_inside))

  pub now_standing : standing_of (view_of u) p ≡ stands_as (verdict_in v p) (stage_after Rest.Holding w a)
  now_standing = seen.standing_seen u p ∙ ap (stands_as (verdict_in v p)) own_stage

  -- who is answered with a lease has it
  carried_so : (g : Got) (b : Answer) → a ≡ b → is_carrying b ≡ true → (got_with (lease_at v.leases p) ≡ g) → (standing_of (view_of u) p ≡ stands_as (verdict_in v p) (stage_after Rest.Holding w b)) → goes_with (stage_after Rest.Holding w b) to ≡ true → Carried g (view_of u) p
  carried_so g b e c same st go =
      let leased = leasing k.from k.found (lease_at v.leases p) (ap is_carrying (sym k.answer ∙ e) ∙ c) in
      let held : stage_after Rest.Holding w b ≡ Outside Rest.Holding = held_by w b to c leased go in
      let standing : standing_of (view_of u) p ≡ Standing.outside Rest.Holding = st ∙ ap (stands_as (verdict_in v p)) held in
      let lease : is_some (lease_at v.leases p) ≡ true = k.new_laws.leases p ∙ (ap is_leased here_now ∙ ap is_leased leased) in
      carried_item (view_of u) p g (lease_at v.leases p) refl lease same standing

  carry : (b : Answer) → a ≡ b → is_carrying b ≡ true → (g : Got) → (got_with (lease_at v.leases p) ≡ g) → Carried g (view_of u) p
  carry b e c g same =
      let P : Answer → Type 0 = λ z. standing_of (view_of u) p ≡ stands_as (verdict_in v p) (stage_after Rest.Holding w z) in
      let Q : Answer → Type 0 = λ z. goes_with (stage_after Rest.Holding w z) to ≡ true in
      carried_so g b e c same (subst P e now_standing) (subst Q e now_stands)

  only_carried : standing_of (view_of u) p ≡ Standing.outside Rest.Holding → is_carrying a ≡ true
  only_carried e =
      let stage : stage_after Rest.Holding w a ≡ Outside Rest.Holding = outside_stage (verdict_in v p) (stage_after Rest.Holding w a) Rest.Holding (sym now_standing ∙ e) in
      let P : Stage → Type 0 = λ z. goes_with z to ≡ true in
      ap is_carrying k.answer ∙ only_leasing k.from k.found (lease_at v.leases p) (subst P stage now_stands)

  pub legal : Legal (view_of t) m a (view_of u)
  legal = record {
    possible = record {
      exactly = ((λ e. absurd (impossible_not e)), (λ e. absurd (none_some (sym e ∙ call_is))));
      unchanged = λ e. absurd (impossible_not e);
    };
    one_change = record {
      effect = did_one.0;
      does = did_one.1;
      others = other_standing;
      other_leases = other_lease;
      parties = length-standings (verdict_in v) u.stages ∙ (ap length k.stages ∙ (length-set t.stages p _ ∙ sym (length-standings (verdict_in s) t.stages)));
      made = most_stays i p s.permits v.permits k.from k.found k.acts.permits;
      starved_limit = lock_limit i p k.from k.found s.lock v.lock k.acts.lock;
    };
    carries = record {
      ready = λ g e. carry (Answer.Ready g) e refl g (ready_with (next_of k.from k.found) (lease_at v.leases p) g (sym k.answer ∙ e));
      granted = λ g e. carry (Answer.Granted g) e refl g (granted_with (next_of k.from k.found) (lease_at v.leases p) g (sym k.answer ∙ e));
      only_so = λ some first held. only_carried held;
    };
    each = owns u k.new_laws k.new_fits;
    ends_properly = record {
      stands = λ within e first. (let P : Within → Type 0 = λ z. StandsAfter (gives (view_of t) p) z a (standing_of (view_of u) p) in subst P (some_eq (sym call_is ∙ e)) stands);
      after_ready = λ e. absurd (false≢true (sym not_again ∙ e));
    };
  }
