-- What parties have, by where they stand.
use Rattle.world_pool.proofs.Prelude.{◌≡◌, ℕ, Bool, true, false, Option, Some, None, is_some, refl, ap, sym, ◌∙◌, subst, false≢true, Rest, Stage, Outside, Inside, Forgotten, Within, Standing, inside, End, stage_at, stands_as, Table, by_stage_or_past_at, Place, Position, Out, Made, Acquiring, Locking, Leased, At, Aim, Ending, Taker, Return, TakePermit, TakeLock, ReleaseLock, ReleasingLock, ReturnPermit, ReturningPermit, InPermits, InLock, has, without, unlocked, waits, fits_permits, fits_lock, in_permits, in_lock, is_leased, is_giving, Pool, IsPool, position_at, lease_at, goes_with, lock_course, permit_course, World, standing_of, gives, HasPermit, view_of, verdict, verdict_of, decided_inside, decided_ending, decided_return, HasItsOwn, HasNothing, HasLease, IsPending, IsPoolTable}
use Rattle.world_mutex.specs.machine.Course as lock
use Rattle.world_semaphore.specs.machine.Course as permit
use Rattle.world_semaphore.specs.machine.Seats.{guard_of}
use Rattle.world_pool.proofs.of_machine.Links.{is_one}
use Rattle.world_pool.proofs.of_machine.Items.{lease_has}
use Rattle.world_pool.proofs.table.Seen as seen

-- courses by what they fit
pub out_there : (c : permit.Course) → fits_permits without c ≡ true → c ≡ permit.out
out_there permit.out h = refl
out_there _ h = absurd (false≢true h)

pub one_guard : (c : permit.Course) → fits_permits has c ≡ true → permit.share c ≡ guard_of 1
one_guard (permit.holding k) h = ap guard_of (is_one k h)
one_guard _ h = absurd (false≢true h)

pub out_here : (c : lock.Course) → fits_lock unlocked c ≡ true → c ≡ lock.out
out_here lock.out h = refl
out_here _ h = absurd (false≢true h)

out_holds_not : (c : lock.Course) → fits_lock unlocked c ≡ true → lock.holds c ≡ 0
out_holds_not lock.out h = refl
out_holds_not _ h = absurd (false≢true h)

waits_holds_not : (c : lock.Course) → fits_lock waits c ≡ true → lock.holds c ≡ 0
waits_holds_not (lock.waiting s) h = refl
waits_holds_not _ h = absurd (false≢true h)

pub holds_one : (c : lock.Course) → fits_lock InLock.holds c ≡ true → lock.holds c ≡ 1
holds_one lock.holding h = refl
holds_one _ h = absurd (false≢true h)

pub no_lease : (l : Option ℕ) → is_some l ≡ false → l ≡ None
no_lease None h = refl
no_lease (Some i) h = absurd (false≢true (sym h))

pub some_lease : (l : Option ℕ) → is_some l ≡ true → (i : ℕ) × (l ≡ Some i)
some_lease None h = absurd (false≢true h)
some_lease (Some i) h = (i, refl)

module _ (t : Table Pool) (laws : IsPool t.machine) (fits : IsPoolTable t) (q : ℕ) where
  abbrev w : World
  w = view_of t

  abbrev x_of : Position
  x_of = position_at t.machine.positions q

  abbrev c_of : permit.Course
  c_of = permit_course t.machine.permits.courses q

  abbrev d_of : lock.Course
  d_of = lock_course t.machine.lock.courses q

  abbrev l_of : Option ℕ
  l_of = lease_at t.machine.leases q

  -- what is known of a party that stands here
  pub record Facts (x : Position) : Type 0 where
    pub permits : fits_permits (in_permits x) c_of ≡ true
    pub locks : fits_lock (in_lock x) d_of ≡ true
    pub leases : is_some l_of ≡ is_leased x
    pub giving : gives w q ≡ is_giving x

  pub facts : (x : Position) → x_of ≡ x → Facts x
  facts x e = record {
    permits = (let P : Position → Type 0 = λ y. fits_permits (in_permits y) c_of ≡ true in subst P e (laws.permits q));
    locks = (let P : Position → Type 0 = λ y. fits_lock (in_lock y) d_of ≡ true in subst P e (laws.locks q));
    leases = laws.leases q ∙ ap is_leased e;
    giving = seen.giving_seen t q ∙ ap is_giving e;
  }

  has_permit : (x : Position) → Facts x → in_permits x ≡ has → HasPermit w q
  has_permit x f e = let P : InPermits → Type 0 = λ z. fits_permits z c_of ≡ true in one_guard c_of (subst P e f.permits)

  with_lease : (x : Position) → Facts x → is_leased x ≡ true → HasLease w q
  with_lease x f e = record { permit = has_permit x f (lease_has x e); lease = some_lease l_of (f.leases ∙ e) }

  pends : (x : Position) → Facts x → (b : Bool) → gives w q ≡ b → (b ≡ true → is_leased x ≡ true) → (b ≡ false → is_leased x ≡ false) → IsPending w q (gives w q)
  pends x f true e its bare = rw e (with_lease x f (its refl))
  pends x f false e its bare = rw e (no_lease l_of (f.leases ∙ bare refl))

  idle_owns : Facts Out → HasNothing w q
  idle_owns f = record { permit = out_there c_of f.permits; lock = out_here d_of f.locks; lease = no_lease l_of f.leases }

  pending_owns : (x : Position) → Facts x → goes_with (Outside Rest.Pending) x ≡ true → HasItsOwn w q (Standing.outside Rest.Pending)
  pending_owns (Made Aim.Take) f h = (pends (Made Aim.Take) f false f.giving (λ e. absurd (false≢true e)) (λ e. refl), out_holds_not d_of f.locks)
  pending_owns (Made Aim.Give) f h = (pends (Made Aim.Give) f true f.giving (λ e. refl) (λ e. absurd (false≢true (sym e))), out_holds_not d_of f.locks)
  pending_owns Acquiring f h = (pends Acquiring f false f.giving (λ e. absurd (false≢true e)) (λ e. refl), out_holds_not d_of f.locks)
  pending_owns (Locking Aim.Take) f h = (pends (Locking Aim.Take) f false f.giving (λ e. absurd (false≢true e)) (λ e. refl), waits_holds_not d_of f.locks)
  pending_owns (Locking Aim.Give) f h = (pends (Locking Aim.Give) f true f.giving (λ e. refl) (λ e. absurd (false≢true (sym e))), waits_holds_not d_of f.locks)
  pending_owns _ f h = absurd (false≢true h)

  -- inside a call
  inside_plain : (u : Within) (d : Option End) → HasItsOwn w q (inside u (decided_inside d))
  inside_plain u None = tt
  inside_plain u (Some End.Got) = tt
  inside_plain u (Some End.Granted) = tt
  inside_plain u (Some End.Pending) = tt
  inside_plain u (Some End.Waiting) = tt
  inside_plain u (Some End.NotFree) = tt
  inside_plain u (Some End.GivenBack) = tt
  inside_plain u (Some (End.Refused r)) = tt

  leased_ends : (u : Within) (k : Taker) (l : Option ℕ) → l_of ≡ l → is_some l ≡ true → HasItsOwn w q (inside u (decided_ending (Ending.Leased k) l))
  leased_ends u Taker.Poll (Some i) e h = e
  leased_ends u Taker.Try (Some i) e h = e
  leased_ends u k None e h = absurd (false≢true h)

  returned_owns : (u : Within) (r : Return) → HasItsOwn w q (inside u (decided_return r))
  returned_owns u Return.Given = tt
  returned_owns u Return.Dropped = tt
  returned_owns u Return.InVain = tt
  returned_owns u Return.NoMemory = tt
  returned_owns u Return.Starved = tt

  inside_owns : (u : Within) (y : Place) → Facts (At y) → HasItsOwn w q (inside u (verdict_of y c_of d_of l_of))
  inside_owns u TakePermit f = inside_plain u (permit.decision c_of)
  inside_owns u (TakeLock a) f = inside_plain u (lock.decision d_of)
  inside_owns u (ReleaseLock (Ending.Leased k)) f = leased_ends u k l_of refl f.leases
  inside_owns u (ReleaseLock Ending.Given) f = tt
  inside_owns u (ReleasingLock (Ending.Leased k)) f = leased_ends u k l_of refl f.leases
  inside_owns u (ReleasingLock Ending.Given) f = tt
  inside_owns u (ReturnPermit r) f = returned_owns u r
  inside_owns u (ReturningPermit r) f = returned_owns u r
  inside_owns u _ f = tt

  by_stage : (s : Stage) (x : Position) → Facts x → goes_with s x ≡ true → HasItsOwn w q (stands_as (verdict x c_of d_of l_of) s)
  by_stage (Outside Rest.Idle) Out f h = idle_owns f
  by_stage (Outside Rest.Holding) Leased f h = (with_lease Leased f refl, out_here d_of f.locks)
  by_stage (Outside Rest.Pending) x f h = pending_owns x f h
  by_stage (Inside u) (At y) f h = inside_owns u y f
  by_stage Forgotten x f h = tt
  by_stage _ _ f h = absurd (false≢true h)

  pub owns : HasItsOwn w q (standing_of w q)
  owns =
      let P : Standing → Type 0 = HasItsOwn w q in
      subst P (sym (seen.standing_seen t q))
      (by_stage_or_past_at t.stages q (HasItsOwn w q (stands_as (verdict x_of c_of d_of l_of) (stage_at t.stages q)))
      (λ e. (let Q : Stage → Type 0 = λ s. HasItsOwn w q (stands_as (verdict x_of c_of d_of l_of) s) in subst Q (sym e) tt))
      (λ known. by_stage (stage_at t.stages q) x_of (facts x_of refl) (fits.stands q known)))
