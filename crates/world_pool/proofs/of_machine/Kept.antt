-- An action of one party keeps what always holds of a pool.
use Rattle.world_pool.proofs.Prelude.{◌≡◌, ℕ, ◌<◌, ◌≤◌, Bool, true, false, Option, None, is_some, List, length, length-set, get_or-set_same, get_or-set_other, set, refl, arith, ap, sym, ◌∙◌, subst, ℕ_discrete, Inputs, Rest, Within, stage_after, Keeps, Mutex, IsMutex, lock_course, new_is_out, new_parties, may_lock, may_try, may_poll, may_cancel, may_release, Permits, IsPermits, permit_course, Ending, Found, Place, Acquire, WaitPermit, TakePermit, TryPermit, TryLock, EnterLock, WaitLock, TakeLock, Pop, Push, ReleaseLock, ReleasingLock, ReturnPermit, ReturningPermit, CancelPermit, CancellingPermit, CancelLock, CancellingLock, Lose, Position, Out, At, action_of, next_of, position_after, OnPermits, OnLock, OnItems, CanLocks, CanItems, Seat, fits_permits, fits_lock, in_permits, in_lock, is_leased, Pool, position_at, lease_at, new_pool, as_number, IsKept, IsPool, Stands, answer_by}
use Rattle.std.proofs.lemmas.List.{length-replicate}
use Rattle.world_base.proofs.Alike.{all_alike}
use Rattle.world_mutex.specs.machine.Course as lock
use Rattle.world_semaphore.specs.machine.Course as permit
use Rattle.world_pool.proofs.of_machine.Starts.{Fits}
use Rattle.world_pool.proofs.of_machine.Links
use Rattle.world_pool.proofs.of_machine.Lands.{lands}
use Rattle.world_pool.proofs.of_machine.Limits.{limit_stays, most_stays}
use Rattle.world_pool.proofs.of_machine.Seats.{same_permits, same_lock, leases_then, leased_after, lease_made, pops_bare, loses_leased}
use Rattle.world_pool.proofs.of_machine.Items.{as_many_numbered, none_leased_at_all, different_at_first, is_loss, no_more, as_many, different_then, counted_then, finds, has_room, balanced_at_rest}

-- ---- what an action needs is there

module _ (p : ℕ) (s : Pool) (room : ℕ) (k : IsKept room s) (sem : IsPermits s.permits) (known : p < length s.positions) (w : Within) (x : Place) (fit : Fits w (position_at s.positions p) x) where
  pub permit_link : fits_permits (in_permits (At x)) (permit_course s.permits.courses p) ≡ true
  permit_link = ap (λ (z : Seat). fits_permits z.permits (permit_course s.permits.courses p)) fit.seat ∙ k.permits p

  pub lock_link : fits_lock (in_lock (At x)) (lock_course s.lock.courses p) ≡ true
  lock_link = ap (λ (z : Seat). fits_lock z.lock (lock_course s.lock.courses p)) fit.seat ∙ k.locks p

  pub lease_link : is_some (lease_at s.leases p) ≡ is_leased (At x)
  lease_link = k.leases p ∙ ap (λ (z : Seat). z.leased) (sym fit.seat)

  in_semaphore_list : p < length s.permits.courses
  in_semaphore_list = rw k.permit_courses known

  in_lock_list : p < length s.lock.courses
  in_lock_list = rw k.lock_courses known

  abbrev here : permit.Course
  here = permit_course s.permits.courses p

  abbrev there : lock.Course
  there = lock_course s.lock.courses p

  can : (y : Place) → fits_permits (in_permits (At y)) here ≡ true → fits_lock (in_lock (At y)) there ≡ true → CanLocks p (action_of y) s.permits s.lock
  can Acquire h l = (in_semaphore_list, Links.may_acquire here h)
  can WaitPermit h l = (in_semaphore_list, Links.may_want here h)
  can TakePermit h l = (in_semaphore_list, Links.polls_busy here h)
  can TryPermit h l = (in_semaphore_list, Links.may_try_acquire here h)
  can (ReturnPermit r) h l = (in_semaphore_list, Links.may_return here h)
  can (ReturningPermit r) h l = (in_semaphore_list, Links.returns_busy here h)
  can CancelPermit h l = (in_semaphore_list, Links.may_unwant here h)
  can CancellingPermit h l = (in_semaphore_list, Links.returns_busy here h)
  can Lose h l = (in_semaphore_list, Links.may_forget here h)
  can TryLock h l = (in_lock_list, may_try there l)
  can (EnterLock a) h l = (in_lock_list, may_lock there l)
  can (WaitLock a) h l = (in_lock_list, may_poll there l)
  can (TakeLock a) h l = in_lock_list
  can (ReleaseLock (Ending.Leased t)) h l = (in_lock_list, may_release there l)
  can (ReleaseLock Ending.Given) h l = (in_lock_list, may_release there l)
  can (ReleasingLock e) h l = in_lock_list
  can (CancelLock a) h l = (in_lock_list, may_cancel there l)
  can (CancellingLock a) h l = in_lock_list
  can _ h l = tt

  pub can_locks : CanLocks p (action_of x) s.permits s.lock
  can_locks = can x permit_link lock_link

  seats : (y : Place) → in_permits (At y) ≡ in_permits (position_at s.positions p) → is_leased (At y) ≡ is_leased (position_at s.positions p) → CanItems (action_of y) s.items room (lease_at s.leases p)
  seats (Pop t) h l = finds s.positions s.leases s.permits sem k.permits k.leases k.as_many k.permit_courses p s.items known (sym h) (sym l) k.counted
  seats Push h l = (has_room s.positions s.leases s.permits sem k.permits k.leases k.as_many k.permit_courses p s.items room known (sym l) k.counted k.roomy, k.leases p ∙ sym l)
  seats _ h l = tt

  pub can_items : CanItems (action_of x) s.items room (lease_at s.leases p)
  can_items = seats x (ap (λ (z : Seat). z.permits) fit.seat) (ap (λ (z : Seat). z.leased) fit.seat)

-- ---- and what always holds is kept

cases : (b : Bool) (P : Type 0) → (b ≡ true → P) → (b ≡ false → P) → P
cases true P y n = y refl
cases false P y n = n refl

module _ (i : Inputs) (p : ℕ) (s : Pool) (room : ℕ) (k : IsKept room s) (sem : IsPermits s.permits) (known : p < length s.positions) (w : Within) (x : Place) (fit : Fits w (position_at s.positions p) x) (f : Found)
    (permits : Permits) (lock' : Mutex) (items : List ℕ) (lease : Option ℕ) (on_permits : OnPermits i p (action_of x) f s.permits permits) (on_lock : OnLock i p (action_of x) f s.lock lock') (on_items : OnItems (action_of x) s.items (lease_at s.leases p) items lease) where
  abbrev to : Position
  to = position_after (next_of x f)

  abbrev then : Pool
  then = record { items = items; leases = set s.leases p lease; positions = set s.positions p to; permits = permits; lock = lock' }

  p_link : fits_permits (in_permits (At x)) (permit_course s.permits.courses p) ≡ true
  p_link = permit_link p s room k sem known w x fit

  l_link : fits_lock (in_lock (At x)) (lock_course s.lock.courses p) ≡ true
  l_link = lock_link p s room k sem known w x fit

  pub led_there : Links.LedPermit x f (permit_course permits.courses p)
  led_there = Links.led_permit i p s.permits permits x f on_permits p_link

  pub led_here : Links.LedLock x f (lock_course lock'.courses p)
  led_here = Links.led_lock i p s.lock lock' x f on_lock l_link

  own_permits : fits_permits (in_permits to) (permit_course permits.courses p) ≡ true
  own_permits = cases (Links.in_semaphore x) _
      (λ e. Links.permit_links x f (permit_course permits.courses p) e led_there)
      (λ e. rw (same_permits x f e, ap (λ (z : Permits). permit_course z.courses p) (Links.permits_stay i p s.permits permits x f on_permits e)) p_link)

  own_lock : fits_lock (in_lock to) (lock_course lock'.courses p) ≡ true
  own_lock = cases (Links.in_mutex x) _
      (λ e. Links.lock_links x f (lock_course lock'.courses p) e led_here)
      (λ e. rw (same_lock x f e, ap (λ (z : Mutex). lock_course z.courses p) (Links.lock_stays i p s.lock lock' x f on_lock e)) l_link)

  own_lease : is_some lease ≡ is_leased to
  own_lease = lease_made (action_of x) s.items (lease_at s.leases p) items lease on_items ∙ (ap (leases_then (action_of x)) (lease_link p s room k sem known w x fit) ∙ sym (leased_after x f))

  inside : p < length s.leases
  inside = rw k.as_many known

  abbrev here_then : position_at (set s.positions p to) p ≡ to
  here_then = get_or-set_same s.positions p to Out known

  most : permits.words.most ≡ s.permits.words.most
  most = most_stays i p s.permits permits x f on_permits

  was_leased : is_some (lease_at s.leases p) ≡ is_leased (At x)
  was_leased = lease_link p s room k sem known w x fit

  pub kept : (roomy : ℕ) → room ≤ roomy → IsKept roomy then
  kept roomy as_roomy = record {
    permits = λ j. elim (ℕ_discrete j p) as (λ _. fits_permits (in_permits (position_at (set s.positions p to) j)) (permit_course permits.courses j) ≡ true) [
      | yes e ↦ (let P : ℕ → Type 0 = λ n. fits_permits (in_permits (position_at (set s.positions p to) n)) (permit_course permits.courses n) ≡ true in subst P (sym e) (rw here_then own_permits))
      | no apart ↦ rw (get_or-set_other s.positions p j to Out apart, Links.permit_others i p s.permits permits (action_of x) f on_permits j apart) (k.permits j)
    ];
    locks = λ j. elim (ℕ_discrete j p) as (λ _. fits_lock (in_lock (position_at (set s.positions p to) j)) (lock_course lock'.courses j) ≡ true) [
      | yes e ↦ (let P : ℕ → Type 0 = λ n. fits_lock (in_lock (position_at (set s.positions p to) n)) (lock_course lock'.courses n) ≡ true in subst P (sym e) (rw here_then own_lock))
      | no apart ↦ rw (get_or-set_other s.positions p j to Out apart, Links.lock_others i p s.lock lock' (action_of x) f on_lock j apart) (k.locks j)
    ];
    leases = λ j. elim (ℕ_discrete j p) as (λ _. is_some (lease_at (set s.leases p lease) j) ≡ is_leased (position_at (set s.positions p to) j)) [
      | yes e ↦ (let P : ℕ → Type 0 = λ n. is_some (lease_at (set s.leases p lease) n) ≡ is_leased (position_at (set s.positions p to) n) in subst P (sym e) (rw (here_then, get_or-set_same s.leases p lease None inside) own_lease))
      | no apart ↦ rw (get_or-set_other s.positions p j to Out apart, get_or-set_other s.leases p j lease None apart) (k.leases j)
    ];
    different = rw most (different_then s.permits.words.most s.items items s.leases p lease inside k.different (λ n. no_more n (action_of x) s.items (lease_at s.leases p) items lease on_items));
    counted = counted_then s.permits.words.most s.items items s.leases p lease inside (as_number (is_loss (action_of x))) s.permits.words.limit permits.words.limit k.counted
        (as_many (action_of x) s.items (lease_at s.leases p) items lease on_items (λ e. was_leased ∙ pops_bare x e) (λ e. was_leased ∙ loses_leased x e))
        (limit_stays i p s.permits permits x f on_permits p_link);
    roomy = omega (arith, k.roomy, most);
    as_many = length-set s.leases p lease ∙ (k.as_many ∙ sym (length-set s.positions p to));
    permit_courses = Links.permit_length i p s.permits permits (action_of x) f on_permits ∙ (k.permit_courses ∙ sym (length-set s.positions p to));
    lock_courses = Links.lock_length i p s.lock lock' (action_of x) f on_lock ∙ (k.lock_courses ∙ sym (length-set s.positions p to));
  }

  pub keeps : Keeps (λ (z : Pool). length z.positions) Stands s p (stage_after Rest.Holding w (answer_by (next_of x f) lease)) then
  keeps = record {
    as_many = length-set s.positions p to;
    own = rw here_then (lands lease w x f (permit_course permits.courses p) (lock_course lock'.courses p) led_there led_here fit.runs);
    others = λ q z apart there. rw (get_or-set_other s.positions p q to Out apart) there;
  }

-- ---- a new pool

pub new_is : (parties items starved room : ℕ) → items ≤ room → IsKept room (new_pool parties items starved)
new_is parties items starved room roomy = record {
  permits = λ p. rw (all_alike Out parties p, all_alike permit.out parties p) refl;
  locks = λ p. rw (all_alike Out parties p) (rw (new_is_out parties starved p) refl);
  leases = λ p. rw (all_alike Out parties p, all_alike {A = Option ℕ} None parties p) refl;
  different = different_at_first parties items;
  counted = omega (arith, as_many_numbered items, none_leased_at_all parties);
  roomy = roomy;
  as_many = length-replicate parties None ∙ sym (length-replicate parties Out);
  permit_courses = length-replicate parties permit.out ∙ sym (length-replicate parties Out);
  lock_courses = new_parties parties starved ∙ sym (length-replicate parties Out);
}

-- ---- as callers see it

pub is_pool : (room : ℕ) (s : Pool) → IsKept room s → IsPermits s.permits → IsMutex s.lock → IsPool s
is_pool room s k sem mutex = record {
  semaphore = sem;
  mutex = mutex;
  permits = k.permits;
  locks = k.locks;
  leases = k.leases;
  different = k.different;
  counted = k.counted;
  as_many = k.as_many;
  permit_courses = k.permit_courses;
  lock_courses = k.lock_courses;
  rests = balanced_at_rest s.positions s.leases s.permits sem k.permits k.leases k.as_many k.permit_courses s.items k.counted;
}
