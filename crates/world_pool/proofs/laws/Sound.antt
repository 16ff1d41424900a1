-- What always holds, as callers see it.
use Rattle.world_pool.proofs.Prelude.{◌≡◌, ℕ, suc, true, Some, is_some, List, [], ◌∷◌, refl, arith, ap, sym, ◌∙◌, subst, sum_by, false≢true, Rest, Stage, Outside, Inside, Forgotten, is_outside_stage, stage_at, Table, rest_seen, outside_at, by_stage_or_past, lock_course, permit_course, Position, Out, Made, Acquiring, Locking, Leased, At, Aim, InPermits, fits_lock, fits_permits, in_lock, in_permits, is_resting, goes_with, Pool, IsPool, IsAtRest, position_at, lease_at, view_of, verdict_in, IsSound, IsAwake, is_at_rest, HasPermit, IsPoolTable}
use Rattle.std.proofs.lemmas.List.Sums.{sum_by-cons}
use Rattle.world_base.proofs.of_table.Mapped.{past_last}
use Rattle.world_base.proofs.of_table.Resting.{all_at_rest}
use Rattle.world_mutex.specs.machine.Course as lock
use Rattle.world_mutex.specs.machine.Mutex as mutex
use Rattle.world_mutex.proofs.of_machine.callers.AloneSeen.{solo_polls as lock_law}
use Rattle.world_semaphore.specs.machine.Permits as semaphore
use Rattle.world_semaphore.specs.machine.Course as permit
use Rattle.world_semaphore.proofs.of_machine.callers.InVain.{alone}
use Rattle.world_pool.proofs.of_machine.Items.{lease_has}
use Rattle.world_pool.proofs.table.Seen.{seekers}
use Rattle.world_pool.proofs.step.Owns.{owns, one_guard}

-- whoever is at rest holds no lock, and rests in both
rest_free : (x : Position) (c : lock.Course) → is_resting x ≡ true → fits_lock (in_lock x) c ≡ true → (lock.holds c ≡ 0) × (lock.is_resting c ≡ true)
rest_free Out lock.out r h = (refl, refl)
rest_free (Made Aim.Take) lock.out r h = (refl, refl)
rest_free (Made Aim.Give) lock.out r h = (refl, refl)
rest_free Acquiring lock.out r h = (refl, refl)
rest_free Leased lock.out r h = (refl, refl)
rest_free (Locking a) (lock.waiting s) r h = (refl, refl)
rest_free _ _ r h = absurd (cc)

rest_there : (x : Position) (c : permit.Course) → is_resting x ≡ true → fits_permits (in_permits x) c ≡ true → permit.is_resting c ≡ true
rest_there Out permit.out r h = refl
rest_there (Made Aim.Take) permit.out r h = refl
rest_there Acquiring (permit.unlisted k) r h = refl
rest_there Acquiring (permit.waiting k) r h = refl
rest_there (Made Aim.Give) (permit.holding k) r h = refl
rest_there (Locking a) (permit.holding k) r h = refl
rest_there Leased (permit.holding k) r h = refl
rest_there _ _ r h = absurd (cc)

none_hold : (cs : List lock.Course) → ((j : ℕ) → lock.holds (lock_course cs j) ≡ 0) → sum_by lock.holds cs ≡ 0
none_hold [] h = refl
none_hold (c ∷ cs) h = omega (arith, sum_by-cons lock.holds c cs, h 0, none_hold cs (λ j. h (suc j)))

stage_rests : (s : Stage) (x : Position) → is_outside_stage s ≡ true → goes_with s x ≡ true → is_resting x ≡ true
stage_rests (Outside Rest.Idle) (At y) o h = absurd (false≢true h)
stage_rests (Outside Rest.Pending) (At y) o h = absurd (false≢true h)
stage_rests (Outside Rest.Holding) (At y) o h = absurd (false≢true h)
stage_rests (Outside Rest.Finished) (At y) o h = absurd (false≢true h)
stage_rests (Outside r) _ o h = refl
stage_rests (Inside w) x o h = absurd (false≢true o)
stage_rests Forgotten x o h = h

module _ (t : Table Pool) (laws : IsPool t.machine) (fits : IsPoolTable t) where
  lease_permit : (p i : ℕ) → lease_at t.machine.leases p ≡ Some i → HasPermit (view_of t) p
  lease_permit p i e =
      let P : InPermits → Type 0 = λ q. fits_permits q (permit_course t.machine.permits.courses p) ≡ true in
      one_guard (permit_course t.machine.permits.courses p) (subst P (lease_has (position_at t.machine.positions p) (sym (laws.leases p) ∙ ap is_some e)) (laws.permits p))

  pub sound : IsSound (view_of t)
  sound = record {
    each = owns t laws fits;
    different = laws.different;
    all = omega (arith, laws.counted, laws.semaphore.limited);
    counted = laws.counted;
    permits = lease_permit;
    semaphore = laws.semaphore;
    lock = laws.mutex;
  }

  rests_at : is_at_rest (view_of t) ≡ true → (p : ℕ) → is_resting (position_at t.machine.positions p) ≡ true
  rests_at rest p = by_stage_or_past t.stages p (is_resting (position_at t.machine.positions p) ≡ true)
      (λ past. ap is_resting (past_last t.machine.positions p Out (omega (arith, past, fits.as_many))))
      (λ known. stage_rests (stage_at t.stages p) (position_at t.machine.positions p) (outside_at t.stages (sym (rest_seen (verdict_in t.machine) t.stages) ∙ rest) p) (fits.stands p known))

  pub awake : is_at_rest (view_of t) ≡ true → IsAwake (view_of t)
  awake rest =
      let each = rests_at rest in
      let positions : IsAtRest t.machine.positions = all_at_rest is_resting Out t.machine.positions (λ p known. each p) in
      let there : semaphore.IsAtRest t.machine.permits.courses = all_at_rest permit.is_resting permit.out t.machine.permits.courses (λ p known. rest_there (position_at t.machine.positions p) (permit_course t.machine.permits.courses p) (each p) (laws.permits p)) in
      let here : mutex.IsAtRest t.machine.lock.courses = all_at_rest lock.is_resting lock.out t.machine.lock.courses (λ p known. (rest_free (position_at t.machine.positions p) (lock_course t.machine.lock.courses p) (each p) (laws.locks p)).1) in
      let free : mutex.holders t.machine.lock ≡ 0 = none_hold t.machine.lock.courses (λ p. (rest_free (position_at t.machine.positions p) (lock_course t.machine.lock.courses p) (each p) (laws.locks p)).0) in
      record {
        free = free;
        balanced = omega (arith, laws.rests positions, seekers t.machine.positions);
        acquires = laws.semaphore.wakes there;
        called = (alone t.machine.permits laws.semaphore).some_called there;
        locks = laws.mutex.wakes here free;
        called_there = (lock_law t.machine.lock laws.mutex free).some_called here;
        starved = λ p one. omega (arith, laws.mutex.starved_listed here p one);
      }
