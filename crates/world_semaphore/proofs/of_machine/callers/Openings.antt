-- Where each call begins, and what its first step does at once.
use Rattle.world_semaphore.proofs.Prelude.{◌≡◌, ℕ, ◌≤◌, ◌⊎◌, inl, inr, Bool, true, false, Some, None, refl, arith, subst, some_eq, none_some, not_one, Found, Place, Take, Retake, Try, Lower, GiveBack, Raise, CancelRemove, Abandon, Position, Out, Unlisted, Waiting, Holding, next_of, listed}
use Rattle.lock_program.specs.declared.end.End.TheVariants.{Got, Granted}
use Rattle.sync_program.specs.declared.permits.SemaphoreCall.{SemaphoreCall}
use Rattle.sync_program.specs.Permits.{start_of}
use Rattle.world_semaphore.proofs.of_machine.callers.Rows.{polls, tries, adds, drops, size_for}
use Rattle.world_semaphore.proofs.of_machine.callers.Sights.{end_of}
use Rattle.world_semaphore.proofs.of_machine.laws.Kept.{after}
use Rattle.world_semaphore.specs.machine.Calls.{most_steps}
use Rattle.world_semaphore.specs.machine.Conduct.{Begins, wanted_by, decided_by, is_take, is_fresh, taken_by}
use Rattle.world_semaphore.specs.machine.Course as course
use Rattle.world_semaphore.specs.machine.Done.{step_of}
use Rattle.world_semaphore.specs.machine.Machine.{StandsAt}
use Rattle.world_semaphore.specs.machine.Ranks.{left}
use Rattle.world_semaphore.specs.machine.Seen.{course_of}

-- the calls, each from where it may begin
pub record Openings (P : SemaphoreCall → Position → Place → Type 0) : Type 0 where
  pub acquire : (k : ℕ) → P (SemaphoreCall.Acquire k) Out (Take k false false)
  pub try : (k : ℕ) → P (SemaphoreCall.TryAcquire k) Out (Try k)
  pub add : (n : ℕ) → P (SemaphoreCall.AddPermits n) Out (Raise n)
  pub poll : (k : ℕ) → P SemaphoreCall.Poll (Unlisted k) (Take k false false)
  pub poll_listed : (k : ℕ) → P SemaphoreCall.Poll (Waiting k) (Retake k)
  pub abandon : (k : ℕ) → P SemaphoreCall.Drop (Unlisted k) Abandon
  pub cancel : (k : ℕ) → P SemaphoreCall.Drop (Waiting k) CancelRemove
  pub give_back : (k : ℕ) → P SemaphoreCall.Drop (Holding k) (GiveBack k)
  pub forget : (k : ℕ) → P SemaphoreCall.Forget (Holding k) (Lower k)

module _ (P : SemaphoreCall → Position → Place → Type 0) (o : Openings P) where
  so : (c : SemaphoreCall) (x : Position) (y from : Place) → P c x y → Some y ≡ Some from → P c x from
  so c x y from h e = let Q : Place → Type 0 = P c x in subst Q (some_eq e) h

  pub opened : (c : SemaphoreCall) (x : Position) (from : Place) → start_of c x ≡ Some from → P c x from
  opened (SemaphoreCall.Acquire k) Out from e = so _ _ _ from (o.acquire k) e
  opened (SemaphoreCall.Acquire k) _ from e = absurd (none_some e)
  opened (SemaphoreCall.TryAcquire k) Out from e = so _ _ _ from (o.try k) e
  opened (SemaphoreCall.TryAcquire k) _ from e = absurd (none_some e)
  opened (SemaphoreCall.AddPermits k) Out from e = so _ _ _ from (o.add k) e
  opened (SemaphoreCall.AddPermits k) _ from e = absurd (none_some e)
  opened SemaphoreCall.Poll (Unlisted k) from e = so _ _ _ from (o.poll k) e
  opened SemaphoreCall.Poll (Waiting k) from e = so _ _ _ from (o.poll_listed k) e
  opened SemaphoreCall.Poll _ from e = absurd (none_some e)
  opened SemaphoreCall.Drop (Unlisted k) from e = so _ _ _ from (o.abandon k) e
  opened SemaphoreCall.Drop (Waiting k) from e = so _ _ _ from (o.cancel k) e
  opened SemaphoreCall.Drop (Holding k) from e = so _ _ _ from (o.give_back k) e
  opened SemaphoreCall.Drop _ from e = absurd (none_some e)
  opened SemaphoreCall.Forget (Holding k) from e = so _ _ _ from (o.forget k) e
  opened SemaphoreCall.Forget _ from e = absurd (none_some e)

-- ---- what is so where a call begins

abbrev StandsSo : SemaphoreCall → Position → Place → Type 0
StandsSo c x from = StandsAt from x

pub stands : (c : SemaphoreCall) (x : Position) (from : Place) → start_of c x ≡ Some from → StandsAt from x
stands = opened StandsSo (record {
  acquire = λ k. record { same = refl; waits = λ s. omega arith; short = λ h. absurd (cc h) };
  try = λ k. record { same = refl; waits = λ s. omega arith; short = λ h. absurd (cc h) };
  add = λ n. record { same = refl; waits = λ s. omega arith; short = λ h. absurd (cc h) };
  poll = λ k. record { same = refl; waits = λ s. omega arith; short = λ h. absurd (cc h) };
  poll_listed = λ k. record { same = refl; waits = λ s. omega arith; short = λ h. (refl, refl) };
  abandon = λ k. record { same = refl; waits = λ s. omega arith; short = λ h. absurd (cc h) };
  cancel = λ k. record { same = refl; waits = λ s. omega arith; short = λ h. absurd (cc h) };
  give_back = λ k. record { same = refl; waits = λ s. omega arith; short = λ h. absurd (cc h) };
  forget = λ k. record { same = refl; waits = λ s. omega arith; short = λ h. absurd (cc h) };
})

pub record IsBegun (c : SemaphoreCall) (x : Position) (from : Place) : Type 0 where
  pub decided : end_of from ≡ decided_by c
  pub leads : (f : Found) → Begins c (wanted_by c (course_of x)) (step_of (next_of from f)) (course_of (after from f))
  pub size : end_of from ≡ None → size_for from ≡ wanted_by c (course_of x)
  pub few : (b : Bool) → left from b ≤ most_steps c
  pub takes : is_take c ≡ true → (k : ℕ) × ((from ≡ Take k false false) ⊎ ((from ≡ Retake k) ⊎ (from ≡ Try k))) × (wanted_by c (course_of x) ≡ k)
  pub fresh : (n : ℕ) → n ≡ listed x → is_fresh c n ≡ true → (k : ℕ) × ((from ≡ Take k false false) ⊎ (from ≡ Try k)) × (wanted_by c (course_of x) ≡ k)
  pub ends : (k : ℕ) → from ≡ Try k → taken_by c ≡ Granted
  pub gets : (k : ℕ) → (from ≡ Take k false false) ⊎ (from ≡ Retake k) → taken_by c ≡ Got
  pub adds : (n : ℕ) → c ≡ SemaphoreCall.AddPermits n → from ≡ Raise n
  pub forgets : c ≡ SemaphoreCall.Forget → from ≡ Lower (wanted_by c (course_of x))
  pub returns : (k : ℕ) → c ≡ SemaphoreCall.Drop → course_of x ≡ course.holding k → from ≡ GiveBack k

seven : (k : ℕ) (b : Bool) → left (Retake k) b ≤ 7
seven k true = omega arith
seven k false = omega arith

pub begun : (c : SemaphoreCall) (x : Position) (from : Place) → start_of c x ≡ Some from → IsBegun c x from
begun = opened IsBegun (record {
  acquire = λ k. record { decided = refl; leads = λ f. polls (Take k false false) f refl; size = λ h. refl; few = λ b. omega arith; takes = λ h. (k, inl refl, refl); fresh = λ n e h. (k, inl refl, refl); ends = λ n e. absurd (cc e); gets = λ n e. refl; adds = λ n e. absurd (cc e); forgets = λ e. absurd (cc e); returns = λ n e g. absurd (cc e) };
  try = λ k. record { decided = refl; leads = λ f. tries k f; size = λ h. refl; few = λ b. omega arith; takes = λ h. (k, inr (inr refl), refl); fresh = λ n e h. (k, inr refl, refl); ends = λ n e. refl; gets = λ n e. never_try k n e; adds = λ n e. absurd (cc e); forgets = λ e. absurd (cc e); returns = λ n e g. absurd (cc e) };
  add = λ n. record { decided = refl; leads = λ f. adds (Raise n) f refl; size = λ h. refl; few = λ b. omega arith; takes = λ h. absurd (cc h); fresh = λ k e h. absurd (cc h); ends = λ k e. absurd (cc e); gets = λ k e. refl; adds = λ k e. cc e; forgets = λ e. absurd (cc e); returns = λ k e g. absurd (cc e) };
  poll = λ k. record { decided = refl; leads = λ f. polls (Take k false false) f refl; size = λ h. refl; few = λ b. omega arith; takes = λ h. (k, inl refl, refl); fresh = λ n e h. (k, inl refl, refl); ends = λ n e. absurd (cc e); gets = λ n e. refl; adds = λ n e. absurd (cc e); forgets = λ e. absurd (cc e); returns = λ n e g. absurd (cc e) };
  poll_listed = λ k. record { decided = refl; leads = λ f. polls (Retake k) f refl; size = λ h. refl; few = λ b. seven k b; takes = λ h. (k, inr (inl refl), refl); fresh = λ n e h. absurd (not_one n h e); ends = λ n e. absurd (cc e); gets = λ n e. refl; adds = λ n e. absurd (cc e); forgets = λ e. absurd (cc e); returns = λ n e g. absurd (cc e) };
  abandon = λ k. record { decided = refl; leads = λ f. drops Abandon f refl; size = λ h. absurd (cc h); few = λ b. omega arith; takes = λ h. absurd (cc h); fresh = λ n e h. absurd (cc h); ends = λ n e. absurd (cc e); gets = λ n e. refl; adds = λ n e. absurd (cc e); forgets = λ e. absurd (cc e); returns = λ n e g. absurd (cc g) };
  cancel = λ k. record { decided = refl; leads = λ f. drops CancelRemove f refl; size = λ h. absurd (cc h); few = λ b. omega arith; takes = λ h. absurd (cc h); fresh = λ n e h. absurd (cc h); ends = λ n e. absurd (cc e); gets = λ n e. refl; adds = λ n e. absurd (cc e); forgets = λ e. absurd (cc e); returns = λ n e g. absurd (cc g) };
  give_back = λ k. record { decided = refl; leads = λ f. drops (GiveBack k) f refl; size = λ h. absurd (cc h); few = λ b. omega arith; takes = λ h. absurd (cc h); fresh = λ n e h. absurd (cc h); ends = λ n e. absurd (cc e); gets = λ n e. refl; adds = λ n e. absurd (cc e); forgets = λ e. absurd (cc e); returns = λ n e g. cc g };
  forget = λ k. record { decided = refl; leads = λ f. (refl, refl); size = λ h. absurd (cc h); few = λ b. omega arith; takes = λ h. absurd (cc h); fresh = λ n e h. absurd (cc h); ends = λ n e. absurd (cc e); gets = λ n e. refl; adds = λ n e. absurd (cc e); forgets = λ e. refl; returns = λ n e g. absurd (cc e) };
}) where
  never_try : (k n : ℕ) → (Try k ≡ Take n false false) ⊎ (Try k ≡ Retake n) → Granted ≡ Got
  never_try k n (inl e) = absurd (cc e)
  never_try k n (inr e) = absurd (cc e)
