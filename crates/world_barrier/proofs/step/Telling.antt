-- Whoever releases the inner lock goes on, and tells one by its next step.
use Rattle.world_barrier.proofs.Prelude.{◌≡◌, ℕ, ◌≤◌, true, false, Some, refl, arith, ap, ◌∙◌, subst, notified, Answer, Inputs, Effect, nothing, changes, does, End, LockStep as Step, Refusal, IsLegal, Course, waiting, taking, has_lock, holds, decision, is_taking, is_releasing, Takes, Releases, Cancels, Mutex, course_at, holders, holder_of, out_free, waiting_free, releasing_free, holding_holds, Found, Place, EnterLock, WaitLock, TakeLock, ReleaseLock, ReleasingLock, Ask, CancelLock, CancellingLock, CancelLeave, Abandon, At, action_of, next_of, after_release, OnLock, answer_by, fits_lock, in_lock}
use Rattle.world_mutex.specs.machine.Effects as mutex
use Rattle.world_mutex.proofs.of_machine.callers.Holders as sees
use Rattle.world_barrier.proofs.step.Locks.{cancelling_free, out_quiet, waiting_quiet, holding_quiet, taking_quiet, cancelling_quiet}

has_lock_decided : (c : Course) → is_taking c ≡ true → holds c ≡ 1 → decision c ≡ Some End.Got
has_lock_decided (taking has_lock a b d) h one = refl
has_lock_decided (waiting b) h one = absurd (omega (arith, one))
has_lock_decided (taking _ a b d) h one = absurd (omega (arith, one))
has_lock_decided _ h one = absurd (cc h)

-- where a step of a poll, or of one that is cancelled, leads, the lock isn't released
takes_quiet : (s : Step) (d : Course) → Takes s d → is_releasing d ≡ true → ⊥
takes_quiet Step.More d h r = taking_quiet d h r
takes_quiet (Step.End End.Got) d h r = holding_quiet d (rw h refl) r
takes_quiet (Step.End End.Pending) d h r = waiting_quiet d h r
takes_quiet (Step.End (End.Refused Refusal.Memory)) d h r = out_quiet d (rw h refl) r
takes_quiet (Step.End (End.Refused Refusal.Starved)) d h r = out_quiet d (rw h refl) r
takes_quiet (Step.End _) d h r = h

cancels_quiet : (s : Step) (d : Course) → Cancels s d → is_releasing d ≡ true → ⊥
cancels_quiet Step.More d h r = cancelling_quiet d h r
cancels_quiet (Step.End End.GivenBack) d h r = out_quiet d (rw h refl) r
cancels_quiet (Step.End _) d h r = h

module _ (i : Inputs) (p : ℕ) (l k : Mutex) (one : holders l ≤ 1) where
  abbrev c : Course
  c = course_at l.courses p

  abbrev d : Course
  d = course_at k.courses p

  abbrev Held : Mutex → Type 0
  Held m = holder_of m ≡ Some p

  abbrev On : Place → Found → Type 0
  On y f = OnLock i p (action_of y) f l k

  abbrev Fits : Place → Type 0
  Fits y = fits_lock (in_lock (At y)) c ≡ true

  holds_not : holds c ≡ 0 → Held l → ⊥
  holds_not none has = let some = sees.is_held_by l.courses p has in absurd (omega (arith, none, some))

  -- who got the lock in a poll keeps it
  kept_by : (x : Effect mutex.Change mutex.ListName) → mutex.is_release x ≡ false → mutex.holder_after p x (Some p) ≡ Some p
  kept_by nothing h = refl
  kept_by (changes mutex.takes) h = refl
  kept_by (changes mutex.releases) h = absurd (cc h)
  kept_by (changes mutex.starves) h = refl
  kept_by (changes mutex.recovers) h = refl
  kept_by (does list f) h = refl

  keeps : (s : Step) → IsLegal i.memory p (decision c) s l k → is_taking c ≡ true → Held l → Held k
  keeps s g polls has = g.holder ∙ (ap (mutex.holder_after p g.effect) has ∙ kept_by g.effect (g.keeps_lock (has_lock_decided c polls (sees.is_held_by l.courses p has))))

  -- a step that releases the lock goes on
  pub released_by : (y : Place) (f : Found) → Fits y → On y f → Held l → (Held k → ⊥) → (answer_by (next_of y f) ≡ Answer.Stepped) × (is_releasing d ≡ true)
  released_by (ReleaseLock e) (Found.Lock s) link o has lost =
      let goes : s ≡ Step.More = o.releases refl in
      let R : Step → Type 0 = λ z. Releases z d in
      (ap (λ z. answer_by (after_release e (Found.Lock z))) goes, subst R goes o.leads)
  released_by (ReleaseLock e) _ link o has lost = absurd o
  released_by (TakeLock b) (Found.Lock s) link o has lost = absurd (lost (keeps s o.legal link has))
  released_by (TakeLock b) _ link o has lost = absurd o
  released_by (EnterLock b) f link o has lost = absurd (holds_not (out_free c link) has)
  released_by (WaitLock b) f link o has lost = absurd (holds_not (waiting_free c link) has)
  released_by (ReleasingLock e) f link o has lost = absurd (holds_not (releasing_free c link) has)
  released_by CancelLock f link o has lost = absurd (holds_not (waiting_free c link) has)
  released_by CancellingLock f link o has lost = absurd (holds_not (cancelling_free c link) has)
  released_by _ f link o has lost = absurd (lost (ap holder_of o ∙ has))

  -- whoever has released it tells one, and has no more to tell
  pub tells_by : (y : Place) (f : Found) → Fits y → On y f → is_releasing c ≡ true → (k.entries ≡ notified l.entries 1) × (is_releasing d ≡ false)
  tells_by (ReleasingLock e) (Found.Lock s) link o h = (o.legal.entries ∙ ap (λ z. mutex.entries_after p z l.entries) (o.legal.releases h), ap is_releasing (o.leads.releases h).1)
  tells_by (ReleasingLock e) _ link o h = absurd o
  tells_by (EnterLock b) f link o h = absurd (out_quiet c link h)
  tells_by (WaitLock b) f link o h = absurd (waiting_quiet c link h)
  tells_by (TakeLock b) f link o h = absurd (taking_quiet c link h)
  tells_by CancelLock f link o h = absurd (waiting_quiet c link h)
  tells_by CancellingLock f link o h = absurd (cancelling_quiet c link h)
  tells_by Ask f link o h = absurd (out_quiet c link h)
  tells_by CancelLeave f link o h = absurd (out_quiet c link h)
  tells_by Abandon f link o h = absurd (out_quiet c link h)
  tells_by _ f link o h = absurd (holding_quiet c link h)

  -- and nobody else comes to have to tell
  pub only_by : (y : Place) (f : Found) → Fits y → On y f → is_releasing c ≡ false → is_releasing d ≡ true → Held l
  only_by (ReleaseLock e) f link o n h = sees.holds_it l.courses p one (holding_holds c link)
  only_by (EnterLock b) (Found.Lock s) link o n h = absurd (takes_quiet s d o.leads h)
  only_by (EnterLock b) _ link o n h = absurd o
  only_by (WaitLock b) (Found.Lock s) link o n h = absurd (takes_quiet s d o.leads h)
  only_by (WaitLock b) _ link o n h = absurd o
  only_by (TakeLock b) (Found.Lock s) link o n h = absurd (takes_quiet s d (o.leads.takes link) h)
  only_by (TakeLock b) _ link o n h = absurd o
  only_by CancelLock (Found.Lock s) link o n h = absurd (cancels_quiet s d o.leads h)
  only_by CancelLock _ link o n h = absurd o
  only_by CancellingLock (Found.Lock s) link o n h = absurd (cancels_quiet s d (o.leads.cancels link) h)
  only_by CancellingLock _ link o n h = absurd o
  only_by (ReleasingLock e) f link o n h = absurd (cc (link, n))
  only_by _ f link o n h = let same : is_releasing d ≡ is_releasing c = ap (λ (m : Mutex). is_releasing (course_at m.courses p)) o in absurd (cc (same, n, h))
