-- What each party has, by where it stands.
use Rattle.world_semaphore.proofs.Prelude.{◌≡◌, ℕ, true, false, Option, Some, is_some, refl, arith, ap, sym, ◌∙◌, subst, entries_of, Kind, Rest, Stage, Outside, Inside, Forgotten, Within, Answer, inside, is_outside, may_end, both, some_eq, none_some, stage_at, stands_as, Table, past_last, by_stage, by_stage_or_past, by_stage_or_past_at, Take, Retake, Join, Ask, Remove, Load, HandOn, PassOn, RefuseFit, Try, Lower, GiveBack, Raise, GiveAdded, FitAdded, CancelRemove, CancelLoad, FitGivenBack, Abandon, Place, Position, Out, Unlisted, Waiting as Waits_here, Holding, At, Share, nothing_owed, a_fit, share_of, size_at, listed, debt_at, verdict, verdict_of, Semaphore, IsSemaphore, goes_with, runs, is_begun, position_at, World, share_at, standing_of, size_of, debt_of, view_of, is_poll_call, HasItsOwn, IsSemaphoreTable}
use Rattle.world_semaphore.proofs.table.Seen as seen
use Rattle.world_semaphore.proofs.step.Idle.{StandsWell}

-- ---- What parties have, by where they stand

-- only a poll goes on undecided
undecided_polls : (k : Kind) (r : Rest) (x : Place) → is_begun x ≡ true → runs k r x ≡ true → is_some (verdict_of x) ≡ false → is_poll_call k ≡ true
undecided_polls Kind.FirstPoll r x b h e = refl
undecided_polls Kind.LaterPoll r x b h e = refl
undecided_polls Kind.Add Rest.Idle (Raise n) b h e = absurd (cc b)
undecided_polls Kind.Add Rest.Idle (GiveAdded n) b h e = absurd (cc e)
undecided_polls Kind.Add Rest.Idle (FitAdded a) b h e = absurd (cc e)
undecided_polls Kind.Add Rest.Idle _ b h e = absurd (cc h)
undecided_polls Kind.Drop Rest.Pending CancelRemove b h e = absurd (cc b)
undecided_polls Kind.Drop Rest.Pending CancelLoad b h e = absurd (cc e)
undecided_polls Kind.Drop Rest.Pending (FitGivenBack a) b h e = absurd (cc e)
undecided_polls Kind.Drop Rest.Pending Abandon b h e = absurd (cc b)
undecided_polls Kind.Drop Rest.Pending _ b h e = absurd (cc h)
undecided_polls Kind.Drop Rest.Holding (GiveBack k) b h e = absurd (cc b)
undecided_polls Kind.Drop Rest.Holding (FitGivenBack a) b h e = absurd (cc e)
undecided_polls Kind.Drop Rest.Holding _ b h e = absurd (cc h)
undecided_polls Kind.Try Rest.Idle (Try k) b h e = absurd (cc b)
undecided_polls Kind.Try Rest.Idle _ b h e = absurd (cc h)
undecided_polls Kind.Forget Rest.Holding (Lower k) b h e = absurd (cc b)
undecided_polls Kind.Forget Rest.Holding _ b h e = absurd (cc h)
undecided_polls _ _ x b h e = absurd (cc h)

poll_goes : (u : Within) (x : Place) → goes_with (Inside u) (At x) ≡ true → is_some (verdict_of x) ≡ false → is_poll_call u.kind ≡ true
poll_goes u x g e = let two = both (is_begun x) (runs u.kind u.was x) g in undecided_polls u.kind u.was x two.0 two.1 e

own_by : (w : World) (p : ℕ) (s : Stage) (x : Position) → goes_with s x ≡ true → entries_of p w.entries ≡ listed x → share_at w.state p ≡ share_of x → size_of w p ≡ size_at x → HasItsOwn w p (stands_as (verdict x) s)
own_by w p (Outside Rest.Idle) Out g l h z = (l, h, z)
own_by w p (Outside Rest.Idle) _ g l h z = absurd (cc)
own_by w p (Outside Rest.Pending) (Unlisted k) g l h z = h
own_by w p (Outside Rest.Pending) (Waits_here k) g l h z = h
own_by w p (Outside Rest.Pending) _ g l h z = absurd (cc)
own_by w p (Outside Rest.Holding) (Holding k) g l h z = (l, rw z h)
own_by w p (Outside Rest.Holding) _ g l h z = absurd (cc)
own_by w p (Outside Rest.Finished) x g l h z = absurd (cc)
own_by w p (Inside u) (At (Remove k more)) g l h z = rw z h
own_by w p (Inside u) (At (Load k)) g l h z = rw z h
own_by w p (Inside u) (At (HandOn k a)) g l h z = rw z h
own_by w p (Inside u) (At (PassOn k a)) g l h z = h
own_by w p (Inside u) (At (RefuseFit k a)) g l h z = h
own_by w p (Inside u) (At CancelLoad) g l h z = h
own_by w p (Inside u) (At (FitGivenBack a)) g l h z = h
own_by w p (Inside u) (At (GiveAdded n)) g l h z = ap (λ (z : Share). z.held) h
own_by w p (Inside u) (At (FitAdded a)) g l h z = ap (λ (z : Share). z.held) h
own_by w p (Inside u) (At (Lower k)) g l h z = absurd (cc g)
own_by w p (Inside u) (At (GiveBack k)) g l h z = absurd (cc g)
own_by w p (Inside u) (At CancelRemove) g l h z = absurd (cc g)
own_by w p (Inside u) (At Abandon) g l h z = absurd (cc g)
own_by w p (Inside u) (At (Take k false told)) g l h z = (h, poll_goes u (Take k false told) g refl)
own_by w p (Inside u) (At (Take k true told)) g l h z = (h, poll_goes u (Take k true told) g refl)
own_by w p (Inside u) (At (Retake k)) g l h z = (h, poll_goes u (Retake k) g refl)
own_by w p (Inside u) (At (Join k told)) g l h z = (h, poll_goes u (Join k told) g refl)
own_by w p (Inside u) (At (Ask k told)) g l h z = (h, poll_goes u (Ask k told) g refl)
own_by w p (Inside u) (At (Try k)) g l h z = (h, poll_goes u (Try k) g refl)
own_by w p (Inside u) (At (Raise n)) g l h z = (h, poll_goes u (Raise n) g refl)
own_by w p (Inside u) _ g l h z = absurd (cc)
own_by w p Forgotten x g l h z = tt

paid_by : (s : Stage) (x : Position) → goes_with s x ≡ true → is_outside (stands_as (verdict x) s) ≡ true → debt_at x ≡ nothing_owed
paid_by (Outside r) Out g o = refl
paid_by (Outside r) (Unlisted k) g o = refl
paid_by (Outside r) (Waits_here k) g o = refl
paid_by (Outside r) (Holding k) g o = refl
paid_by (Outside Rest.Idle) (At y) g o = absurd (cc)
paid_by (Outside Rest.Pending) (At y) g o = absurd (cc)
paid_by (Outside Rest.Holding) (At y) g o = absurd (cc)
paid_by (Outside Rest.Finished) (At y) g o = absurd (cc)
paid_by (Inside u) x g o = absurd (cc)
paid_by Forgotten x g o = absurd (cc)

-- a call is decided on an answer with which it may end
abbrev Ends : Kind → Answer → Type 0
Ends k b = may_end k b ≡ true

decided_ends : (k : Kind) (r : Rest) (x : Place) (b : Answer) → runs k r x ≡ true → verdict_of x ≡ Some b → Ends k b
decided_ends Kind.FirstPoll Rest.Idle (Remove n more) b g e = subst (Ends Kind.FirstPoll) (some_eq e) refl
decided_ends Kind.FirstPoll Rest.Idle (Load n) b g e = subst (Ends Kind.FirstPoll) (some_eq e) refl
decided_ends Kind.FirstPoll Rest.Idle (HandOn n a) b g e = subst (Ends Kind.FirstPoll) (some_eq e) refl
decided_ends Kind.FirstPoll Rest.Idle (PassOn n a) b g e = subst (Ends Kind.FirstPoll) (some_eq e) refl
decided_ends Kind.FirstPoll Rest.Idle (RefuseFit n a) b g e = subst (Ends Kind.FirstPoll) (some_eq e) refl
decided_ends Kind.FirstPoll Rest.Idle _ b g e = absurd (cc)
decided_ends Kind.LaterPoll Rest.Pending (Remove n more) b g e = subst (Ends Kind.LaterPoll) (some_eq e) refl
decided_ends Kind.LaterPoll Rest.Pending (Load n) b g e = subst (Ends Kind.LaterPoll) (some_eq e) refl
decided_ends Kind.LaterPoll Rest.Pending (HandOn n a) b g e = subst (Ends Kind.LaterPoll) (some_eq e) refl
decided_ends Kind.LaterPoll Rest.Pending (PassOn n a) b g e = subst (Ends Kind.LaterPoll) (some_eq e) refl
decided_ends Kind.LaterPoll Rest.Pending (RefuseFit n a) b g e = subst (Ends Kind.LaterPoll) (some_eq e) refl
decided_ends Kind.LaterPoll Rest.Pending _ b g e = absurd (cc)
decided_ends Kind.Add Rest.Idle (GiveAdded n) b g e = subst (Ends Kind.Add) (some_eq e) refl
decided_ends Kind.Add Rest.Idle (FitAdded a) b g e = subst (Ends Kind.Add) (some_eq e) refl
decided_ends Kind.Add Rest.Idle _ b g e = absurd (cc)
decided_ends Kind.Drop Rest.Holding (GiveBack n) b g e = subst (Ends Kind.Drop) (some_eq e) refl
decided_ends Kind.Drop Rest.Holding (FitGivenBack a) b g e = subst (Ends Kind.Drop) (some_eq e) refl
decided_ends Kind.Drop Rest.Holding _ b g e = absurd (cc)
decided_ends Kind.Drop Rest.Pending CancelRemove b g e = subst (Ends Kind.Drop) (some_eq e) refl
decided_ends Kind.Drop Rest.Pending CancelLoad b g e = subst (Ends Kind.Drop) (some_eq e) refl
decided_ends Kind.Drop Rest.Pending (FitGivenBack a) b g e = subst (Ends Kind.Drop) (some_eq e) refl
decided_ends Kind.Drop Rest.Pending Abandon b g e = subst (Ends Kind.Drop) (some_eq e) refl
decided_ends Kind.Drop Rest.Pending _ b g e = absurd (cc)
decided_ends Kind.Forget Rest.Holding (Lower n) b g e = subst (Ends Kind.Forget) (some_eq e) refl
decided_ends Kind.Forget Rest.Holding _ b g e = absurd (cc)
decided_ends Kind.Try Rest.Idle (Try n) b g e = absurd (none_some e)
decided_ends Kind.Try Rest.Idle _ b g e = absurd (cc)
decided_ends _ _ x b g e = absurd (cc)

same_call : (w u : Within) (d e : Option Answer) → inside w d ≡ inside u e → w ≡ u
same_call w u d e h = cc h

same_decision : (w u : Within) (d e : Option Answer) → inside w d ≡ inside u e → d ≡ e
same_decision w u d e h = cc h

ends_at : (s : Stage) (x : Position) (u : Within) (b : Answer) → goes_with s x ≡ true → stands_as (verdict x) s ≡ inside u (Some b) → Ends u.kind b
ends_at (Outside r) x u b g h = absurd (cc h)
ends_at Forgotten x u b g h = absurd (cc h)
ends_at (Inside w) (At y) u b g h =
    let W : Within → Type 0 = λ z. Ends z.kind b in
    let two = both (is_begun y) (runs w.kind w.was y) g in
    subst W (same_call w u (verdict_of y) (Some b) h) (decided_ends w.kind w.was y b two.1 (same_decision w u (verdict_of y) (Some b) h))
ends_at (Inside w) _ u b g h = absurd (cc g)

-- who is decided on Pending before that answer has to tell others
pends_at : (y : Place) → verdict_of y ≡ Some Answer.Pending → (n : ℕ) × (debt_at (At y) ≡ a_fit n)
pends_at (PassOn k a) e = (a, refl)
pends_at _ e = absurd (cc e)

pends_by : (s : Stage) (x : Position) (u : Within) → stands_as (verdict x) s ≡ inside u (Some Answer.Pending) → (n : ℕ) × (debt_at x ≡ a_fit n)
pends_by (Outside r) x u e = absurd (cc e)
pends_by (Inside w) (At y) u e = pends_at y (same_decision _ _ _ _ e)
pends_by (Inside w) _ u e = absurd (cc (same_decision _ _ _ _ e))
pends_by Forgotten x u e = absurd (cc e)

module _ (t : Table Semaphore) (laws : IsSemaphore t.machine) (fits : IsSemaphoreTable t) where
  pub each_has : (q : ℕ) → HasItsOwn (view_of t) q (standing_of (view_of t) q)
  each_has q = subst (HasItsOwn (view_of t) q) (sym (seen.stands_seen t q)) (by_stage t.stages q (λ s. HasItsOwn (view_of t) q (stands_as (verdict (position_at t.machine.positions q)) s)) tt
      (λ inside. own_by (view_of t) q (stage_at t.stages q) (position_at t.machine.positions q) (fits.stands q inside) (laws.owners q) (seen.share_seen t q) (seen.size_seen t q)))

  pub ends_well : (q : ℕ) (u : Within) (b : Answer) → standing_of (view_of t) q ≡ inside u (Some b) → Ends u.kind b
  ends_well q u b e = by_stage_or_past_at t.stages q (Ends u.kind b)
      (λ past. (let h : stands_as (verdict (position_at t.machine.positions q)) Forgotten ≡ inside u (Some b) = ap (stands_as (verdict (position_at t.machine.positions q))) (sym past) ∙ (sym (seen.stands_seen t q) ∙ e) in absurd (cc (h))))
      (λ inside. ends_at (stage_at t.stages q) (position_at t.machine.positions q) u b (fits.stands q inside) (sym (seen.stands_seen t q) ∙ e))

  pub none_owed : (q : ℕ) → is_outside (standing_of (view_of t) q) ≡ true → debt_of (view_of t) q ≡ nothing_owed
  none_owed q out = seen.debt_seen t q ∙ by_stage_or_past t.stages q (debt_at (position_at t.machine.positions q) ≡ nothing_owed)
      (λ past. ap debt_at (past_last t.machine.positions q Out (omega (arith, fits.as_many))))
      (λ inside. paid_by (stage_at t.stages q) (position_at t.machine.positions q) (fits.stands q inside) (sym (ap is_outside (seen.stands_seen t q)) ∙ out))

  pub well : StandsWell (view_of t)
  well = record {
    each = each_has;
    ends = ends_well;
    paid = none_owed;
    pends = λ q u e. (let at = pends_by (stage_at t.stages q) (position_at t.machine.positions q) u (sym (seen.stands_seen t q) ∙ e) in (at.0, seen.debt_seen t q ∙ at.1));
  }
