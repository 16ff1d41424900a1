-- What each party has, by how it stands.
use Rattle.world_mutex.proofs.Prelude.{◌≡◌, ◌≢◌, ℕ, true, false, Option, Some, refl, arith, ap, sym, ◌∙◌, subst, is_some, true≢false, Answer, Kind, Rest, Stage, Outside, Inside, Forgotten, Within, inside, may_end, some_eq, stage_at, stands_as, Table, by_stage, by_stage_or_past_at, Place, IsMutex, decision, holds, listed, is_counted, Guarded, place_of, is_within, goes_with, HasItsOwn, standing_of, IsClear, IsMutexTable, answer_on, verdict, view_of}
use Rattle.world_mutex.proofs.of_machine.laws.Seen as sees
use Rattle.world_mutex.proofs.table.Seen.{stands_seen, pending_undecided}

-- an undecided party doesn't hold the lock
never_within : (k : Kind) (r : Rest) → is_within k r Place.Holding ≡ true → ⊥
never_within Kind.FirstPoll Rest.Idle g = cc (g)
never_within Kind.LaterPoll Rest.Pending g = cc (g)
never_within Kind.Drop Rest.Holding g = cc (g)
never_within Kind.Drop Rest.Pending g = cc (g)
never_within _ _ g = cc (g)

-- nor is a party inside a call that is about to give it back: that is the call's first step
never_clears : (k : Kind) (r : Rest) → is_within k r Place.Clear ≡ true → ⊥
never_clears Kind.FirstPoll Rest.Idle g = cc (g)
never_clears Kind.LaterPoll Rest.Pending g = cc (g)
never_clears Kind.Drop Rest.Holding g = cc (g)
never_clears Kind.Drop Rest.Pending g = cc (g)
never_clears _ _ g = cc (g)

-- a drop is decided wherever it is
drop_decided : (r : Rest) (x : Place) → is_within Kind.Drop r x ≡ true → is_some (decision x) ≡ true
drop_decided Rest.Holding Place.ReleaseNotify g = refl
drop_decided Rest.Holding _ g = absurd (cc (g))
drop_decided Rest.Pending Place.CancelUncount g = refl
drop_decided Rest.Pending Place.CancelLeave g = refl
drop_decided Rest.Pending _ g = absurd (cc (g))
drop_decided _ x g = absurd (cc (g))

no_drop : (w : Within) (x : Place) → goes_with (Inside w) x ≡ true → is_some (decision x) ≡ false → w.kind ≢ Kind.Drop
no_drop w x g none is = true≢false (sym (drop_decided w.was x (ap (λ k. is_within k w.was x) (sym is) ∙ g)) ∙ none)

-- a call is decided on an answer with which it may end
abbrev Ends : Kind → Answer → Type 0
Ends k b = may_end k b ≡ true

decided_ends : (v : ℕ) (k : Kind) (r : Rest) (x : Place) (b : Answer) → is_within k r x ≡ true → answer_on v (decision x) ≡ Some b → Ends k b
decided_ends v Kind.FirstPoll Rest.Idle Place.Leave b g e = subst (Ends Kind.FirstPoll) (some_eq e) refl
decided_ends v Kind.FirstPoll Rest.Idle (Place.Uncount stands) b g e = subst (Ends Kind.FirstPoll) (some_eq e) refl
decided_ends v Kind.FirstPoll Rest.Idle Place.RefuseUncount b g e = subst (Ends Kind.FirstPoll) (some_eq e) refl
decided_ends v Kind.FirstPoll Rest.Idle (Place.RefuseLeave told) b g e = subst (Ends Kind.FirstPoll) (some_eq e) refl
decided_ends v Kind.FirstPoll Rest.Idle Place.RefuseNotifyMemory b g e = subst (Ends Kind.FirstPoll) (some_eq e) refl
decided_ends v Kind.FirstPoll Rest.Idle Place.RefuseNotifyStarved b g e = subst (Ends Kind.FirstPoll) (some_eq e) refl
decided_ends v Kind.FirstPoll Rest.Idle _ b g e = absurd (cc)
decided_ends v Kind.LaterPoll Rest.Pending Place.Leave b g e = subst (Ends Kind.LaterPoll) (some_eq e) refl
decided_ends v Kind.LaterPoll Rest.Pending (Place.Uncount stands) b g e = subst (Ends Kind.LaterPoll) (some_eq e) refl
decided_ends v Kind.LaterPoll Rest.Pending Place.RefuseUncount b g e = subst (Ends Kind.LaterPoll) (some_eq e) refl
decided_ends v Kind.LaterPoll Rest.Pending (Place.RefuseLeave told) b g e = subst (Ends Kind.LaterPoll) (some_eq e) refl
decided_ends v Kind.LaterPoll Rest.Pending Place.RefuseNotifyMemory b g e = subst (Ends Kind.LaterPoll) (some_eq e) refl
decided_ends v Kind.LaterPoll Rest.Pending Place.RefuseNotifyStarved b g e = subst (Ends Kind.LaterPoll) (some_eq e) refl
decided_ends v Kind.LaterPoll Rest.Pending _ b g e = absurd (cc)
decided_ends v Kind.Drop Rest.Holding Place.ReleaseNotify b g e = subst (Ends Kind.Drop) (some_eq e) refl
decided_ends v Kind.Drop Rest.Holding _ b g e = absurd (cc (g))
decided_ends v Kind.Drop Rest.Pending Place.CancelUncount b g e = subst (Ends Kind.Drop) (some_eq e) refl
decided_ends v Kind.Drop Rest.Pending Place.CancelLeave b g e = subst (Ends Kind.Drop) (some_eq e) refl
decided_ends v Kind.Drop Rest.Pending _ b g e = absurd (cc (g))
decided_ends v _ _ x b g e = absurd (cc (g))

same_call : (w u : Within) (d e : Option Answer) → inside w d ≡ inside u e → w ≡ u
same_call w u d e h = cc h

same_decision : (w u : Within) (d e : Option Answer) → inside w d ≡ inside u e → d ≡ e
same_decision w u d e h = cc h

ends_at : (v : ℕ) (s : Stage) (x : Place) (u : Within) (b : Answer) → goes_with s x ≡ true → stands_as (answer_on v (decision x)) s ≡ inside u (Some b) → Ends u.kind b
ends_at v (Outside r) x u b g h = absurd (cc h)
ends_at v Forgotten x u b g h = absurd (cc h)
ends_at v (Inside w) x u b g h =
    let W : Within → Type 0 = λ z. Ends z.kind b in
    subst W (same_call w u (answer_on v (decision x)) (Some b) h) (decided_ends v w.kind w.was x b g (same_decision w u (answer_on v (decision x)) (Some b) h))

module _ (t : Table Guarded) (laws : IsMutex t.machine.lock) (fits : IsMutexTable t) where
  stands_pending : (d : Option Answer) (s : Stage) (u : Within) → (d ≡ Some Answer.Pending → ⊥) → stands_as d s ≢ inside u (Some Answer.Pending)
  stands_pending d (Outside r) u never e = cc
  stands_pending d (Inside w) u never e = never (cc)
  stands_pending d Forgotten u never e = cc

  -- nobody's call is decided on Pending
  pub not_pending : (q : ℕ) (u : Within) → standing_of (view_of t) q ≢ inside u (Some Answer.Pending)
  not_pending q u e = stands_pending (verdict t.machine q) (stage_at t.stages q) u (pending_undecided t.machine.value (place_of t.machine q)) (sym (stands_seen t q) ∙ e)

  pub clear_at : (q : ℕ) → listed (place_of t.machine q) ≡ 0 → is_counted (place_of t.machine q) ≡ false → IsClear (view_of t) q
  clear_at q li co = (laws.owners q ∙ li, sees.starved_at t.machine.lock.places q ∙ co)

  not_holder : (q : ℕ) → holds (place_of t.machine q) ≡ 0 → (view_of t).state.holder ≢ Some q
  not_holder q none h = let one = sees.is_held_by t.machine.lock.places q h in absurd (omega arith)

  inside_has : (q : ℕ) (w : Within) (x : Place) → place_of t.machine q ≡ x → goes_with (Inside w) x ≡ true → HasItsOwn (view_of t) q (inside w (answer_on t.machine.value (decision x)))
  inside_has q w Place.Leave at g = sees.holds_it t.machine.lock.places q laws.one_holder (ap holds at)
  inside_has q w (Place.Uncount b) at g = sees.holds_it t.machine.lock.places q laws.one_holder (ap holds at)
  inside_has q w Place.RefuseUncount at g = not_holder q (ap holds at)
  inside_has q w (Place.RefuseLeave told) at g = not_holder q (ap holds at)
  inside_has q w Place.RefuseNotifyMemory at g = not_holder q (ap holds at)
  inside_has q w Place.RefuseNotifyStarved at g = not_holder q (ap holds at)
  inside_has q w Place.ReleaseNotify at g = (not_holder q (ap holds at), λ none. sees.starved_at t.machine.lock.places q ∙ ap is_counted at)
  inside_has q w Place.CancelUncount at g = (not_holder q (ap holds at), λ none. let one : listed (place_of t.machine q) ≡ 1 = ap listed at in absurd (omega (arith, none, laws.owners q, one)))
  inside_has q w Place.CancelLeave at g = (not_holder q (ap holds at), λ none. sees.starved_at t.machine.lock.places q ∙ ap is_counted at)
  inside_has q w Place.Out at g = (not_holder q (ap holds at), λ none. sees.starved_at t.machine.lock.places q ∙ ap is_counted at)
  inside_has q w Place.Clear at g = absurd (never_clears w.kind w.was g)
  inside_has q w Place.Holding at g = absurd (never_within w.kind w.was g)
  inside_has q w x at g = (not_holder q (ap holds at), no_drop w x g refl)

  has : (q : ℕ) (s : Stage) (x : Place) → place_of t.machine q ≡ x → goes_with s x ≡ true → HasItsOwn (view_of t) q (stands_as (answer_on t.machine.value (decision x)) s)
  has q (Outside Rest.Idle) Place.Out at g = (clear_at q (ap listed at) (ap is_counted at), not_holder q (ap holds at))
  has q (Outside Rest.Idle) _ at g = absurd (cc)
  has q (Outside Rest.Pending) Place.Out at g = (not_holder q (ap holds at), λ none. (clear_at q (ap listed at) (ap is_counted at)).1)
  has q (Outside Rest.Pending) Place.Ask at g = (not_holder q (ap holds at), λ none. sees.starved_at t.machine.lock.places q ∙ ap is_counted at)
  has q (Outside Rest.Pending) Place.AskStarved at g = (not_holder q (ap holds at), λ none. let one : listed (place_of t.machine q) ≡ 1 = ap listed at in absurd (omega (arith, none, laws.owners q, one)))
  has q (Outside Rest.Pending) _ at g = absurd (cc)
  has q (Outside Rest.Holding) Place.Holding at g = (clear_at q (ap listed at) (ap is_counted at), sees.holds_it t.machine.lock.places q laws.one_holder (ap holds at))
  has q (Outside Rest.Holding) _ at g = absurd (cc)
  has q (Outside Rest.Finished) x at g = absurd (cc)
  has q (Inside w) x at g = inside_has q w x at g
  has q Forgotten x at g = tt

  pub ends_well : (q : ℕ) (u : Within) (b : Answer) → standing_of (view_of t) q ≡ inside u (Some b) → Ends u.kind b
  ends_well q u b e = by_stage_or_past_at t.stages q (Ends u.kind b)
      (λ past. (let h : stands_as (verdict t.machine q) Forgotten ≡ inside u (Some b) = ap (stands_as (verdict t.machine q)) (sym past) ∙ (sym (stands_seen t q) ∙ e) in absurd (cc (h))))
      (λ inside. ends_at t.machine.value (stage_at t.stages q) (place_of t.machine q) u b (fits.stands q inside) (sym (stands_seen t q) ∙ e))

  pub each : (q : ℕ) → HasItsOwn (view_of t) q (standing_of (view_of t) q)
  each q = subst (HasItsOwn (view_of t) q) (sym (stands_seen t q)) (by_stage t.stages q (λ s. HasItsOwn (view_of t) q (stands_as (verdict t.machine q) s)) tt
      (λ inside. has q (stage_at t.stages q) (place_of t.machine q) refl (fits.stands q inside)))
