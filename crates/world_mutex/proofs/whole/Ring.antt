-- A poll of a party that hasn't waited for too long, while nobody is starved, notifies nobody if it is pending in the end.
use Rattle.world_mutex.proofs.Prelude.{◌≡◌, ℕ, ◌⊎◌, inl, inr, Bool, true, false, List, Option, Some, None, is_some, refl, ap, sym, ◌∙◌, subst, false≢true, true≢false, Entry, Answer, Call, Inputs, What, Begin, Go, Stage, Within, MarksNobody, inputs_of, Effect, nothing, changes, does, joins, asks, leaves, notifies, notifies_additionally, going_on, none_some, some_eq, beginning, Onward, stage_at, call_at, Table, End, LockCall, Next, Place, start_of, starved, is_counting, may_tell, HeedsClock, Change, ListName, for_the_lock, entries_after, gives_up, decision, decided_then, IsAllowed, Lock, place_at, is_counted, Guarded, knows, place_of, answer_by, is_try_kind, World, Steps}
use Rattle.world_base.proofs.Marks.{joined_marks, asked_marks, marks_more}
use Rattle.world_mutex.proofs.of_machine.laws.Seen as sees
use Rattle.world_mutex.proofs.of_machine.legal.Promised.{begins_uncounted, none_counted}
use Rattle.world_mutex.proofs.step.Acting.{Acting}
use Rattle.world_mutex.proofs.step.Acting as acting
use Rattle.world_mutex.proofs.step.Here.{BeginsOrGoes, same_roles}
use Rattle.world_mutex.proofs.whole.Whole.{from_turn, by_step}

-- ---- what an effect marks

effect_marks : (p : ℕ) (l : Lock) (d : Effect Change ListName) → IsAllowed p d l → may_tell (place_at l.places p) ≡ false → gives_up d ≡ false → MarksNobody p l.entries (entries_after p d l.entries)
effect_marks p l nothing may quiet keeps = λ q apart h. h
effect_marks p l (changes c) may quiet keeps = λ q apart h. h
effect_marks p l (does for_the_lock joins) may quiet keeps = joined_marks p l.entries
effect_marks p l (does for_the_lock asks) may quiet keeps = asked_marks p l.entries
effect_marks p l (does for_the_lock leaves) may quiet keeps = absurd (true≢false keeps)
effect_marks p l (does for_the_lock (notifies n)) may quiet keeps = absurd (false≢true (sym quiet ∙ may.1))
effect_marks p l (does for_the_lock (notifies_additionally n)) may quiet keeps = absurd may

-- ---- at places

decided_not_counting : (x : Place) → is_some (decision x) ≡ true → is_counting x ≡ false
decided_not_counting Place.PassOn h = absurd (cc h)
decided_not_counting (Place.Count b t) h = absurd (cc h)
decided_not_counting _ h = refl

-- an undecided party that isn't starved, nor about to be, notifies nobody
silent_at : (x : Place) → decision x ≡ None → is_counting x ≡ false → is_counted x ≡ false → may_tell x ≡ false
silent_at Place.PassOn d c s = absurd (cc c)
silent_at Place.PassOnListed d c s = absurd (cc s)
silent_at Place.RefuseNotifyMemory d c s = absurd (cc d)
silent_at Place.RefuseNotifyStarved d c s = absurd (cc d)
silent_at Place.ReleaseNotify d c s = absurd (cc d)
silent_at _ d c s = refl

begins_silent : (c : LockCall) (x from : Place) → start_of c x ≡ Some from → may_tell x ≡ false
begins_silent LockCall.Lock Place.Out from e = refl
begins_silent LockCall.Try Place.Out from e = refl
begins_silent LockCall.Poll Place.Out from e = refl
begins_silent LockCall.Poll Place.Ask from e = refl
begins_silent LockCall.Poll Place.AskStarved from e = refl
begins_silent LockCall.Release Place.Holding from e = refl
begins_silent LockCall.Cancel Place.Out from e = refl
begins_silent LockCall.Cancel Place.Ask from e = refl
begins_silent LockCall.Cancel Place.AskStarved from e = refl
begins_silent _ _ from e = absurd (none_some e)

never_pending : (x : Place) → decision x ≡ Some End.Pending → ⊥
never_pending Place.Leave e = cc e
never_pending (Place.Uncount b) e = cc e
never_pending Place.RefuseUncount e = cc e
never_pending (Place.RefuseLeave t) e = cc e
never_pending Place.RefuseNotifyMemory e = cc e
never_pending Place.RefuseNotifyStarved e = cc e
never_pending Place.Clear e = cc e
never_pending Place.ReleaseNotify e = cc e
never_pending Place.CancelUncount e = cc e
never_pending Place.CancelLeave e = cc e
never_pending Place.Out e = cc e
never_pending _ e = absurd (none_some e)

-- what was decided on another end isn't pending
record StaysDecided (a : Answer) (to : Place) : Type 0 where
  pub going : a ≡ Answer.Stepped → is_some (decision to) ≡ true
  pub never : a ≡ Answer.Pending → ⊥

decided_on : (trying : Bool) (v : ℕ) (n : Next) (to : Place) (e : End) (a : Answer) → decided_then n to ≡ Some e → (e ≡ End.Pending → ⊥) → a ≡ answer_by trying v n → StaysDecided a to
decided_on trying v (Next.Do b x) to e a h f is = record { going = λ s. ap is_some h; never = λ y. (let z = sym is ∙ y in cc z) }
decided_on true v (Next.End End.Got) to e a h f is = record { going = λ s. (let z = sym is ∙ s in absurd (cc z)); never = λ y. (let z = sym is ∙ y in cc z) }
decided_on false v (Next.End End.Got) to e a h f is = record { going = λ s. (let z = sym is ∙ s in absurd (cc z)); never = λ y. (let z = sym is ∙ y in cc z) }
decided_on trying v (Next.End End.Pending) to e a h f is = absurd (f (sym (some_eq h)))
decided_on trying v (Next.End End.NotFree) to e a h f is = record { going = λ s. (let z = sym is ∙ s in absurd (cc z)); never = λ y. (let z = sym is ∙ y in cc z) }
decided_on trying v (Next.End End.Granted) to e a h f is = record { going = λ s. (let z = sym is ∙ s in absurd (cc z)); never = λ y. (let z = sym is ∙ y in cc z) }
decided_on trying v (Next.End End.Waiting) to e a h f is = record { going = λ s. (let z = sym is ∙ s in absurd (cc z)); never = λ y. (let z = sym is ∙ y in cc z) }
decided_on trying v (Next.End End.GivenBack) to e a h f is = record { going = λ s. (let z = sym is ∙ s in absurd (cc z)); never = λ y. (let z = sym is ∙ y in cc z) }
decided_on trying v (Next.End (End.Refused r)) to e a h f is = record { going = λ s. (let z = sym is ∙ s in absurd (cc z)); never = λ y. (let z = sym is ∙ y in cc z) }

-- ---- along the poll

module _ (p : ℕ) (i : Inputs) (patient : i.starving ≡ false) (l0 : List (Entry ℕ)) where
  abbrev pub Kept : Table Guarded → Type 0
  Kept t = MarksNobody p l0 t.machine.lock.entries

  pub record Silent (t : Table Guarded) : Type 0 where
    pub unstarved : starved t.machine.lock ≡ 0
    pub uncounting : is_counting (place_of t.machine p) ≡ false
    pub kept : Kept t

  abbrev pub Calm : Table Guarded → Type 0
  Calm t = (is_some (decision (place_of t.machine p)) ≡ true) ⊎ Silent t

  abbrev pub Done : Answer → Table Guarded → Type 0
  Done b t = b ≡ Answer.Pending → Kept t

  abbrev OnTo : Answer → Table Guarded → Type 0
  OnTo = Onward Calm Done

  module _ (t u : Table Guarded) (what : What) (a : Answer) (w : Within) (k : Acting t u (record { party = p; what = what }) a w) where
    abbrev from : Place
    from = k.carries.from

    abbrev n : Next
    n = k.carries.next

    was_decided : (e : End) → decision from ≡ Some e → OnTo a u
    was_decided e is =
        let so = decided_on (is_try_kind w.kind) t.machine.value n (place_of u.machine p) e a (k.carries.carried.legal.kept e is).0 (λ y. never_pending from (is ∙ ap Some y)) k.carries.answer in
        record { going = λ s. inl (so.going s); ended = λ s y. absurd (so.never y) }

    was_open : decision from ≡ None → (inputs_of what).starving ≡ false → starved t.machine.lock ≡ 0 → is_counting from ≡ false → may_tell (place_of t.machine p) ≡ false → Kept t → OnTo a u
    was_open midway still none not_next quiet kept =
        let C : Bool → Type 0 = λ b. HeedsClock b from n in
        let it = none_counted (inputs_of what).memory p from n t.machine.lock u.machine.lock k.carries.carried.acts (subst C still k.carries.carried.clock) (acting.there t u (record { party = p; what = what }) a w k)
        (same_roles (stage_at t.stages p) w (place_of t.machine p) from k.here.begins) none not_next in
        let legal = k.carries.carried.legal in
        let marks : MarksNobody p t.machine.lock.entries u.machine.lock.entries = (let M : List (Entry ℕ) → Type 0 = MarksNobody p t.machine.lock.entries in subst M (sym legal.entries) (effect_marks p t.machine.lock legal.effect legal.allowed quiet (legal.holds_on midway))) in
        let more = marks_more p l0 t.machine.lock.entries u.machine.lock.entries kept marks in
        record { going = λ s. inr (record { unstarved = it.0; uncounting = it.1; kept = more }); ended = λ s y. more }

    pub acted : (inputs_of what).starving ≡ false → (is_some (decision from) ≡ true) ⊎ ((starved t.machine.lock ≡ 0) × (is_counting from ≡ false) × (decision from ≡ None → may_tell (place_of t.machine p) ≡ false) × Kept t) → OnTo a u
    acted still h = by_decision (decision from) refl h where
      by_decision : (o : Option End) → decision from ≡ o → (is_some (decision from) ≡ true) ⊎ ((starved t.machine.lock ≡ 0) × (is_counting from ≡ false) × (decision from ≡ None → may_tell (place_of t.machine p) ≡ false) × Kept t) → OnTo a u
      by_decision (Some e) is h = was_decided e is
      by_decision None is (inl some) = absurd (cc (sym (ap is_some is) ∙ some))
      by_decision None is (inr h) = was_open is still h.0 h.1 (h.2 is) h.3

  ends_so : (b : Answer) (x : Table Guarded) → (b ≡ Answer.Stepped → ⊥) → (b ≡ Answer.Pending → ⊥) → OnTo b x
  ends_so b x f g = record { going = λ s. absurd (f s); ended = λ s y. absurd (g y) }

  steps : (x : World) (what : What) (a : Answer) (v : World) → (inputs_of what).starving ≡ false
      → ((w : Within) (k : Acting x.behind v.behind (record { party = p; what = what }) a w) → (is_some (decision k.carries.from) ≡ true) ⊎ ((starved x.behind.machine.lock ≡ 0) × (is_counting k.carries.from ≡ false) × (decision k.carries.from ≡ None → may_tell (place_of x.behind.machine p) ≡ false) × Kept x.behind))
      → Steps x (record { party = p; what = what }) a v → Onward (λ y. Calm y.behind) (λ b y. Done b y.behind) a v
  steps x what a v still h s =
      let o = by_step x.behind v.behind (record { party = p; what = what }) a s.did.stood.laws s.did.stood.fits s.did.stands.laws s.did.stands.fits OnTo
      (ends_so _ x.behind (λ e. cc e) (λ e. cc e)) (ends_so _ x.behind (λ e. cc e) (λ e. cc e)) (λ n e. ends_so _ v.behind (λ y. cc y) (λ y. cc y))
      (λ w k. acted x.behind v.behind what a w k still (h w k)) s.did.step in
      record { going = o.going; ended = o.ended }

  pub onward : (x : World) (a : Answer) (v : World) → Calm x.behind → Steps x (going_on p i) a v → Onward (λ y. Calm y.behind) (λ b y. Done b y.behind) a v
  onward x a v g s = steps x (Go i) a v patient (λ w k. so w k g) s where
    so : (w : Within) (k : Acting x.behind v.behind (going_on p i) a w) → Calm x.behind → (is_some (decision k.carries.from) ≡ true) ⊎ ((starved x.behind.machine.lock ≡ 0) × (is_counting k.carries.from ≡ false) × (decision k.carries.from ≡ None → may_tell (place_of x.behind.machine p) ≡ false) × Kept x.behind)
    so w k (inl some) = let at = from_turn x.behind v.behind (going_on p i) a w k in inl (ap (λ y. is_some (decision y)) (sym at) ∙ some)
    so w k (inr h) =
        let at = from_turn x.behind v.behind (going_on p i) a w k in
        let fresh : is_counted (place_of x.behind.machine p) ≡ false = sym (sees.starved_at x.behind.machine.lock.places p) ∙ sees.none_starved x.behind.machine.lock.places p h.unstarved in
        inr (h.unstarved, ap is_counting (sym at) ∙ h.uncounting, λ none_yet. silent_at (place_of x.behind.machine p) (ap decision at ∙ none_yet) h.uncounting fresh, h.kept)

  pub first : (c : Call) (x : World) → starved x.behind.machine.lock ≡ 0 → Kept x.behind → (a : Answer) (v : World) → Steps x (beginning p c i) a v → Onward (λ y. Calm y.behind) (λ b y. Done b y.behind) a v
  first c x none kept a v s = steps x (Begin c i) a v patient (λ w k. begun (stage_at x.behind.stages p) w (place_of x.behind.machine p) k.carries.from k.call k.here.begins) s where
    begun : (s : Stage) (w : Within) (y z : Place) → call_at knows s (Begin c i) ≡ Some w → BeginsOrGoes s w y z → (is_some (decision z) ≡ true) ⊎ ((starved x.behind.machine.lock ≡ 0) × (is_counting z ≡ false) × (decision z ≡ None → may_tell y ≡ false) × Kept x.behind)
    begun s w y z e (inl b) = inr (none, begins_uncounted b.0 y z b.1, λ none_yet. begins_silent b.0 y z b.1, kept)
    begun s w y z e (inr g) = let C : Stage → Type 0 = λ z. call_at knows z (Begin c i) ≡ Some w in absurd (none_some (subst C g.0 e))
