-- What one action on the turn does and decides, as callers see it.
use Rattle.world_rwlock.proofs.Prelude.{◌≡◌, ℕ, ◌==◌, ◌||◌, not, inl, inr, Bool, true, false, List, map, Option, Some, None, refl, arith, ap, sym, ◌∙◌, subst, false≢true, Answer, Move, Refusal, Stage, inputs_of, refused, Effect, changes, does, joins, TurnCourse, is_out, is_taking, Takes, Tries, Releases, Cancels, holds, decision, LockCall, TurnStep, End as TurnEnd, turn_at, holder_of, decided_then, IsReason, decided_by, out_free, waiting_free, releasing_free, releasing_decided, cancelling_decided, IsPolls, taking_decided, holding_holds, Found, Turn, Ending, Purpose, Place, action_of, next_of, place_after, after_lock, after_turn, in_no_writer, in_no_readers, fits_turn, OnTurn, LockBegins, LockGoesOn, RwLock, IsRwLock, Change, entries_after, gives_up, ListName, for_the_turn, for_no_readers, for_no_writer, MayMeet, World, list_of, told_in, HasTurn, sought_at, passing, is_reading, verdict, verdict_until, refused_by, seen, is_counted, is_for_turn, sought_by, waiting_listed}
use Rattle.std.proofs.Math.Seq.{map-set_same}
use Rattle.lock_event.specs.declared.event.Mark.TheVariants.{Waiting}
use Rattle.world_mutex.specs.machine.Course as course
use Rattle.world_mutex.specs.machine.Effects as mutex
use Rattle.world_mutex.proofs.of_machine.callers.Holders as sees
use Rattle.world_rwlock.proofs.of_machine.stages.Leads.{Led, Ends, steps_in_turn}
use Rattle.world_rwlock.proofs.step.Rows.{verdict_then, Room, keeps_what_it_has, TurnRow, turn_row}
use Rattle.world_rwlock.proofs.step.Owns as owns
use Rattle.world_rwlock.proofs.step.Facts.{WaitsIn, CauseAs, Fitting, JudgedAs, Facts, Known}
use Rattle.world_rwlock.proofs.step.TurnSteps.{TurnDid, TurnMoved, moved, left}
use Rattle.world_mutex.proofs.of_machine.callers.Rosters.{is_zero}
use Rattle.world_rwlock.proofs.table.Views as view

-- ---- what a step of a poll decides there decides the call, but that the turn was got

abbrev pub poll_says : Option TurnEnd → Option Answer
poll_says (Some TurnEnd.Pending) = Some Answer.Pending
poll_says (Some (TurnEnd.Refused r)) = Some (refused r)
poll_says _ = None

says_refused : (o : Option TurnEnd) → IsPolls o → refused_by o ≡ poll_says o
says_refused o (inl e) = rw e refl
says_refused o (inr (inl e)) = rw e refl
says_refused o (inr (inr h)) = rw h.1 refl

never_pending : (o : Option TurnEnd) → IsPolls o → o ≡ Some TurnEnd.Pending → ⊥
never_pending o (inl e) h = absurd (cc)
never_pending o (inr (inl e)) h = absurd (cc)
never_pending o (inr (inr r)) h = let e = r.1 in absurd (cc)

now_polled : (v : ℕ) (u : TurnCourse) (pr : Purpose) (tn : TurnStep) → Takes tn u → verdict_then v u (after_lock pr (Turn tn)) ≡ poll_says (decided_then tn u)
now_polled v u pr TurnStep.More h = says_refused (decision u) (taking_decided u h)
now_polled v u Purpose.UpgradableRead (TurnStep.End TurnEnd.Got) h = refl
now_polled v u Purpose.Write (TurnStep.End TurnEnd.Got) h = refl
now_polled v u pr (TurnStep.End TurnEnd.Pending) h = refl
now_polled v u pr (TurnStep.End (TurnEnd.Refused Refusal.Memory)) h = refl
now_polled v u pr (TurnStep.End (TurnEnd.Refused Refusal.Starved)) h = refl
now_polled v u pr (TurnStep.End _) h = absurd h

now_cancelled : (v : ℕ) (u : TurnCourse) (tn : TurnStep) → Cancels tn u → (verdict_then v u (after_turn Place.CancelTurn (Turn tn)) ≡ Some Answer.GivenBack) × (verdict_then v u (after_turn Place.CancellingTurn (Turn tn)) ≡ Some Answer.GivenBack)
now_cancelled v u TurnStep.More h = (refl, refl)
now_cancelled v u (TurnStep.End TurnEnd.GivenBack) h = (refl, refl)
now_cancelled v u (TurnStep.End _) h = absurd h

now_given_back : (v : ℕ) (u : TurnCourse) (e : _) → (verdict_then v u (after_turn (Place.ReleaseTurn e) (Turn (TurnStep.End TurnEnd.GivenBack))) ≡ Some (verdict_until e)) × (verdict_then v u (after_turn (Place.ReleasingTurn e) (Turn (TurnStep.End TurnEnd.GivenBack))) ≡ Some (verdict_until e))
now_given_back v u Ending.GivenBack = (refl, refl)
now_given_back v u (Ending.NotFree q) = (refl, refl)
now_given_back v u Ending.RefuseReaders = (refl, refl)
now_given_back v u Ending.RefuseMemory = (refl, refl)
now_given_back v u Ending.Reading = (refl, refl)
now_given_back v u Ending.NotifyReaders = (refl, refl)

now_released : (v : ℕ) (u : TurnCourse) (e : _) (tn : TurnStep) → Releases tn u → verdict_then v u (after_turn (Place.ReleaseTurn e) (Turn tn)) ≡ Some (verdict_until e)
now_released v u e TurnStep.More h = refl
now_released v u e (TurnStep.End TurnEnd.GivenBack) h = (now_given_back v u e).0
now_released v u e (TurnStep.End _) h = absurd h

now_releasing : (v : ℕ) (u : TurnCourse) (e : _) (tn : TurnStep) → Ends tn u → verdict_then v u (after_turn (Place.ReleasingTurn e) (Turn tn)) ≡ Some (verdict_until e)
now_releasing v u e (TurnStep.End TurnEnd.GivenBack) h = (now_given_back v u e).1
now_releasing v u e (TurnStep.End _) h = absurd h
now_releasing v u e TurnStep.More h = absurd h

released_free : (u : TurnCourse) (tn : TurnStep) → Releases tn u → holds u ≡ 0
released_free u TurnStep.More h = releasing_free u h
released_free u (TurnStep.End TurnEnd.GivenBack) h = out_free u (ap is_out h)
released_free u (TurnStep.End _) h = absurd h

-- a poll that isn't decided hasn't the turn
undecided_free : (t : TurnCourse) → is_taking t ≡ true → decision t ≡ None → holds t ≡ 0
undecided_free (course.waiting starved) h n = refl
undecided_free (course.taking course.undecided starved stands told) h n = refl
undecided_free (course.taking course.called starved stands told) h n = refl
undecided_free (course.taking course.counting starved stands told) h n = refl
undecided_free (course.taking course.has_lock starved stands told) h n = absurd (cc)
undecided_free (course.taking (course.gives_up refusal) starved stands told) h n = absurd (cc)
undecided_free _ h n = absurd (false≢true h)

-- whoever is refused on its way to the turn seeks what needs it
meets_turn : (w : World) (p : ℕ) (pr : Purpose) (u : TurnCourse) (tn : TurnStep) → Takes tn u → (r : Refusal) → decided_then tn u ≡ Some (TurnEnd.Refused r) → (HasTurn w.state.turn p → ⊥) → MayMeet (sought_at (place_after (after_lock pr (Turn tn)))) w p Refusal.Starved
meets_turn w p Purpose.UpgradableRead u TurnStep.More h r e out = out
meets_turn w p Purpose.Write u TurnStep.More h r e out = out
meets_turn w p Purpose.UpgradableRead u (TurnStep.End TurnEnd.Got) h r e out = absurd (cc)
meets_turn w p Purpose.Write u (TurnStep.End TurnEnd.Got) h r e out = absurd (cc)
meets_turn w p Purpose.UpgradableRead u (TurnStep.End TurnEnd.Pending) h r e out = absurd (cc)
meets_turn w p Purpose.Write u (TurnStep.End TurnEnd.Pending) h r e out = absurd (cc)
meets_turn w p Purpose.UpgradableRead u (TurnStep.End (TurnEnd.Refused Refusal.Memory)) h r e out = out
meets_turn w p Purpose.Write u (TurnStep.End (TurnEnd.Refused Refusal.Memory)) h r e out = out
meets_turn w p Purpose.UpgradableRead u (TurnStep.End (TurnEnd.Refused Refusal.Starved)) h r e out = out
meets_turn w p Purpose.Write u (TurnStep.End (TurnEnd.Refused Refusal.Starved)) h r e out = out
meets_turn w p pr u (TurnStep.End _) h r e out = absurd h

-- what an effect gives up, and that a join found room
room_of : (memory : Bool) (d : Effect Change ListName) → ((list : ListName) → d ≡ does list joins → memory ≡ true) → Room memory d
room_of memory (does list joins) h = h list refl
room_of memory _ h = tt

never_given : (b c : Bool) → (b ≡ true → c ≡ true) → c ≡ false → b ≡ false
never_given false c h e = refl
never_given true c h e = absurd (false≢true (sym e ∙ h refl))

released_given : (d : Effect mutex.Change mutex.ListName) → mutex.gives_up d ≡ false → mutex.is_release d ≡ false
released_given (changes mutex.releases) e = absurd (cc)
released_given _ e = refl

kept_so : (o : Option Answer) (d : Effect Change ListName) → gives_up d ≡ false → keeps_what_it_has o d ≡ true
kept_so o d e = rw e refl

judged_so : (b : Answer) (d : Effect Change ListName) → keeps_what_it_has (Some b) d ≡ true
judged_so b d = or_true (not (gives_up d)) where
  or_true : (c : Bool) → c || true ≡ true
  or_true true = refl
  or_true false = refl

module _ (m : Move) (l k : RwLock) (ss : List Stage) (opening : ℕ) (ts : List Stage) (v : ℕ) (afterwards : IsRwLock k) where
  abbrev p : ℕ
  p = m.party

  abbrev t : TurnCourse
  t = turn_at l.turn.courses p

  abbrev u : TurnCourse
  u = turn_at k.turn.courses p

  abbrev memory : Bool
  memory = (inputs_of m.what).memory

  abbrev starving : Bool
  starving = (inputs_of m.what).starving

  abbrev old : World
  old = seen l ss opening v

  abbrev new : World
  new = seen k ts opening v

  abbrev Judges : Place → Place → Effect Change ListName → Option Answer → Option Answer → Type 0
  Judges x to d was now = JudgedAs m old k new v x to d was now

  facts : (x : Place) (f : Found) (c : Known m l k ss v x f) → TurnRow v x f → (decided : Option TurnEnd) (n : TurnStep) (did : TurnDid memory p decided n l.turn k.turn) (mv : TurnMoved p l k old did.legal.effect) → keeps_what_it_has (verdict v x t) mv.effect ≡ true → k.no_writer ≡ l.no_writer → k.no_readers ≡ l.no_readers
      → Judges x (place_after (next_of x f)) mv.effect (verdict v x t) (verdict_then v u (next_of x f)) → Facts m l k ss opening ts v x (next_of x f)
  facts x f c row decided n did mv kept_on nw nr judged = record {
    effect = mv.effect;
    readers = ap (map is_reading) c.places ∙ (map-set_same is_reading l.places p (place_after (next_of x f)) Place.Out (row.reading ∙ ap (λ (n : ℕ). n == 1) c.same.reading) ∙ sym (mv.readers (map is_reading l.places)));
    turn = mv.turn;
    starved = mv.starved;
    valued = mv.valued v;
    allowed = mv.allowed;
    lists = by_list;
    starved_limit = did.legal.limit;
    others = did.legal.others;
    judged = judged;
    room = room_of memory mv.effect (λ list e. did.legal.found_memory mutex.for_the_lock (mv.joining list e));
    holds_on = kept_on;
    over = row.over;
    upgrade = row.upgrade;
    refused = row.refused;
  } where
    by_list : (list : ListName) → list_of new list ≡ entries_after p mv.effect list (list_of old list)
    by_list for_the_turn = mv.turn_list
    by_list for_no_readers = nr ∙ sym (mv.no_readers l.no_readers)
    by_list for_no_writer = nw ∙ sym (mv.no_writer l.no_writer)

  -- a refusal in the turn has its cause
  cause : (x : Place) (f : Found) (c : Known m l k ss v x f) → in_no_writer x ≡ 0 → in_no_readers x ≡ 0 → k.no_writer ≡ l.no_writer → k.no_readers ≡ l.no_readers → (HasTurn old.state.turn p → ⊥) → (r : Refusal) → IsReason memory p l.turn k.turn (TurnEnd.Refused r) → CauseAs m old new r
  cause x f c ew er nw nr out Refusal.Memory h = (h.0, omega (arith, h.1, c.laws.owners_no_writer p, c.laws.owners_no_readers p, c.same.standing_w, c.same.standing_r, ew, er), by_list, (λ e. out (owns.has_as old.state.turn p passing e))) where
    by_list : (list : ListName) → list_of new list ≡ list_of old list
    by_list for_the_turn = h.2
    by_list for_no_readers = nr
    by_list for_no_writer = nw
  cause x f c ew er nw nr out Refusal.Starved h = (sees.how_many_counted l.turn.courses ∙ h.0, sees.starved_at l.turn.courses p ∙ is_zero (is_counted t) (sees.counted_bit t ∙ h.1), h.5)
  cause x f c ew er nw nr out Refusal.Readers h = absurd h
  cause x f c ew er nw nr out Refusal.Permits h = absurd h
  cause x f c ew er nw nr out Refusal.Generations h = absurd h
  cause x f c ew er nw nr out Refusal.Finished h = absurd h

  waits_then : (pr : Purpose) (tn : TurnStep) → Takes tn u → decided_then tn u ≡ Some TurnEnd.Pending → told_in k.turn.entries p ≡ Some Waiting → WaitsIn k p (place_after (after_lock pr (Turn tn)))
  waits_then pr TurnStep.More h e w = absurd (never_pending (decision u) (taking_decided u h) e)
  waits_then pr (TurnStep.End TurnEnd.Pending) h e w = w
  waits_then pr (TurnStep.End TurnEnd.Got) h e w = absurd (cc)
  waits_then pr (TurnStep.End TurnEnd.NotFree) h e w = absurd h
  waits_then pr (TurnStep.End TurnEnd.Granted) h e w = absurd h
  waits_then pr (TurnStep.End TurnEnd.Waiting) h e w = absurd h
  waits_then pr (TurnStep.End TurnEnd.GivenBack) h e w = absurd h
  waits_then pr (TurnStep.End (TurnEnd.Refused r)) h e w = absurd (cc)

  -- a poll that wasn't decided there
  undecided : (x to : Place) (d : Effect Change ListName) (o : Option TurnEnd) → ((e : TurnEnd) → o ≡ Some e → IsReason memory p l.turn k.turn e) → ((r : Refusal) → IsReason memory p l.turn k.turn (TurnEnd.Refused r) → CauseAs m old new r)
      → (o ≡ Some TurnEnd.Pending → told_in k.turn.entries p ≡ Some Waiting → WaitsIn k p to) → ((r : Refusal) → o ≡ Some (TurnEnd.Refused r) → Fitting old p x to d r) → Judges x to d None (poll_says o)
  undecided x to d None why causes waits idle = tt
  undecided x to d (Some TurnEnd.Got) why causes waits idle = tt
  undecided x to d (Some TurnEnd.NotFree) why causes waits idle = tt
  undecided x to d (Some TurnEnd.Granted) why causes waits idle = tt
  undecided x to d (Some TurnEnd.Waiting) why causes waits idle = tt
  undecided x to d (Some TurnEnd.GivenBack) why causes waits idle = tt
  undecided x to d (Some TurnEnd.Pending) why causes waits idle = waits refl (why TurnEnd.Pending refl)
  undecided x to d (Some (TurnEnd.Refused r)) why causes waits idle = (r, refl, causes r (why (TurnEnd.Refused r) refl), idle r refl)

  polled : (x : Place) (pr : Purpose) (tn : TurnStep) (decided : Option TurnEnd) (did : TurnDid memory p decided tn l.turn k.turn) (mv : TurnMoved p l k old did.legal.effect) → IsPolls decided → Takes tn u → ((r : Refusal) → decided ≡ None → IsReason memory p l.turn k.turn (TurnEnd.Refused r) → CauseAs m old new r) → ((r : Refusal) → decided ≡ None → decided_then tn u ≡ Some (TurnEnd.Refused r) → Fitting old p x (place_after (after_lock pr (Turn tn))) mv.effect r)
      → Judges x (place_after (after_lock pr (Turn tn))) mv.effect (refused_by decided) (verdict_then v u (after_lock pr (Turn tn)))
  polled x pr tn decided did mv dec takes causes idle =
      let to : Place = place_after (after_lock pr (Turn tn)) in
      let P : Option Answer → Type 0 = λ o. Judges x to mv.effect (refused_by decided) o in
      subst P (sym (now_polled v u pr tn takes)) (by_decided dec) where
        by_decided : IsPolls decided → Judges x (place_after (after_lock pr (Turn tn))) mv.effect (refused_by decided) (poll_says (decided_then tn u))
        by_decided (inl e) =
            let Q : Option TurnEnd → Type 0 = λ o. Judges x (place_after (after_lock pr (Turn tn))) mv.effect (refused_by o) (poll_says (decided_then tn u)) in
            subst Q (sym e) (undecided x (place_after (after_lock pr (Turn tn))) mv.effect (decided_then tn u) (λ b y. did.legal.reason b e y) (λ r why. causes r e why) (waits_then pr tn takes) (λ r y. idle r e y))
        by_decided (inr (inl e)) =
            let kept = did.legal.kept TurnEnd.Got e in
            rw (e, kept.0) tt
        by_decided (inr (inr h)) =
            let kept = did.legal.kept (TurnEnd.Refused h.0) h.1 in
            rw (h.1, kept.0) (refl, mv.parting kept.1)

  tried : (pr : Purpose) (tn : TurnStep) (d : Effect Change ListName) → Tries tn u → Judges (Place.TryTurn pr) (place_after (after_turn (Place.TryTurn pr) (Turn tn))) d None (verdict_then v u (after_turn (Place.TryTurn pr) (Turn tn)))
  tried Purpose.UpgradableRead (TurnStep.End TurnEnd.Got) d h = tt
  tried Purpose.Write (TurnStep.End TurnEnd.Got) d h = tt
  tried pr (TurnStep.End TurnEnd.NotFree) d h = tt
  tried pr (TurnStep.End _) d h = absurd h
  tried pr TurnStep.More d h = absurd h

  -- whoever isn't decided there, or has the turn, keeps what it has
  on_hold : (decided : Option TurnEnd) (n : TurnStep) (did : TurnDid memory p decided n l.turn k.turn) (mv : TurnMoved p l k old did.legal.effect) → IsPolls decided → keeps_what_it_has (refused_by decided) mv.effect ≡ true
  on_hold decided n did mv (inl e) = kept_so (refused_by decided) mv.effect (never_given (gives_up mv.effect) (mutex.is_release did.legal.effect) mv.giving_up (released_given did.legal.effect (did.legal.holds_on e)))
  on_hold decided n did mv (inr (inl e)) = kept_so (refused_by decided) mv.effect (never_given (gives_up mv.effect) (mutex.is_release did.legal.effect) mv.giving_up (did.legal.keeps_lock e))
  on_hold decided n did mv (inr (inr h)) = let P : Option TurnEnd → Type 0 = λ o. keeps_what_it_has (refused_by o) mv.effect ≡ true in subst P (sym h.1) (judged_so (refused h.0) mv.effect)

  -- a refusal for memory on the way does nothing else
  idle_there : (pr : Purpose) (n : TurnStep) (did : TurnDid memory p (decision t) n l.turn k.turn) (mv : TurnMoved p l k old did.legal.effect) (r : Refusal) → decision t ≡ None → decided_then n u ≡ Some (TurnEnd.Refused r) → Takes n u → (HasTurn old.state.turn p → ⊥) → Fitting old p (Place.TakeTurn pr) (place_after (after_lock pr (Turn n))) mv.effect r
  idle_there pr n did mv Refusal.Memory e h takes out = (mv.idle (did.legal.refused_idly Refusal.Memory e h), refl)
  idle_there pr n did mv Refusal.Starved e h takes out = (mv.idle (did.legal.refused_idly Refusal.Starved e h), refl, meets_turn old p pr u n takes Refusal.Starved h out)
  idle_there pr n did mv Refusal.Readers e h takes out = absurd (did.legal.reason (TurnEnd.Refused Refusal.Readers) e h)
  idle_there pr n did mv _ e h takes out = tt

  -- whoever is in a poll that takes the turn wants it
  wants_turn : (pr : Purpose) (f : Found) → Known m l k ss v (Place.TakeTurn pr) f → is_for_turn (sought_by old p) ≡ true
  wants_turn pr f c = ap is_for_turn (view.seeks_at l.places p ∙ ap sought_at (c.midway refl)) ∙ by_purpose pr where
    by_purpose : (q : Purpose) → is_for_turn (sought_at (Place.TakeTurn q)) ≡ true
    by_purpose Purpose.UpgradableRead = refl
    by_purpose Purpose.Write = refl

  begun : (c : LockCall) (n : TurnStep) → LockBegins memory starving p c n l.turn k.turn → TurnDid memory p (decided_by c) n l.turn k.turn
  begun c n b = record { legal = b.legal; fair = b.fair }

  gone_on : (n : TurnStep) → LockGoesOn memory starving p n l.turn k.turn → TurnDid memory p (decision t) n l.turn k.turn
  gone_on n b = record { legal = b.legal; fair = b.fair }

  pub on_turn : (x : Place) (f : Found) → Known m l k ss v x f → steps_in_turn x ≡ true → OnTurn memory starving p (action_of x) f l.turn k.turn → Led x f u → fits_turn x t ≡ true → Facts m l k ss opening ts v x (next_of x f)
  on_turn (Place.EnterTurn pr) (Turn tn) c s o e fit =
      let row = turn_row v u (Place.EnterTurn pr) (Turn tn) s e in
      let did = begun LockCall.Lock tn o in
      let mv = moved m l k ss opening ts v (Place.EnterTurn pr) (Turn tn) c afterwards row.sharing None tn did (inl (o.at_once.looks refl).1) refl in
      facts (Place.EnterTurn pr) (Turn tn) c row None tn did mv (on_hold None tn did mv (inl refl)) c.no_writer c.no_readers (polled (Place.EnterTurn pr) pr tn None did mv (inl refl) e (λ r n. cause (Place.EnterTurn pr) (Turn tn) c refl refl c.no_writer c.no_readers (owns.no_turn l ss opening v c.laws c.fits p (out_free t fit)) r) (λ r n y. absurd (o.unrefused r y)))
  on_turn (Place.EnterTurn pr) _ c s o e fit = absurd o
  on_turn (Place.WaitTurn pr) (Turn tn) c s o e fit =
      let row = turn_row v u (Place.WaitTurn pr) (Turn tn) s e in
      let did = begun LockCall.Poll tn o in
      let mv = moved m l k ss opening ts v (Place.WaitTurn pr) (Turn tn) c afterwards row.sharing None tn did (inl (o.at_once.listed refl (omega (arith, c.laws.turn.owners p, waiting_listed t fit))).starved) refl in
      facts (Place.WaitTurn pr) (Turn tn) c row None tn did mv (on_hold None tn did mv (inl refl)) c.no_writer c.no_readers (polled (Place.WaitTurn pr) pr tn None did mv (inl refl) e (λ r n. cause (Place.WaitTurn pr) (Turn tn) c refl refl c.no_writer c.no_readers (owns.no_turn l ss opening v c.laws c.fits p (waiting_free t fit)) r) (λ r n y. absurd (o.unrefused r y)))
  on_turn (Place.WaitTurn pr) _ c s o e fit = absurd o
  on_turn (Place.TakeTurn pr) (Turn tn) c s o e fit =
      let row = turn_row v u (Place.TakeTurn pr) (Turn tn) s e in
      let did = gone_on tn o in
      let mv = moved m l k ss opening ts v (Place.TakeTurn pr) (Turn tn) c afterwards row.sharing (decision t) tn did (inr (inr (wants_turn pr (Turn tn) c))) refl in
      facts (Place.TakeTurn pr) (Turn tn) c row (decision t) tn did mv (on_hold (decision t) tn did mv (taking_decided t fit)) c.no_writer c.no_readers (polled (Place.TakeTurn pr) pr tn (decision t) did mv (taking_decided t fit) e (λ r n. cause (Place.TakeTurn pr) (Turn tn) c refl refl c.no_writer c.no_readers (owns.no_turn l ss opening v c.laws c.fits p (undecided_free t fit n)) r) (λ r n y. idle_there pr tn did mv r n y e (owns.no_turn l ss opening v c.laws c.fits p (undecided_free t fit n))))
  on_turn (Place.TakeTurn pr) _ c s o e fit = absurd o
  on_turn (Place.TryTurn pr) (Turn tn) c s o e fit =
      let row = turn_row v u (Place.TryTurn pr) (Turn tn) s e in
      let did = begun LockCall.Try tn o in
      let mv = moved m l k ss opening ts v (Place.TryTurn pr) (Turn tn) c afterwards row.sharing None tn did (inl (o.at_once.looks refl).1) refl in
      facts (Place.TryTurn pr) (Turn tn) c row None tn did mv (on_hold None tn did mv (inl refl)) c.no_writer c.no_readers (tried pr tn mv.effect e)
  on_turn (Place.TryTurn pr) _ c s o e fit = absurd o
  on_turn Place.CancelTurn (Turn tn) c s o e fit =
      let row = turn_row v u Place.CancelTurn (Turn tn) s e in
      let did = begun LockCall.Cancel tn o in
      let mv = moved m l k ss opening ts v Place.CancelTurn (Turn tn) c afterwards row.sharing (Some TurnEnd.GivenBack) tn did (inr (inl (did.legal.kept TurnEnd.GivenBack refl).1)) refl in
      facts Place.CancelTurn (Turn tn) c row (Some TurnEnd.GivenBack) tn did mv (judged_so Answer.GivenBack mv.effect) c.no_writer c.no_readers ((now_cancelled v u tn e).0, mv.parting (did.legal.kept TurnEnd.GivenBack refl).1)
  on_turn Place.CancelTurn _ c s o e fit = absurd o
  on_turn Place.CancellingTurn (Turn tn) c s o e fit =
      let row = turn_row v u Place.CancellingTurn (Turn tn) s e in
      let did = gone_on tn o in
      let mv = moved m l k ss opening ts v Place.CancellingTurn (Turn tn) c afterwards row.sharing (decision t) tn did (inr (inl (did.legal.kept TurnEnd.GivenBack (cancelling_decided t fit)).1)) refl in
      facts Place.CancellingTurn (Turn tn) c row (decision t) tn did mv (judged_so Answer.GivenBack mv.effect) c.no_writer c.no_readers ((now_cancelled v u tn e).1, mv.parting (did.legal.kept TurnEnd.GivenBack (cancelling_decided t fit)).1)
  on_turn Place.CancellingTurn _ c s o e fit = absurd o
  on_turn (Place.ReleaseTurn Ending.Reading) (Turn tn) c s o e fit =
      let row = turn_row v u (Place.ReleaseTurn Ending.Reading) (Turn tn) s e in
      let did = begun LockCall.Release tn o in
      let held : holder_of l.turn ≡ Some p = sees.holds_it l.turn.courses p c.laws.turn.one_holder (holding_holds t fit) in
      let mv = left m l k ss opening ts v (Place.ReleaseTurn Ending.Reading) (Turn tn) c afterwards row.sharing (Some TurnEnd.GivenBack) tn did refl held (released_free u tn e) in
      facts (Place.ReleaseTurn Ending.Reading) (Turn tn) c row (Some TurnEnd.GivenBack) tn did mv (judged_so (verdict_until Ending.Reading) mv.effect) c.no_writer c.no_readers (now_released v u Ending.Reading tn e, mv.parting (did.legal.kept TurnEnd.GivenBack refl).1)
  on_turn (Place.ReleaseTurn Ending.GivenBack) (Turn tn) c s o e fit =
      let row = turn_row v u (Place.ReleaseTurn Ending.GivenBack) (Turn tn) s e in
      let did = begun LockCall.Release tn o in
      let mv = moved m l k ss opening ts v (Place.ReleaseTurn Ending.GivenBack) (Turn tn) c afterwards row.sharing (Some TurnEnd.GivenBack) tn did (inr (inl (did.legal.kept TurnEnd.GivenBack refl).1)) refl in
      facts (Place.ReleaseTurn Ending.GivenBack) (Turn tn) c row (Some TurnEnd.GivenBack) tn did mv (judged_so (verdict_until Ending.GivenBack) mv.effect) c.no_writer c.no_readers (now_released v u Ending.GivenBack tn e, mv.parting (did.legal.kept TurnEnd.GivenBack refl).1)
  on_turn (Place.ReleaseTurn (Ending.NotFree q)) (Turn tn) c s o e fit =
      let row = turn_row v u (Place.ReleaseTurn (Ending.NotFree q)) (Turn tn) s e in
      let did = begun LockCall.Release tn o in
      let mv = moved m l k ss opening ts v (Place.ReleaseTurn (Ending.NotFree q)) (Turn tn) c afterwards row.sharing (Some TurnEnd.GivenBack) tn did (inr (inl (did.legal.kept TurnEnd.GivenBack refl).1)) refl in
      facts (Place.ReleaseTurn (Ending.NotFree q)) (Turn tn) c row (Some TurnEnd.GivenBack) tn did mv (judged_so (verdict_until (Ending.NotFree q)) mv.effect) c.no_writer c.no_readers (now_released v u (Ending.NotFree q) tn e, mv.parting (did.legal.kept TurnEnd.GivenBack refl).1)
  on_turn (Place.ReleaseTurn Ending.RefuseReaders) (Turn tn) c s o e fit =
      let row = turn_row v u (Place.ReleaseTurn Ending.RefuseReaders) (Turn tn) s e in
      let did = begun LockCall.Release tn o in
      let mv = moved m l k ss opening ts v (Place.ReleaseTurn Ending.RefuseReaders) (Turn tn) c afterwards row.sharing (Some TurnEnd.GivenBack) tn did (inr (inl (did.legal.kept TurnEnd.GivenBack refl).1)) refl in
      facts (Place.ReleaseTurn Ending.RefuseReaders) (Turn tn) c row (Some TurnEnd.GivenBack) tn did mv (judged_so (verdict_until Ending.RefuseReaders) mv.effect) c.no_writer c.no_readers (now_released v u Ending.RefuseReaders tn e, mv.parting (did.legal.kept TurnEnd.GivenBack refl).1)
  on_turn (Place.ReleaseTurn Ending.RefuseMemory) (Turn tn) c s o e fit =
      let row = turn_row v u (Place.ReleaseTurn Ending.RefuseMemory) (Turn tn) s e in
      let did = begun LockCall.Release tn o in
      let mv = moved m l k ss opening ts v (Place.ReleaseTurn Ending.RefuseMemory) (Turn tn) c afterwards row.sharing (Some TurnEnd.GivenBack) tn did (inr (inl (did.legal.kept TurnEnd.GivenBack refl).1)) refl in
      facts (Place.ReleaseTurn Ending.RefuseMemory) (Turn tn) c row (Some TurnEnd.GivenBack) tn did mv (judged_so (verdict_until Ending.RefuseMemory) mv.effect) c.no_writer c.no_readers (now_released v u Ending.RefuseMemory tn e, mv.parting (did.legal.kept TurnEnd.GivenBack refl).1)
  on_turn (Place.ReleaseTurn Ending.NotifyReaders) (Turn tn) c s o e fit =
      let row = turn_row v u (Place.ReleaseTurn Ending.NotifyReaders) (Turn tn) s e in
      let did = begun LockCall.Release tn o in
      let mv = moved m l k ss opening ts v (Place.ReleaseTurn Ending.NotifyReaders) (Turn tn) c afterwards row.sharing (Some TurnEnd.GivenBack) tn did (inr (inl (did.legal.kept TurnEnd.GivenBack refl).1)) refl in
      facts (Place.ReleaseTurn Ending.NotifyReaders) (Turn tn) c row (Some TurnEnd.GivenBack) tn did mv (judged_so (verdict_until Ending.NotifyReaders) mv.effect) c.no_writer c.no_readers (now_released v u Ending.NotifyReaders tn e, mv.parting (did.legal.kept TurnEnd.GivenBack refl).1)
  on_turn (Place.ReleaseTurn q) _ c s o e fit = absurd o
  on_turn (Place.ReleasingTurn q) (Turn tn) c s o e fit =
      let row = turn_row v u (Place.ReleasingTurn q) (Turn tn) s e in
      let did = gone_on tn o in
      let mv = moved m l k ss opening ts v (Place.ReleasingTurn q) (Turn tn) c afterwards row.sharing (decision t) tn did (inr (inl (did.legal.kept TurnEnd.GivenBack (releasing_decided t fit)).1)) refl in
      facts (Place.ReleasingTurn q) (Turn tn) c row (decision t) tn did mv (judged_so (verdict_until q) mv.effect) c.no_writer c.no_readers (now_releasing v u q tn e, mv.parting (did.legal.kept TurnEnd.GivenBack (releasing_decided t fit)).1)
  on_turn (Place.ReleasingTurn q) _ c s o e fit = absurd o
  on_turn _ f c s o e fit = absurd (cc)
