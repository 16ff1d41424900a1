-- What whole calls promise.
use Rattle.world_once_cell.proofs.Prelude.{◌≡◌, ◌≢◌, ℕ, ◌<◌, ◌⊎◌, inl, inr, Bool, true, false, List, length, Option, Some, None, refl, arith, ap, sym, ◌∙◌, subst, Entry, is_marked_at, marked_count, is_party, entries_of, Answer, Call, Got, Inputs, Move, What, Begin, Go, Refusal, Rest, Stage, Outside, Inside, Forgotten, Within, Standing, outside, inputs_of, call_in, refused, is_poll_after_ready, is_refusal, notifies, list_after, some_none, stage_at, stands_as, call_at, polls_again, Table, call_seen, again_seen, past_last, by_stage_or_past, Action, Found, ListName, Active, Passive, Maker, Closure, Given, Place, Claim, ClaimListed, JoinActive, AskActive, LeaveToMake, Make, Fill, NotifyActive, NotifyPassive, Fail, FailNotify, LeaveFull, RefuseActive, Look, JoinPassive, LookListed, AskPassive, LeavePassive, RefusePassive, CancelMake, CancelNotify, Position, Out, At, Content, Empty, BeingMade, Full, got_of, action_of, next_of, Task, no_task, initializes, sets, waits_only, fills_with, failed, task_by, task_at, place_task, in_active, verdict, list_of, effect_of, content_after, active_after, passive_after, Finds, OnceCell, IsCell, knows, goes_with, runs, is_maker, position_at, answer_by, World, list_in, standing_of, task_of, view_of, or_before, task_then, given, call_of, is_first_making, got_by, IsCellTable, TableSteps, Stands, Steps, ◌-◌, Notified, going_on, moves_of, answers_of, beginning, Known, HoldsWell, learn, Runs}
use Rattle.sync_program.specs.declared.once_cell.Action.TheVariants as act
use Rattle.sync_program.specs.declared.once_cell.Found.TheVariants as found
use Rattle.world_once_cell.proofs.of_machine.laws.Kept.{after}
use Rattle.world_once_cell.proofs.of_machine.stages.Turns.{fits}
use Rattle.world_once_cell.proofs.of_machine.laws.Contents as contents
use Rattle.world_once_cell.proofs.table.Seen as seen
use Rattle.lock_event.proofs.Marks.{length-mark_waiting}
use Rattle.lock_event.proofs.Counts.{marked_count-notified}
use Rattle.world_base.proofs.Bounds.{marked_listed}
use Rattle.world_base.proofs.of_any_world.Runs.{Onward, along}
use Rattle.world_once_cell.specs.Bound.{ComesTo, Promises}
use Rattle.world_once_cell.proofs.step.Rows.{content_then, gave, gave_failure, pends, never_found}
use Rattle.world_once_cell.proofs.step.Idle.{again, making_possible}
use Rattle.world_once_cell.proofs.step.Acting.{Acting}
use Rattle.world_once_cell.proofs.step.Acting as acting
use Rattle.world_once_cell.proofs.step.Stepping.{by_step, door}
use Rattle.world_once_cell.proofs.step.AtOnce.{Entrance}
use Rattle.world_once_cell.proofs.whole.Whole.{from_turn}

at_same : (x y : Place) → At x ≡ At y → x ≡ y
at_same x y e = cc

-- who was notified of some is marked
notified_some : (l : List (Entry ℕ)) → 0 < length (list_after 0 (notifies 1) l) → 0 < marked_count (list_after 0 (notifies 1) l)
notified_some l some = let long : 0 < length l = rw (length-mark_waiting Notified (1 - marked_count l) l) at some in marked_count-notified l long

-- a party that is at a place is inside a call, and may go on
stage_goes : (i : Inputs) (y : Place) (z : Stage) → goes_with z (At y) ≡ true → call_at knows z (Go i) ≡ None → ⊥
stage_goes i y (Outside Rest.Idle) h e = cc h
stage_goes i y (Outside Rest.Pending) h e = cc h
stage_goes i y (Outside Rest.Holding) h e = cc h
stage_goes i y (Outside Rest.Finished) h e = cc h
stage_goes i y (Inside v) h e = cc e
stage_goes i y Forgotten h e = cc h

again_goes : (i : Inputs) (z : Stage) → polls_again z (Go i) ≡ true → ⊥
again_goes i (Outside Rest.Idle) h = cc h
again_goes i (Outside Rest.Pending) h = cc h
again_goes i (Outside Rest.Holding) h = cc h
again_goes i (Outside Rest.Finished) h = cc h
again_goes i (Inside v) h = cc h
again_goes i Forgotten h = cc h

may_go : (t : Table OnceCell) (p : ℕ) (i : Inputs) (y : Place) → IsCellTable t → position_at t.machine.positions p ≡ At y → call_at knows (stage_at t.stages p) (Go i) ≡ None → ⊥
may_go t p i y fits at none = by_stage_or_past t.stages p ⊥
    (λ past. (let out : position_at t.machine.positions p ≡ Out = past_last t.machine.positions p Out (omega (arith, past, fits.as_many)) in let never : At y ≡ Out = sym at ∙ out in cc never))
    (λ inside. (let P : Position → Type 0 = λ x. goes_with (stage_at t.stages p) x ≡ true in stage_goes i y (stage_at t.stages p) (subst P at (fits.stands p inside).goes) none))

-- ---- who makes comes to what its maker gives

-- what a call comes to, by what is in the cell and in `active`
abbrev Notified_some : List (Entry ℕ) → Type 0
Notified_some l = 0 < length l → 0 < marked_count l

abbrev Ends : Task → ℕ → Answer → Content → List (Entry ℕ) → Type 0
Ends (fills_with x) p a c l = (a ≡ Answer.Ready (Got.Value x)) × (c ≡ Full x)
Ends failed p a c l = (a ≡ Answer.Ready Got.Failed) × (c ≡ Empty) × Notified_some l
Ends no_task p a c l = (a ≡ Answer.GivenBack) × (c ≡ Empty) × Notified_some l
Ends _ p a c l = (a ≡ Answer.Pending) × (c ≡ BeingMade p)

comes : (t : Task) (p : ℕ) (a : Answer) (v : World) → Ends t p a v.cell v.active → ComesTo t p a v
comes (fills_with x) p a v e = e
comes failed p a v e = (e.0, record { empty = e.1; notified = e.2 })
comes no_task p a v e = (e.0, record { empty = e.1; notified = e.2 })
comes initializes p a v e = e
comes (sets x) p a v e = e
comes waits_only p a v e = e

module _ (p : ℕ) (i : Inputs) (t : Task) where
  -- a place on the way there
  abbrev Coming : Place → Content → List (Entry ℕ) → Type 0
  Coming (AskActive k) c l = (is_marked_at (is_party p) l ≡ true) × (c ≡ Empty) × (given (task_by k) i.made ≡ t)
  Coming (Claim k told) c l = (c ≡ Empty) × (given (task_by k) i.made ≡ t)
  Coming (Make k) c l = (c ≡ BeingMade p) × (given (task_by k) i.made ≡ t)
  Coming (Fill v) c l = fills_with v ≡ t
  Coming (NotifyActive v) c l = (c ≡ Full v) × (fills_with v ≡ t)
  Coming (NotifyPassive v) c l = (c ≡ Full v) × (fills_with v ≡ t)
  Coming Fail c l = failed ≡ t
  Coming FailNotify c l = (c ≡ Empty) × (failed ≡ t)
  Coming CancelMake c l = no_task ≡ t
  Coming CancelNotify c l = (c ≡ Empty) × (no_task ≡ t)
  Coming _ c l = ⊥

  module _ (c : Content) (q r : List (Entry ℕ)) where
    abbrev active_then : Place → Found → List (Entry ℕ)
    active_then y f = active_after p (effect_of (action_of y) f) q

    record Goes_on (y : Place) (f : Found) : Type 0 where
      pub going : answer_by (next_of y f) ≡ Answer.Stepped → (z : Place) × (after y f ≡ At z) × Coming z (content_then i p c y f) (active_then y f)
      pub ended : answer_by (next_of y f) ≢ Answer.Stepped → Ends t p (answer_by (next_of y f)) (content_then i p c y f) (active_then y f)

    on : (y : Place) (f : Found) (z : Place) → after y f ≡ At z → answer_by (next_of y f) ≡ Answer.Stepped → Coming z (content_then i p c y f) (active_then y f) → Goes_on y f
    on y f z e s h = record { going = λ g. (z, e, h); ended = λ n. absurd (n s) }

    done : (y : Place) (f : Found) → (answer_by (next_of y f) ≡ Answer.Stepped → ⊥) → Ends t p (answer_by (next_of y f)) (content_then i p c y f) (active_then y f) → Goes_on y f
    done y f n h = record { going = λ s. absurd (n s); ended = λ _. h }

    not_made : (n : ℕ) → c ≡ BeingMade n → c ≡ Empty → ⊥
    not_made n e empty = let never : BeingMade n ≡ Empty = sym e ∙ empty in cc never

    not_full : (n : ℕ) → c ≡ Full n → c ≡ Empty → ⊥
    not_full n e empty = let never : Full n ≡ Empty = sym e ∙ empty in cc never

    by_task : (z : Task) (a : Answer) (d : Content) (l : List (Entry ℕ)) → z ≡ t → Ends z p a d l → Ends t p a d l
    by_task z a d l e h = let P : Task → Type 0 = λ z. Ends z p a d l in subst P e h

    goes_on : (y : Place) (f : Found) → Finds i p (action_of y) f c q r → Coming y c q → Goes_on y f
    goes_on (AskActive k) found.Yes e h = on (AskActive k) found.Yes (Claim k true) refl refl (h.1, h.2)
    goes_on (AskActive k) found.No e h = absurd (cc (e, h.0))
    goes_on (AskActive k) _ e h = absurd e
    goes_on (Claim k told) found.Empty e h = on (Claim k told) found.Empty (Make k) refl refl (refl, h.1)
    goes_on (Claim k told) found.BeingMade e h = absurd (not_made e.0 e.1 h.0)
    goes_on (Claim k told) (found.Full u) e h = absurd (not_full u e h.0)
    goes_on (Claim k told) _ e h = absurd e
    goes_on (Make k) (found.Made u) e h = on (Make k) (found.Made u) (Fill u) refl refl (gave i p c k i.made u e ∙ h.1)
    goes_on (Make k) found.Failed e h = on (Make k) found.Failed Fail refl refl (gave_failure i p c k i.made e ∙ h.1)
    goes_on (Make Closure) found.NotYet e h = (
        let is : initializes ≡ t = sym (ap (given initializes) (pends i p c Closure i.made e).1) ∙ h.1 in
        done (Make Closure) found.NotYet (λ s. cc s) (by_task initializes Answer.Pending c q is (refl, h.0))
        )
    goes_on (Make (Given o)) found.NotYet e h = absurd (cc e)
    goes_on (Make k) _ e h = absurd (never_found i p c k i.made _ e (λ x. cc x) (λ u x. cc x) (λ x. cc x))
    goes_on (Fill v) found.Done e h = on (Fill v) found.Done (NotifyActive v) refl refl (refl, h)
    goes_on (Fill v) _ e h = absurd e
    goes_on (NotifyActive v) found.Done e h = on (NotifyActive v) found.Done (NotifyPassive v) refl refl h
    goes_on (NotifyActive v) _ e h = absurd e
    goes_on (NotifyPassive v) found.Done e h = done (NotifyPassive v) found.Done (λ s. cc s) (by_task (fills_with v) (Answer.Ready (Got.Value v)) c q h.1 (refl, h.0))
    goes_on (NotifyPassive v) _ e h = absurd e
    goes_on Fail found.Done e h = on Fail found.Done FailNotify refl refl (refl, h)
    goes_on Fail _ e h = absurd e
    goes_on FailNotify found.Done e h = done FailNotify found.Done (λ s. cc s) (by_task failed (Answer.Ready Got.Failed) c (list_after p (notifies 1) q) h.1 (refl, h.0, notified_some q))
    goes_on FailNotify _ e h = absurd e
    goes_on CancelMake found.Done e h = on CancelMake found.Done CancelNotify refl refl (refl, h)
    goes_on CancelMake _ e h = absurd e
    goes_on CancelNotify found.Done e h = done CancelNotify found.Done (λ s. cc s) (by_task no_task Answer.GivenBack c (list_after p (notifies 1) q) h.1 (refl, h.0, notified_some q))
    goes_on CancelNotify _ e h = absurd e
    goes_on _ f e h = absurd h

  abbrev IsComing : World → Type 0
  IsComing x = (y : Place) × (position_at x.behind.machine.positions p ≡ At y) × Coming y x.cell x.active

  abbrev Onwards : Answer → World → Type 0
  Onwards a v = Onward IsComing (ComesTo t p) a v

  acted : (t1 u : Table OnceCell) (what : What) (a : Answer) (w : Within) (k : Acting t1 u (record { party = p; what = what }) a w) → inputs_of what ≡ i → Coming k.from t1.machine.content t1.machine.active → Onwards a (view_of u)
  acted t1 u what a w k same h = (
      let m : Move = record { party = p; what = what } in
      let P : Inputs → Type 0 = λ j. Finds j p (action_of k.from) k.found t1.machine.content t1.machine.active t1.machine.passive in
      let rows = goes_on t1.machine.content t1.machine.active t1.machine.passive k.from k.found (subst P same k.acts.finds) h in
      record {
        going = λ e. (
            let next = rows.going (sym k.answer ∙ e) in
            let Q : Content → List (Entry ℕ) → Type 0 = λ c l. Coming next.0 c l in
            let R : Content → Type 0 = λ c. Coming next.0 c (active_then t1.machine.content t1.machine.active t1.machine.passive k.from k.found) in
            (next.0, acting.lands_at t1 u m a w k ∙ next.1, subst (Q u.machine.content) (sym k.acts.active) (subst R (sym k.acts.content) next.2))
            );
        ended = λ n. (
            let last = rows.ended (λ e. n (k.answer ∙ e)) in
            let A : Answer → Type 0 = λ b. Ends t p b (content_after p (effect_of (action_of k.from) k.found) t1.machine.content) (active_after p (effect_of (action_of k.from) k.found) t1.machine.active) in
            let B : Content → Type 0 = λ c. Ends t p a c (active_after p (effect_of (action_of k.from) k.found) t1.machine.active) in
            let D : List (Entry ℕ) → Type 0 = λ l. Ends t p a u.machine.content l in
            comes t p a (view_of u) (subst D (sym k.acts.active) (subst B (sym k.acts.content) (subst A (sym k.answer) last)))
            );
      }
      )

  comes_on : (x : World) (b : Answer) (y : World) → IsComing x → Steps x (going_on p i) b y → Onwards b y
  comes_on x b y g s = subst (λ z. Onwards b z) (sym s.did.stands.seen) (by_step x.behind y.behind (going_on p i) b s.did.stood.cell s.did.stood.fits s.did.stands.cell s.did.stands.fits (λ c z. Onwards c (view_of z))
      (λ e. absurd (may_go x.behind p i g.0 s.did.stood.fits g.1 e)) (λ w e f. absurd (again_goes i (stage_at x.behind.stages p) f)) goes_there s.did.step) where
        seen_so : (y : Place) → Coming y x.cell x.active → Coming y x.behind.machine.content x.behind.machine.active
        seen_so y h = let P : World → Type 0 = λ z. Coming y z.cell z.active in subst P s.did.stood.seen h

        goes_there : (w : Within) → Acting x.behind y.behind (going_on p i) b w → Onwards b (view_of y.behind)
        goes_there w k =
            let at : g.0 ≡ k.from = at_same g.0 k.from (sym g.1 ∙ from_turn x.behind y.behind (going_on p i) b w k) in
            let Q : Place → Type 0 = λ y. Coming y x.behind.machine.content x.behind.machine.active in
            acted x.behind y.behind (Go i) b w k refl (subst Q at (seen_so g.0 g.2))

  -- where a call begins that comes to this
  pub record Begins (w : World) (c : Call) : Type 0 where
    pub possible : call_of w (beginning p c i) ≡ None → ⊥
    pub first : is_poll_after_ready (standing_of w p) (Begin c i) ≡ true → ⊥
    pub from : (b : Answer) (y : World) (s : Steps w (beginning p c i) b y) (z : Within) (k : Acting w.behind y.behind (beginning p c i) b z) → Coming k.from w.behind.machine.content w.behind.machine.active

  comes_begun : (w : World) (c : Call) (b : Answer) (y : World) → Begins w c → Steps w (beginning p c i) b y → Onwards b y
  comes_begun w c b y g s = subst (λ z. Onwards b z) (sym s.did.stands.seen) (by_step w.behind y.behind (beginning p c i) b s.did.stood.cell s.did.stood.fits s.did.stands.cell s.did.stands.fits (λ d z. Onwards d (view_of z))
      (λ e. absurd (g.possible (called_here ∙ e))) (λ z e f. absurd (g.first (again_here ∙ f))) (λ z k. acted w.behind y.behind (Begin c i) b z k refl (g.from b y s z k)) s.did.step) where
        standing_here : standing_of w p ≡ stands_as (verdict (position_at w.behind.machine.positions p)) (stage_at w.behind.stages p)
        standing_here = ap (λ z. standing_of z p) s.did.stood.seen ∙ seen.standing_seen w.behind p

        called_here : call_of w (beginning p c i) ≡ call_at knows (stage_at w.behind.stages p) (Begin c i)
        called_here = ap (λ z. call_in knows z (Begin c i)) standing_here ∙ call_seen knows (verdict (position_at w.behind.machine.positions p)) (stage_at w.behind.stages p) (Begin c i)

        again_here : is_poll_after_ready (standing_of w p) (Begin c i) ≡ polls_again (stage_at w.behind.stages p) (Begin c i)
        again_here = ap (λ z. is_poll_after_ready z (Begin c i)) standing_here ∙ again_seen (verdict (position_at w.behind.machine.positions p)) (stage_at w.behind.stages p) (Begin c i)

  pub comes_to : (known : Known) (w : World) (c : Call) (n : ℕ) (a : Answer) (v : World) → Runs known w (moves_of p c i n) (answers_of n a) v → a ≢ Answer.Stepped → Begins w c → ComesTo t p a v
  comes_to known w c n a v runs ended g = along Steps learn HoldsWell p i IsComing (ComesTo t p) comes_on known n w (beginning p c i) a v (λ b x s. comes_begun w c b x g s) ended runs

-- ---- the beginnings

-- the place at which a step begins that decides at once
entered_at : (w : World) (m : Move) (b : Answer) (y : World) (s : Steps w m b y) (z : Within) (k : Acting w.behind y.behind m b z) → Entrance (stage_at w.behind.stages m.party) m.what z (position_at w.behind.machine.positions m.party) k.from
entered_at w m b y s z k = door w.behind y.behind m b s.did.stood.cell s.did.stood.fits s.did.stands.cell s.did.stands.fits z k

-- what callers see of where a call begins
standing_at : (w : World) (p : ℕ) (st : Stands w) → stands_as (verdict (position_at w.behind.machine.positions p)) (stage_at w.behind.stages p) ≡ standing_of w p
standing_at w p st = sym (ap (λ z. standing_of z p) st.seen ∙ seen.standing_seen w.behind p)

task_is : (w : World) (p : ℕ) (st : Stands w) → task_of w p ≡ task_at (position_at w.behind.machine.positions p)
task_is w p st = ap (λ z. task_of z p) st.seen ∙ seen.task_seen w.behind p

cell_is : (w : World) (st : Stands w) → w.cell ≡ w.behind.machine.content
cell_is w st = ap (λ z. z.cell) st.seen

active_is : (w : World) (st : Stands w) → w.active ≡ w.behind.machine.active
active_is w st = ap (λ z. z.active) st.seen

passive_is : (w : World) (st : Stands w) → w.passive ≡ w.behind.machine.passive
passive_is w st = ap (λ z. z.passive) st.seen

poll_possible : (s : Standing) (i : Inputs) (c : Call) → (c ≡ Call.Poll) ⊎ (c ≡ Call.Drop) → s ≡ outside Rest.Pending → call_in knows s (Begin c i) ≡ None → ⊥
poll_possible s i Call.Poll which e none = let P : Standing → Type 0 = λ x. call_in knows x (Begin Call.Poll i) ≡ None in let never : P (outside Rest.Pending) = subst P e none in cc never
poll_possible s i Call.Drop which e none = let P : Standing → Type 0 = λ x. call_in knows x (Begin Call.Drop i) ≡ None in let never : P (outside Rest.Pending) = subst P e none in cc never
poll_possible s i _ (inl e) h none = cc e
poll_possible s i _ (inr e) h none = cc e

pending_first : (s : Standing) (what : What) → s ≡ outside Rest.Pending → is_poll_after_ready s what ≡ true → ⊥
pending_first s what e h = (again s what h).pending e

task_by_none : (o : Option Task) (b d : Task) → o ≡ None → or_before o b ≡ d → b ≡ d
task_by_none None b d e h = h
task_by_none (Some z) b d e h = absurd (some_none e)

module _ (p : ℕ) (i : Inputs) (w : World) where
  abbrev x : Position
  x = position_at w.behind.machine.positions p

  -- a first initialisation or set
  first_begins : (c : Call) → is_first_making (standing_of w p) (Begin c i) (task_of w p) (entries_of p w.active) (is_maker w.cell p) ≡ true → w.cell ≡ Empty → Begins p i (given (task_then (Begin c i) (task_of w p)) i.made) w c
  first_begins c h empty = record {
    possible = λ none. making_possible (task_of w p) (entries_of p w.active) (is_maker w.cell p) (standing_of w p) (Begin c i) h none;
    first = λ f. (let never = (again (standing_of w p) (Begin c i) f).making (task_of w p) (entries_of p w.active) (is_maker w.cell p) in cc (h, never));
    from = λ b y s z k. (
        let st = s.did.stood in
        let P : Standing → Type 0 = λ e. is_first_making e (Begin c i) (task_of w p) (entries_of p w.active) (is_maker w.cell p) ≡ true in
        let Q : Task → Type 0 = λ e. is_first_making (stands_as (verdict x) (stage_at w.behind.stages p)) (Begin c i) e (entries_of p w.active) (is_maker w.cell p) ≡ true in
        let d = (entered_at w (beginning p c i) b y s z k).making (entries_of p w.active) (is_maker w.cell p) (subst Q (task_is w p st) (subst P (sym (standing_at w p st)) h)) (ap (entries_of p) (active_is w st) ∙ st.cell.active_owners p) (ap (λ e. is_maker e p) (cell_is w st) ∙ sym (st.cell.makers p)) in
        let task : task_then (Begin c i) (task_of w p) ≡ task_by d.0 = ap (task_then (Begin c i)) (task_is w p st) ∙ (k.here.task ∙ ap place_task d.1) in
        let R : Place → Type 0 = λ e. Coming p i (given (task_then (Begin c i) (task_of w p)) i.made) e w.behind.machine.content w.behind.machine.active in
        subst R (sym d.1) (sym (cell_is w st) ∙ empty, ap (λ e. given e i.made) (sym task))
        );
  }

  poll_task : (b : Answer) (y : World) (s : Steps w (beginning p Call.Poll i) b y) (z : Within) (k : Acting w.behind y.behind (beginning p Call.Poll i) b z) → task_of w p ≡ place_task k.from
  poll_task b y s z k = task_is w p s.did.stood ∙ k.here.task

  -- the poll of a party that was told
  solo_begins : standing_of w p ≡ outside Rest.Pending → is_marked_at (is_party p) w.active ≡ true → w.cell ≡ Empty → Begins p i (given (task_of w p) i.made) w Call.Poll
  solo_begins pending marked empty = record {
    possible = λ none. poll_possible (standing_of w p) i Call.Poll (inl refl) pending none;
    first = λ f. pending_first (standing_of w p) (Begin Call.Poll i) pending f;
    from = λ b y s z k. (
        let st = s.did.stood in
        let listed : 0 < entries_of p w.active = marked_listed p w.active marked in
        let some : 0 < in_active x = rw (sym (ap (entries_of p) (active_is w st) ∙ st.cell.active_owners p)) listed in
        let d = (entered_at w (beginning p Call.Poll i) b y s z k).in_active refl (standing_at w p st ∙ pending) some in
        let task : task_of w p ≡ task_by d.0 = poll_task b y s z k ∙ ap place_task d.1 in
        let R : Place → Type 0 = λ e. Coming p i (given (task_of w p) i.made) e w.behind.machine.content w.behind.machine.active in
        subst R (sym d.1) (ap (is_marked_at (is_party p)) (sym (active_is w st)) ∙ marked, sym (cell_is w st) ∙ empty, ap (λ e. given e i.made) (sym task))
        );
  }

  -- the poll of the maker
  maker_begins : standing_of w p ≡ outside Rest.Pending → is_maker w.cell p ≡ true → Begins p i (given (task_of w p) i.made) w Call.Poll
  maker_begins pending making = record {
    possible = λ none. poll_possible (standing_of w p) i Call.Poll (inl refl) pending none;
    first = λ f. pending_first (standing_of w p) (Begin Call.Poll i) pending f;
    from = λ b y s z k. (
        let st = s.did.stood in
        let d = (entered_at w (beginning p Call.Poll i) b y s z k).maker refl (standing_at w p st ∙ pending) (st.cell.makers p ∙ (ap (λ e. is_maker e p) (sym (cell_is w st)) ∙ making)) in
        let task : task_of w p ≡ task_by d.0 = poll_task b y s z k ∙ ap place_task d.1 in
        let R : Place → Type 0 = λ e. Coming p i (given (task_of w p) i.made) e w.behind.machine.content w.behind.machine.active in
        subst R (sym d.1) (sym (cell_is w st) ∙ contents.maker_is w.cell p making, ap (λ e. given e i.made) (sym task))
        );
  }

  -- the drop of the maker
  drop_begins : standing_of w p ≡ outside Rest.Pending → is_maker w.cell p ≡ true → Begins p i no_task w Call.Drop
  drop_begins pending making = record {
    possible = λ none. poll_possible (standing_of w p) i Call.Drop (inr refl) pending none;
    first = λ f. pending_first (standing_of w p) (Begin Call.Drop i) pending f;
    from = λ b y s z k. (
        let st = s.did.stood in
        let e = (entered_at w (beginning p Call.Drop i) b y s z k).dropped refl (st.cell.makers p ∙ (ap (λ e. is_maker e p) (sym (cell_is w st)) ∙ making)) in
        let R : Place → Type 0 = λ e. Coming p i no_task e w.behind.machine.content w.behind.machine.active in
        subst R (sym e) refl
        );
  }

-- ---- a refused poll hands on what it was told

abbrev is_handing : ListName → Place → Bool
is_handing Active (AskActive k) = true
is_handing Active (Claim k told) = told
is_handing Active (ClaimListed k) = true
is_handing Active (JoinActive k told) = told
is_handing Active (LeaveToMake k) = true
is_handing Active (Make k) = true
is_handing Active (Fill v) = true
is_handing Active (NotifyActive v) = true
is_handing Active (NotifyPassive v) = true
is_handing Active Fail = true
is_handing Active FailNotify = true
is_handing Active (LeaveFull k v) = true
is_handing Active (RefuseActive k) = true
is_handing Passive AskPassive = true
is_handing Passive (Look told) = told
is_handing Passive (JoinPassive told) = told
is_handing Passive LookListed = true
is_handing Passive (LeavePassive v) = true
is_handing Passive RefusePassive = true
is_handing list _ = false

record Handed (list : ListName) (y : Place) (f : Found) : Type 0 where
  pub going : answer_by (next_of y f) ≡ Answer.Stepped → (z : Place) × (after y f ≡ At z) × (is_handing list z ≡ true)
  pub refused : is_refusal (answer_by (next_of y f)) ≡ true → action_of y ≡ act.Notify list

handed : (list : ListName) (y : Place) (f : Found) → is_handing list y ≡ true → Handed list y f
handed Active (AskActive k) found.Yes h = record { going = λ s. (Claim k true, refl, refl); refused = λ r. absurd (cc r) }
handed Active (AskActive k) _ h = record { going = λ s. absurd (cc s); refused = λ r. absurd (cc r) }
handed Active (Claim k false) f h = absurd (cc h)
handed Active (Claim k true) found.Empty h = record { going = λ s. (Make k, refl, refl); refused = λ r. absurd (cc r) }
handed Active (Claim k true) (found.Full u) h = record { going = λ s. absurd (cc s); refused = λ r. absurd (cc r) }
handed Active (Claim k true) _ h = record { going = λ s. (JoinActive k true, refl, refl); refused = λ r. absurd (cc r) }
handed Active (ClaimListed k) found.Empty h = record { going = λ s. (LeaveToMake k, refl, refl); refused = λ r. absurd (cc r) }
handed Active (ClaimListed k) (found.Full u) h = record { going = λ s. (LeaveFull k u, refl, refl); refused = λ r. absurd (cc r) }
handed Active (ClaimListed k) _ h = record { going = λ s. (AskActive k, refl, refl); refused = λ r. absurd (cc r) }
handed Active (JoinActive k false) f h = absurd (cc h)
handed Active (JoinActive k true) found.Done h = record { going = λ s. (ClaimListed k, refl, refl); refused = λ r. absurd (cc r) }
handed Active (JoinActive k true) _ h = record { going = λ s. (RefuseActive k, refl, refl); refused = λ r. absurd (cc r) }
handed Active (LeaveToMake k) f h = record { going = λ s. (Make k, refl, refl); refused = λ r. absurd (cc r) }
handed Active (Make k) (found.Made u) h = record { going = λ s. (Fill u, refl, refl); refused = λ r. absurd (cc r) }
handed Active (Make k) found.Failed h = record { going = λ s. (Fail, refl, refl); refused = λ r. absurd (cc r) }
handed Active (Make k) _ h = record { going = λ s. absurd (cc s); refused = λ r. absurd (cc r) }
handed Active (Fill v) f h = record { going = λ s. (NotifyActive v, refl, refl); refused = λ r. absurd (cc r) }
handed Active (NotifyActive v) f h = record { going = λ s. (NotifyPassive v, refl, refl); refused = λ r. absurd (cc r) }
handed Active (NotifyPassive v) f h = record { going = λ s. absurd (cc s); refused = λ r. absurd (cc r) }
handed Active Fail f h = record { going = λ s. (FailNotify, refl, refl); refused = λ r. absurd (cc r) }
handed Active FailNotify f h = record { going = λ s. absurd (cc s); refused = λ r. absurd (cc r) }
handed Active (LeaveFull k v) f h = record { going = λ s. absurd (cc s); refused = λ r. absurd (cc r) }
handed Active (RefuseActive k) f h = record { going = λ s. absurd (cc s); refused = λ r. refl }
handed Passive AskPassive found.Yes h = record { going = λ s. (Look true, refl, refl); refused = λ r. absurd (cc r) }
handed Passive AskPassive _ h = record { going = λ s. absurd (cc s); refused = λ r. absurd (cc r) }
handed Passive (Look false) f h = absurd (cc h)
handed Passive (Look true) (found.Full u) h = record { going = λ s. absurd (cc s); refused = λ r. absurd (cc r) }
handed Passive (Look true) _ h = record { going = λ s. (JoinPassive true, refl, refl); refused = λ r. absurd (cc r) }
handed Passive (JoinPassive false) f h = absurd (cc h)
handed Passive (JoinPassive true) found.Done h = record { going = λ s. (LookListed, refl, refl); refused = λ r. absurd (cc r) }
handed Passive (JoinPassive true) _ h = record { going = λ s. (RefusePassive, refl, refl); refused = λ r. absurd (cc r) }
handed Passive LookListed (found.Full u) h = record { going = λ s. (LeavePassive u, refl, refl); refused = λ r. absurd (cc r) }
handed Passive LookListed _ h = record { going = λ s. (AskPassive, refl, refl); refused = λ r. absurd (cc r) }
handed Passive (LeavePassive v) f h = record { going = λ s. absurd (cc s); refused = λ r. absurd (cc r) }
handed Passive RefusePassive f h = record { going = λ s. absurd (cc s); refused = λ r. refl }
handed _ _ f h = absurd (cc h)

module _ (p : ℕ) (i : Inputs) (list : ListName) where
  abbrev IsHanding : World → Type 0
  IsHanding x = (y : Place) × (position_at x.behind.machine.positions p ≡ At y) × (is_handing list y ≡ true)

  abbrev HandsOn : Answer → World → Type 0
  HandsOn a v = is_refusal a ≡ true → 0 < length (list_in list v) → 0 < marked_count (list_in list v)

  abbrev Hands : Answer → World → Type 0
  Hands a v = Onward IsHanding HandsOn a v

  -- what a notification does to the list
  told : (f : Found) (c : Content) (q r q' r' : List (Entry ℕ)) → Finds i p (act.Notify list) f c q r → q' ≡ active_after p (effect_of (act.Notify list) f) q → r' ≡ passive_after p (effect_of (act.Notify list) f) r → 0 < length (list_of list q' r') → 0 < marked_count (list_of list q' r')
  told f c q r q' r' finds eq er some = by_list list f finds eq er some where
    by_list : (name : ListName) (f : Found) → Finds i p (act.Notify name) f c q r → q' ≡ active_after p (effect_of (act.Notify name) f) q → r' ≡ passive_after p (effect_of (act.Notify name) f) r → 0 < length (list_of name q' r') → 0 < marked_count (list_of name q' r')
    by_list Active found.Done e eq er some = rw eq (notified_some q (rw eq at some))
    by_list Passive found.Done e eq er some = rw er (notified_some r (rw er at some))
    by_list Active _ e eq er some = absurd e
    by_list Passive _ e eq er some = absurd e

  hands_acted : (t u : Table OnceCell) (what : What) (a : Answer) (w : Within) (k : Acting t u (record { party = p; what = what }) a w) → inputs_of what ≡ i → is_handing list k.from ≡ true → Hands a (view_of u)
  hands_acted t u what a w k same h = (
      let m : Move = record { party = p; what = what } in
      let rows = handed list k.from k.found h in
      record {
        going = λ e. (let next = rows.going (sym k.answer ∙ e) in (next.0, acting.lands_at t u m a w k ∙ next.1, next.2));
        ended = λ n r. (
            let here : action_of k.from ≡ act.Notify list = rows.refused (ap is_refusal (sym k.answer) ∙ r) in
            let P : Inputs → Action → Type 0 = λ j b. Finds j p b k.found t.machine.content t.machine.active t.machine.passive in
            let Q : Inputs → Type 0 = λ j. P j (action_of k.from) in
            let A : Action → Type 0 = λ b. u.machine.active ≡ active_after p (effect_of b k.found) t.machine.active in
            let B : Action → Type 0 = λ b. u.machine.passive ≡ passive_after p (effect_of b k.found) t.machine.passive in
            told k.found t.machine.content t.machine.active t.machine.passive u.machine.active u.machine.passive (subst (P i) here (subst Q same k.acts.finds)) (subst A here k.acts.active) (subst B here k.acts.passive)
            );
      }
      )

  hands_quiet : (b : Answer) (v : World) → is_refusal b ≡ false → (b ≡ Answer.Stepped → ⊥) → Hands b v
  hands_quiet b v r n = record { going = λ s. absurd (n s); ended = λ _ h some. absurd (cc (r, h)) }

  hands_by : (t u : Table OnceCell) (what : What) (a : Answer) (tl : IsCell t.machine) (tf : IsCellTable t) (ul : IsCell u.machine) (uf : IsCellTable u) → inputs_of what ≡ i → ((w : Within) (k : Acting t u (record { party = p; what = what }) a w) → is_handing list k.from ≡ true) → TableSteps t (record { party = p; what = what }) a u → Hands a (view_of u)
  hands_by t u what a tl tf ul uf same hands step = by_step t u (record { party = p; what = what }) a tl tf ul uf (λ b x. Hands b (view_of x))
      (λ e. hands_quiet Answer.NotPossible (view_of t) refl (λ s. cc s)) (λ w e f. hands_quiet (refused Refusal.Finished) (view_of t) refl (λ s. cc s))
      (λ w k. hands_acted t u what a w k same (hands w k)) step

  hands_going : (x : World) (b : Answer) (y : World) → IsHanding x → Steps x (going_on p i) b y → Hands b y
  hands_going x b y g s = subst (λ z. Hands b z) (sym s.did.stands.seen) (hands_by x.behind y.behind (Go i) b s.did.stood.cell s.did.stood.fits s.did.stands.cell s.did.stands.fits refl
      (λ w k. ap (is_handing list) (at_same k.from g.0 (sym (from_turn x.behind y.behind (going_on p i) b w k) ∙ g.1)) ∙ g.2) s.did.step)

  listed_hands : (w : World) (st : Stands w) (from : Place) (z : Within) → Entrance (stage_at w.behind.stages p) (Begin Call.Poll i) z (position_at w.behind.machine.positions p) from → standing_of w p ≡ outside Rest.Pending → 0 < entries_of p (list_in list w) → is_handing list from ≡ true
  listed_hands w st from z d pending listed = by_list list listed where
    by_list : (name : ListName) → 0 < entries_of p (list_in name w) → is_handing name from ≡ true
    by_list Active some = let at = d.in_active refl (standing_at w p st ∙ pending) (rw (sym (ap (entries_of p) (active_is w st) ∙ st.cell.active_owners p)) some) in ap (is_handing Active) at.1
    by_list Passive some = ap (is_handing Passive) (d.in_passive refl (standing_at w p st ∙ pending) (rw (sym (ap (entries_of p) (passive_is w st) ∙ st.cell.passive_owners p)) some))

  hands_begun : (w : World) (b : Answer) (y : World) → standing_of w p ≡ outside Rest.Pending → 0 < entries_of p (list_in list w) → Steps w (beginning p Call.Poll i) b y → Hands b y
  hands_begun w b y pending listed s = subst (λ z. Hands b z) (sym s.did.stands.seen) (hands_by w.behind y.behind (Begin Call.Poll i) b s.did.stood.cell s.did.stood.fits s.did.stands.cell s.did.stands.fits refl
      (λ z k. listed_hands w s.did.stood k.from z (entered_at w (beginning p Call.Poll i) b y s z k) pending listed) s.did.step)

  pub hands_on : (known : Known) (w : World) (n : ℕ) (a : Answer) (v : World) → Runs known w (moves_of p Call.Poll i n) (answers_of n a) v → a ≢ Answer.Stepped → standing_of w p ≡ outside Rest.Pending → 0 < entries_of p (list_in list w) → HandsOn a v
  hands_on known w n a v runs ended pending listed = along Steps learn HoldsWell p i IsHanding HandsOn hands_going known n w (beginning p Call.Poll i) a v (λ b x s. hands_begun w b x pending listed s) ended runs

-- ---- on a full cell a notified party's poll is ready

got_so : (k : Maker) (v : ℕ) → got_of k v ≡ got_by (task_by k) v
got_so Closure v = refl
got_so (Given own) v = refl

empty_full : (v : ℕ) (c : Content) → c ≡ Empty → c ≡ Full v → ⊥
empty_full v c e full = let never : Empty ≡ Full v = sym e ∙ full in cc never

made_full : (q v : ℕ) (c : Content) → c ≡ BeingMade q → c ≡ Full v → ⊥
made_full q v c e full = let never : BeingMade q ≡ Full v = sym e ∙ full in cc never

same_value : (u v : ℕ) (c : Content) → c ≡ Full u → c ≡ Full v → u ≡ v
same_value u v c e full = let same : Full u ≡ Full v = sym e ∙ full in cc same

module _ (p : ℕ) (i : Inputs) (g : Got) (v : ℕ) where
  -- a place where the cell is looked at, and from where this is got
  abbrev Looks : Place → Type 0
  Looks (Claim k told) = got_of k v ≡ g
  Looks (Look told) = Got.Value v ≡ g
  Looks _ = ⊥

  abbrev Asks : Place → List (Entry ℕ) → List (Entry ℕ) → Type 0
  Asks (AskActive k) q r = (is_marked_at (is_party p) q ≡ true) × (got_of k v ≡ g)
  Asks AskPassive q r = (is_marked_at (is_party p) r ≡ true) × (Got.Value v ≡ g)
  Asks _ q r = ⊥

  module _ (c : Content) (q r : List (Entry ℕ)) (full : c ≡ Full v) where
    looks : (y : Place) (f : Found) → Finds i p (action_of y) f c q r → Looks y → answer_by (next_of y f) ≡ Answer.Ready g
    looks (Claim k told) (found.Full u) e h = ap Answer.Ready (ap (got_of k) (same_value u v c e full) ∙ h)
    looks (Claim k told) found.Empty e h = absurd (empty_full v c e full)
    looks (Claim k told) found.BeingMade e h = absurd (made_full e.0 v c e.1 full)
    looks (Claim k told) _ e h = absurd e
    looks (Look told) (found.Full u) e h = ap Answer.Ready (ap Got.Value (same_value u v c e full) ∙ h)
    looks (Look told) found.Empty e h = absurd (empty_full v c e full)
    looks (Look told) found.BeingMade e h = absurd (made_full e.0 v c e.1 full)
    looks (Look told) _ e h = absurd e
    looks _ f e h = absurd h

    -- who asks and was told goes on to look
    asks : (y : Place) (f : Found) → Finds i p (action_of y) f c q r → Asks y q r → (answer_by (next_of y f) ≡ Answer.Stepped) × (content_then i p c y f ≡ Full v) × ((z : Place) × (after y f ≡ At z) × Looks z)
    asks (AskActive k) found.Yes e h = (refl, full, (Claim k true, refl, h.1))
    asks (AskActive k) found.No e h = absurd (cc (e, h.0))
    asks (AskActive k) _ e h = absurd e
    asks AskPassive found.Yes e h = (refl, full, (Look true, refl, h.1))
    asks AskPassive found.No e h = absurd (cc (e, h.0))
    asks AskPassive _ e h = absurd e
    asks _ f e h = absurd h

  abbrev IsLooking : World → Type 0
  IsLooking x = (y : Place) × (position_at x.behind.machine.positions p ≡ At y) × Looks y × (x.cell ≡ Full v)

  abbrev IsReady : Answer → World → Type 0
  IsReady a u = a ≡ Answer.Ready g

  abbrev Readies : Answer → World → Type 0
  Readies a u = Onward IsLooking IsReady a u

  finds_so : (t u : Table OnceCell) (what : What) (a : Answer) (w : Within) (k : Acting t u (record { party = p; what = what }) a w) → inputs_of what ≡ i → Finds i p (action_of k.from) k.found t.machine.content t.machine.active t.machine.passive
  finds_so t u what a w k same = let P : Inputs → Type 0 = λ j. Finds j p (action_of k.from) k.found t.machine.content t.machine.active t.machine.passive in subst P same k.acts.finds

  looked : (t u : Table OnceCell) (what : What) (a : Answer) (w : Within) (k : Acting t u (record { party = p; what = what }) a w) → inputs_of what ≡ i → t.machine.content ≡ Full v → Looks k.from → Readies a (view_of u)
  looked t u what a w k same full h = (
      let ready : a ≡ Answer.Ready g = k.answer ∙ looks t.machine.content t.machine.active t.machine.passive full k.from k.found (finds_so t u what a w k same) h in
      record { going = λ e. (let never : Answer.Stepped ≡ Answer.Ready g = sym e ∙ ready in absurd (cc never)); ended = λ n. ready }
      )

  asked : (t u : Table OnceCell) (what : What) (a : Answer) (w : Within) (k : Acting t u (record { party = p; what = what }) a w) → inputs_of what ≡ i → t.machine.content ≡ Full v → Asks k.from t.machine.active t.machine.passive → Readies a (view_of u)
  asked t u what a w k same full h = (
      let rows = asks t.machine.content t.machine.active t.machine.passive full k.from k.found (finds_so t u what a w k same) h in
      record {
        going = λ e. (rows.2.0, acting.lands_at t u (record { party = p; what = what }) a w k ∙ rows.2.1, rows.2.2, k.acts.content ∙ rows.1);
        ended = λ n. absurd (n (k.answer ∙ rows.0));
      }
      )

  looks_on : (x : World) (b : Answer) (y : World) → IsLooking x → Steps x (going_on p i) b y → Readies b y
  looks_on x b y h s = subst (λ z. Readies b z) (sym s.did.stands.seen) (by_step x.behind y.behind (going_on p i) b s.did.stood.cell s.did.stood.fits s.did.stands.cell s.did.stands.fits (λ c z. Readies c (view_of z))
      (λ e. absurd (may_go x.behind p i h.0 s.did.stood.fits h.1 e)) (λ w e f. absurd (again_goes i (stage_at x.behind.stages p) f))
      (λ w k. (let at : h.0 ≡ k.from = at_same h.0 k.from (sym h.1 ∙ from_turn x.behind y.behind (going_on p i) b w k) in let Q : Place → Type 0 = Looks in looked x.behind y.behind (Go i) b w k refl (sym (cell_is x s.did.stood) ∙ h.3) (subst Q at h.2))) s.did.step)

  module _ (w : World) (pending : standing_of w p ≡ outside Rest.Pending) (full : w.cell ≡ Full v) (gets : got_by (task_of w p) v ≡ g) where
    asks_there : (st : Stands w) (from : Place) (z : Within) → Entrance (stage_at w.behind.stages p) (Begin Call.Poll i) z (position_at w.behind.machine.positions p) from → task_of w p ≡ place_task from → (list : ListName) → is_marked_at (is_party p) (list_in list w) ≡ true → Asks from w.behind.machine.active w.behind.machine.passive
    asks_there st from z d task Active marked =
        let listed : 0 < entries_of p w.active = marked_listed p w.active marked in
        let at = d.in_active refl (standing_at w p st ∙ pending) (rw (sym (ap (entries_of p) (active_is w st) ∙ st.cell.active_owners p)) listed) in
        let R : Place → Type 0 = λ e. Asks e w.behind.machine.active w.behind.machine.passive in
        subst R (sym at.1) (ap (is_marked_at (is_party p)) (sym (active_is w st)) ∙ marked, got_so at.0 v ∙ (ap (λ e. got_by e v) (sym (task ∙ ap place_task at.1)) ∙ gets))
    asks_there st from z d task Passive marked =
        let listed : 0 < entries_of p w.passive = marked_listed p w.passive marked in
        let at = d.in_passive refl (standing_at w p st ∙ pending) (rw (sym (ap (entries_of p) (passive_is w st) ∙ st.cell.passive_owners p)) listed) in
        let R : Place → Type 0 = λ e. Asks e w.behind.machine.active w.behind.machine.passive in
        subst R (sym at) (ap (is_marked_at (is_party p)) (sym (passive_is w st)) ∙ marked, ap (λ e. got_by e v) (sym (task ∙ ap place_task at)) ∙ gets)

    asks_begun : (list : ListName) → is_marked_at (is_party p) (list_in list w) ≡ true → (b : Answer) (y : World) → Steps w (beginning p Call.Poll i) b y → Readies b y
    asks_begun list marked b y s = subst (λ z. Readies b z) (sym s.did.stands.seen) (by_step w.behind y.behind (beginning p Call.Poll i) b s.did.stood.cell s.did.stood.fits s.did.stands.cell s.did.stands.fits (λ d z. Readies d (view_of z))
        (λ e. absurd (poll_possible (standing_of w p) i Call.Poll (inl refl) pending (called_so ∙ e))) (λ z e f. absurd (pending_first (standing_of w p) (Begin Call.Poll i) pending (again_so ∙ f)))
        (λ z k. asked w.behind y.behind (Begin Call.Poll i) b z k refl (sym (cell_is w s.did.stood) ∙ full) (asks_there s.did.stood k.from z (entered_at w (beginning p Call.Poll i) b y s z k) (poll_task p i w b y s z k) list marked)) s.did.step) where
          standing_so : standing_of w p ≡ stands_as (verdict (position_at w.behind.machine.positions p)) (stage_at w.behind.stages p)
          standing_so = sym (standing_at w p s.did.stood)

          called_so : call_of w (beginning p Call.Poll i) ≡ call_at knows (stage_at w.behind.stages p) (Begin Call.Poll i)
          called_so = ap (λ z. call_in knows z (Begin Call.Poll i)) standing_so ∙ call_seen knows (verdict (position_at w.behind.machine.positions p)) (stage_at w.behind.stages p) (Begin Call.Poll i)

          again_so : is_poll_after_ready (standing_of w p) (Begin Call.Poll i) ≡ polls_again (stage_at w.behind.stages p) (Begin Call.Poll i)
          again_so = ap (λ z. is_poll_after_ready z (Begin Call.Poll i)) standing_so ∙ again_seen (verdict (position_at w.behind.machine.positions p)) (stage_at w.behind.stages p) (Begin Call.Poll i)

  pub ready_told : (w : World) → got_by (task_of w p) v ≡ g → (known : Known) (n : ℕ) (a : Answer) (u : World) → Runs known w (moves_of p Call.Poll i n) (answers_of n a) u → a ≢ Answer.Stepped → standing_of w p ≡ outside Rest.Pending → (list : ListName) → is_marked_at (is_party p) (list_in list w) ≡ true → w.cell ≡ Full v → a ≡ Answer.Ready g
  ready_told w gets known n a u runs ended pending list marked full = along Steps learn HoldsWell p i IsLooking IsReady looks_on known n w (beginning p Call.Poll i) a u (λ b x s. asks_begun w pending full gets list marked b x s) ended runs

pub keeps_promises : (known : Known) (w : World) (p : ℕ) (c : Call) (i : Inputs) (n : ℕ) (a : Answer) (v : World) → Runs known w (moves_of p c i n) (answers_of n a) v → a ≢ Answer.Stepped → Promises w p c i a v
keeps_promises known w p c i n a v runs ended = record {
  first = λ h empty. comes_to p i (given (task_then (Begin c i) (task_of w p)) i.made) known w c n a v runs ended (first_begins p i w c h empty);
  solo = λ e pending marked empty. (let P : Call → Type 0 = λ c. Runs known w (moves_of p c i n) (answers_of n a) v in comes_to p i (given (task_of w p) i.made) known w Call.Poll n a v (subst P e runs) ended (solo_begins p i w pending marked empty));
  maker = λ e pending making. (let P : Call → Type 0 = λ c. Runs known w (moves_of p c i n) (answers_of n a) v in comes_to p i (given (task_of w p) i.made) known w Call.Poll n a v (subst P e runs) ended (maker_begins p i w pending making));
  dropped = λ e pending making. (let P : Call → Type 0 = λ c. Runs known w (moves_of p c i n) (answers_of n a) v in comes_to p i no_task known w Call.Drop n a v (subst P e runs) ended (drop_begins p i w pending making));
  full = λ e pending list x marked full. (let P : Call → Type 0 = λ c. Runs known w (moves_of p c i n) (answers_of n a) v in ready_told p i (got_by (task_of w p) x) x w refl known n a v (subst P e runs) ended pending list marked full);
  hands_on = λ e pending list listed. (let P : Call → Type 0 = λ c. Runs known w (moves_of p c i n) (answers_of n a) v in hands_on p i list known w n a v (subst P e runs) ended pending listed);
}
