-- Beside a starved party no call takes the turn but a poll for which its party was notified.
use Rattle.world_rwlock.proofs.Prelude.{◌≡◌, ◌≢◌, ℕ, ◌<◌, ◌⊎◌, inl, inr, Bool, true, false, Some, refl, arith, ap, sym, ◌∙◌, subst, nat_tests, cases_Bool, get_or-set_same, if◌then◌else◌, false≢true, true≢false, is_marked_at, is_party, Account, accounts_after, Answer, Call, Inputs, What, Begin, Go, Refusal, Rest, Stage, Outside, Inside, Forgotten, Within, how_many, Move, outside, inputs_of, refused, going_on, moves_of, answers_of, some_eq, none_some, beginning, along, Onward, TurnCourse, is_out, is_taking, holds, is_holder, starved, Mutex, turn_at, holder_of, out_free, waiting_free, waiting_listed, releasing_free, End as TurnEnd, TurnStep, Takes, Tries, Releases, Cancels, Found, Place, Purpose, Wanted, LockCall, Action, action_of, next_of, place_after, after_lock, first_poll, start_of, OnTurn, place_at, fits_turn, stage_at, call_at, goes_with, Runs, HoldsWell, World, standing_of, standing_at, HasTurn, Stands, Moved, answer_by, view_of}
use Rattle.std.specs.Prelude.{nat_lt}
use Rattle.world_mutex.specs.machine.Course as course
use Rattle.world_mutex.specs.machine.Conduct.{is_some_starved, IsUntold, StaysUntold}
use Rattle.world_mutex.proofs.of_machine.callers.Holders as sees
use Rattle.world_rwlock.proofs.bound.Alone.{laws}
use Rattle.world_rwlock.proofs.step.Acting.{Acting, Way, impossible, over, puts, acts, way, fit, says, begins_apart}
use Rattle.world_rwlock.proofs.step.Idle.{stood}
use Rattle.world_rwlock.proofs.step.Owns as owns
use Rattle.world_rwlock.proofs.step.Refusing.{has_by}
use Rattle.world_rwlock.proofs.whole.Newcomers.{away, away_enters}
use Rattle.world_rwlock.proofs.whole.Promises.{starved_behind}
use Rattle.world_rwlock.proofs.whole.Ring.{stays_past}

-- ---- who hasn't the turn

untold_free : (c : TurnCourse) → course.is_untold true c ≡ true → holds c ≡ 0
untold_free (course.taking course.has_lock a b d) h = absurd (false≢true h)
untold_free (course.taking _ a b d) h = refl
untold_free (course.waiting b) h = refl
untold_free _ h = absurd (false≢true h)

cancels_free : (s : TurnStep) (c : TurnCourse) → Cancels s c → holds c ≡ 0
cancels_free TurnStep.More (course.cancelling b) h = refl
cancels_free TurnStep.More _ h = absurd (false≢true h)
cancels_free (TurnStep.End TurnEnd.GivenBack) c h = out_free c (ap is_out h)
cancels_free (TurnStep.End _) c h = absurd h

releases_free : (s : TurnStep) (c : TurnCourse) → Releases s c → holds c ≡ 0
releases_free TurnStep.More c h = releasing_free c h
releases_free (TurnStep.End TurnEnd.GivenBack) c h = out_free c (ap is_out h)
releases_free (TurnStep.End _) c h = absurd h

module _ (memory starving : Bool) (p : ℕ) (l k : Mutex) where
  abbrev was : TurnCourse
  was = turn_at l.courses p

  abbrev now : TurnCourse
  now = turn_at k.courses p

  stays_free : (x : Place) (f : Found) → away x ≡ true → fits_turn x was ≡ true → OnTurn memory starving p (action_of x) f l k → holds was ≡ 0 → holds now ≡ 0
  stays_free (Place.EnterTurn q) f h fits o z = absurd (false≢true h)
  stays_free (Place.WaitTurn q) f h fits o z = absurd (false≢true h)
  stays_free (Place.TakeTurn q) f h fits o z = absurd (false≢true h)
  stays_free (Place.TryTurn q) f h fits o z = absurd (false≢true h)
  stays_free Place.CancelTurn (Found.Turn n) h fits o z = cancels_free n now o.leads
  stays_free Place.CancelTurn _ h fits o z = absurd o
  stays_free Place.CancellingTurn (Found.Turn n) h fits o z = cancels_free n now (o.leads.cancels fits)
  stays_free Place.CancellingTurn _ h fits o z = absurd o
  stays_free (Place.ReleaseTurn e) (Found.Turn n) h fits o z = releases_free n now o.leads
  stays_free (Place.ReleaseTurn e) _ h fits o z = absurd o
  stays_free (Place.ReleasingTurn e) (Found.Turn n) h fits o z = out_free now (ap is_out (o.leads.releases fits).1)
  stays_free (Place.ReleasingTurn e) _ h fits o z = absurd o
  stays_free _ f h fits o z = ap (λ (m : Mutex). holds (turn_at m.courses p)) o ∙ z

-- ---- only a poll of a pending party begins where one waits for the turn

waits_first : (w : Wanted) (q : Purpose) → first_poll w ≡ Place.WaitTurn q → ⊥
waits_first Wanted.Read q e = absurd (cc e)
waits_first Wanted.UpgradableRead q e = absurd (cc e)
waits_first Wanted.Write q e = absurd (cc e)

abbrev Waits : Call → Place → Purpose → Type 0
Waits c x q = (c ≡ Call.Poll) × (x ≡ Place.WaitTurn q)

begins_waiting : (c : Call) (x : Place) (q : Purpose) → start_of c x ≡ Some (Place.WaitTurn q) → Waits c x q
begins_waiting Call.Read Place.Out q e = absurd (cc (some_eq e))
begins_waiting Call.UpgradableRead Place.Out q e = absurd (cc (some_eq e))
begins_waiting Call.Write Place.Out q e = absurd (cc (some_eq e))
begins_waiting Call.TryRead Place.Out q e = absurd (cc (some_eq e))
begins_waiting Call.TryUpgradableRead Place.Out q e = absurd (cc (some_eq e))
begins_waiting Call.TryWrite Place.Out q e = absurd (cc (some_eq e))
begins_waiting Call.Poll (Place.Made w) q e = absurd (waits_first w q (some_eq e))
begins_waiting Call.Poll Place.AskNoWriter q e = absurd (cc (some_eq e))
begins_waiting Call.Poll (Place.WaitTurn r) q e = (refl, some_eq e)
begins_waiting Call.Poll (Place.AwaitNoReaders upgrade) q e = absurd (cc (some_eq e))
begins_waiting Call.Poll (Place.LookUnlisted true) q e = absurd (cc (some_eq e))
begins_waiting Call.Poll (Place.LookUnlisted false) q e = absurd (none_some e)
begins_waiting Call.Poll _ q e = absurd (none_some e)
begins_waiting Call.Drop (Place.Made w) q e = absurd (cc (some_eq e))
begins_waiting Call.Drop Place.AskNoWriter q e = absurd (cc (some_eq e))
begins_waiting Call.Drop (Place.WaitTurn r) q e = absurd (cc (some_eq e))
begins_waiting Call.Drop (Place.AwaitNoReaders upgrade) q e = absurd (cc (some_eq e))
begins_waiting Call.Drop (Place.LookUnlisted true) q e = absurd (cc (some_eq e))
begins_waiting Call.Drop (Place.LookUnlisted false) q e = absurd (none_some e)
begins_waiting Call.Drop Place.Reading q e = absurd (cc (some_eq e))
begins_waiting Call.Drop Place.Upgradable q e = absurd (cc (some_eq e))
begins_waiting Call.Drop Place.Writing q e = absurd (cc (some_eq e))
begins_waiting Call.Drop _ q e = absurd (none_some e)
begins_waiting Call.Upgrade Place.Upgradable q e = absurd (cc (some_eq e))
begins_waiting Call.TryUpgrade Place.Upgradable q e = absurd (cc (some_eq e))
begins_waiting Call.Downgrade Place.Upgradable q e = absurd (cc (some_eq e))
begins_waiting Call.Downgrade Place.Writing q e = absurd (cc (some_eq e))
begins_waiting Call.DowngradeToUpgradable Place.Writing q e = absurd (cc (some_eq e))
begins_waiting _ _ q e = absurd (none_some e)

pending_there : (knows : Call → Bool) (s : Stage) (c : Call) (i : Inputs) (w : Within) (q : Purpose) → call_at knows s (Begin c i) ≡ Some w → goes_with s (Place.WaitTurn q) ≡ true → s ≡ Outside Rest.Pending
pending_there knows (Outside Rest.Pending) c i w q e g = refl
pending_there knows (Outside Rest.Idle) c i w q e g = absurd (false≢true g)
pending_there knows (Outside Rest.Holding) c i w q e g = absurd (false≢true g)
pending_there knows (Outside Rest.Finished) c i w q e g = absurd (false≢true g)
pending_there knows (Inside u) c i w q e g = absurd (none_some e)
pending_there knows Forgotten c i w q e g = absurd (none_some e)

-- ---- along a whole call

module _ (p : ℕ) (i : Inputs) where
  abbrev pub turn_of : World → Mutex
  turn_of y = y.behind.machine.lock.turn

  abbrev pub at : World → Place
  at y = place_at y.behind.machine.lock.places p

  abbrev pub there : World → TurnCourse
  there y = turn_at (turn_of y).courses p

  -- in a poll of the turn that took no notification
  pub record New (y : World) : Type 0 where
    pub purpose : Purpose
    pub here : at y ≡ Place.TakeTurn purpose
    pub untold : IsUntold p true (turn_of y)
    pub some : is_some_starved (turn_of y) ≡ true

  -- or away from the turn, without it
  pub record Off (y : World) : Type 0 where
    pub here : away (at y) ≡ true
    pub free : holds (there y) ≡ 0

  abbrev pub Out_of : World → Type 0
  Out_of y = New y ⊎ Off y

  abbrev pub Ended : Answer → World → Type 0
  Ended b y = holds (there y) ≡ 0

  abbrev pub Then : Answer → World → Type 0
  Then = Onward Out_of Ended

  free_now : (y : World) → Out_of y → holds (there y) ≡ 0
  free_now y (inl new) = untold_free (there y) new.untold.0
  free_now y (inr off) = off.free

  module _ (x v : World) (what : What) (a : Answer) (w : Within) (k : Acting x.behind v.behind (record { party = p; what = what }) a w) where
    abbrev m : Move
    m = record { party = p; what = what }

    abbrev f : Found
    f = k.acts.found

    abbrev On : Action → Found → Type 0
    On act d = OnTurn (inputs_of what).memory (inputs_of what).starving p act d (turn_of x) (turn_of v)

    on : (y : Place) → k.from ≡ y → On (action_of y) f
    on y e = let O : Place → Type 0 = λ z. On (action_of z) f in subst O e k.acts.turn

    lands : at v ≡ place_after (next_of k.from f)
    lands =
        ap (λ xs. place_at xs p) k.acts.places
        ∙ (get_or-set_same x.behind.machine.lock.places p (place_after k.next) Place.Out (omega (arith, k.old.fits.as_many, k.inside)) ∙ ap place_after k.acts.next_is)

    said : a ≡ answer_by x.behind.machine.value (next_of k.from f)
    said = says x.behind v.behind m a w k

    -- a step of the poll of the turn
    took : (q : Purpose) (s : TurnStep) → next_of k.from f ≡ after_lock q (Found.Turn s) → Takes s (there v) → StaysUntold p true s (turn_of v) → Then a v
    took q TurnStep.More nx takes stays =
        let stepped : a ≡ Answer.Stepped = said ∙ ap (answer_by x.behind.machine.value) nx in
        record { going = λ e. inl (record { purpose = q; here = lands ∙ ap place_after nx; untold = stays.0; some = stays.1 }); ended = λ e. absurd (e stepped) }
    took q (TurnStep.End TurnEnd.Got) nx takes stays = absurd (true≢false stays)
    took q (TurnStep.End TurnEnd.Pending) nx takes stays =
        let is : a ≡ Answer.Pending = said ∙ ap (answer_by x.behind.machine.value) nx in
        record { going = λ e. absurd (cc (sym is ∙ e)); ended = λ e. waiting_free (there v) takes }
    took q (TurnStep.End (TurnEnd.Refused Refusal.Memory)) nx takes stays =
        let is : a ≡ refused Refusal.Memory = said ∙ ap (answer_by x.behind.machine.value) nx in
        record { going = λ e. absurd (cc (sym is ∙ e)); ended = λ e. out_free (there v) (ap is_out takes) }
    took q (TurnStep.End (TurnEnd.Refused Refusal.Starved)) nx takes stays =
        let is : a ≡ refused Refusal.Starved = said ∙ ap (answer_by x.behind.machine.value) nx in
        record { going = λ e. absurd (cc (sym is ∙ e)); ended = λ e. out_free (there v) (ap is_out takes) }
    took q (TurnStep.End _) nx takes stays = absurd takes

    -- or of anything else
    goes_off : away k.from ≡ true → holds (there x) ≡ 0 → Then a v
    goes_off far free =
        let free_then : holds (there v) ≡ 0 = stays_free (inputs_of what).memory (inputs_of what).starving p (turn_of x) (turn_of v) k.from f far (fit x.behind v.behind m a w k) k.acts.turn free in
        let here : away (at v) ≡ true = ap away lands ∙ stays_past k.from f (course.waiting false) (away_enters k.from far) in
        record { going = λ e. inr (record { here = here; free = free_then }); ended = λ e. free_then }

    goes_on : New x → k.from ≡ at x → Then a v
    goes_on g same = by_found f (ap (λ y. next_of y f) from) (on (Place.TakeTurn g.purpose) from) where
      from : k.from ≡ Place.TakeTurn g.purpose
      from = same ∙ g.here

      fits : is_taking (there x) ≡ true
      fits = ap (λ y. fits_turn y (there x)) (sym from) ∙ fit x.behind v.behind m a w k

      by_found : (d : Found) → next_of k.from f ≡ next_of (Place.TakeTurn g.purpose) d → On Action.Go d → Then a v
      by_found (Found.Turn s) nx o =
          let U : Bool → Type 0 = λ c. IsUntold p c (turn_of x) in
          let S : Bool → Type 0 = λ c. StaysUntold p c s (turn_of v) in
          took g.purpose s nx (o.leads.takes fits) (subst S g.some (o.untold (subst U (sym g.some) g.untold)))
      by_found _ nx o = absurd o

    enters_so : (q : Purpose) → k.from ≡ Place.EnterTurn q → is_some_starved (turn_of x) ≡ true → Then a v
    enters_so q from some = by_found f (ap (λ y. next_of y f) from) (on (Place.EnterTurn q) from) where
      by_found : (d : Found) → next_of k.from f ≡ next_of (Place.EnterTurn q) d → On (Action.Begin LockCall.Lock) d → Then a v
      by_found (Found.Turn s) nx o =
          let S : Bool → Type 0 = λ c. StaysUntold p c s (turn_of v) in
          took q s nx o.leads (subst S some (o.untold refl))
      by_found _ nx o = absurd o

    tries_so : (q : Purpose) → k.from ≡ Place.TryTurn q → is_some_starved (turn_of x) ≡ true → Then a v
    tries_so q from some = by_found f (ap (λ y. next_of y f) from) (on (Place.TryTurn q) from) where
      by_step : (s : TurnStep) → next_of k.from f ≡ next_of (Place.TryTurn q) (Found.Turn s) → Tries s (there v) → StaysUntold p true s (turn_of v) → Then a v
      by_step (TurnStep.End TurnEnd.Got) nx t stays = absurd (true≢false stays)
      by_step (TurnStep.End TurnEnd.NotFree) nx t stays =
          let is : a ≡ Answer.None = said ∙ ap (answer_by x.behind.machine.value) nx in
          record { going = λ e. absurd (cc (sym is ∙ e)); ended = λ e. out_free (there v) (ap is_out t) }
      by_step (TurnStep.End _) nx t stays = absurd t
      by_step TurnStep.More nx t stays = absurd t

      by_found : (d : Found) → next_of k.from f ≡ next_of (Place.TryTurn q) d → On (Action.Begin LockCall.Try) d → Then a v
      by_found (Found.Turn s) nx o =
          let S : Bool → Type 0 = λ c. StaysUntold p c s (turn_of v) in
          by_step s nx o.leads (subst S some (o.untold refl))
      by_found _ nx o = absurd o

    waits_so : (q : Purpose) → k.from ≡ Place.WaitTurn q → is_marked_at (is_party p) (turn_of x).entries ≡ false → Then a v
    waits_so q from unmarked = by_found f (ap (λ y. next_of y f) from) (on (Place.WaitTurn q) from) where
      fits : course.is_waiting (there x) ≡ true
      fits = ap (λ y. fits_turn y (there x)) (sym from) ∙ fit x.behind v.behind m a w k

      by_step : (s : TurnStep) → s ≡ TurnStep.End TurnEnd.Pending → next_of k.from f ≡ next_of (Place.WaitTurn q) (Found.Turn s) → Takes s (there v) → Then a v
      by_step s is nx t =
          let T : TurnStep → Type 0 = λ z. Takes z (there v) in
          let pends : a ≡ Answer.Pending = said ∙ (ap (answer_by x.behind.machine.value) nx ∙ ap (λ z. answer_by x.behind.machine.value (next_of (Place.WaitTurn q) (Found.Turn z))) is) in
          record { going = λ e. absurd (cc (sym pends ∙ e)); ended = λ e. waiting_free (there v) (subst T is t) }

      asks : (b : Bool) (s : TurnStep) → b ≡ false → s ≡ (if b then TurnStep.More else TurnStep.End TurnEnd.Pending) → s ≡ TurnStep.End TurnEnd.Pending
      asks true s h e = absurd (true≢false h)
      asks false s h e = e

      by_found : (d : Found) → next_of k.from f ≡ next_of (Place.WaitTurn q) d → On (Action.Begin LockCall.Poll) d → Then a v
      by_found (Found.Turn s) nx o =
          let it = o.at_once.listed refl (omega (arith, k.old.lock.turn.owners p, waiting_listed (there x) fits)) in
          by_step s (asks (is_marked_at (is_party p) (turn_of x).entries) s unmarked it.step) nx o.leads
      by_found _ nx o = absurd o

  -- a move that nothing came of
  still : (b : Answer) (x v : World) → (b ≡ Answer.Stepped → ⊥) → holds (there v) ≡ 0 → Then b v
  still b x v never free = record { going = λ s. absurd (never s); ended = λ s. free }

  pub onward : (x : World) (a : Answer) (v : World) → Out_of x → Moved x (going_on p i) a v → Then a v
  onward x a v g s = by_way (way x.behind v.behind (going_on p i) a (laws x s.did.stood) (laws v s.did.stands) s.did.step) where
    same : v.behind ≡ x.behind → holds (there v) ≡ 0
    same e = ap (λ t. holds (turn_at t.machine.lock.turn.courses p)) e ∙ free_now x g

    by_way : Way x.behind v.behind (going_on p i) a → Then a v
    by_way (impossible e ea eu) = still a x v (λ y. cc (sym ea ∙ y)) (same eu)
    by_way (over w e f ea eu) = still a x v (λ y. cc (sym ea ∙ y)) (same eu)
    by_way (puts w n inside o e ea eu) = still a x v (λ y. cc (sym ea ∙ y)) (ap (λ t. holds (turn_at t.machine.lock.turn.courses p)) eu ∙ free_now x g)
    by_way (acts w k) = by_how g where
      by_how : Out_of x → Then a v
      by_how (inl new) = goes_on x v (Go i) a w k new (sym (some_eq k.starts))
      by_how (inr off) = goes_off x v (Go i) a w k (ap away (sym (some_eq k.starts)) ∙ off.here) off.free

  pub first : (c : Call) (x : World) → is_some_starved (turn_of x) ≡ true → holds (there x) ≡ 0 → (c ≡ Call.Poll → standing_of (view_of x.behind) p ≡ outside Rest.Pending → is_marked_at (is_party p) (turn_of x).entries ≡ false) → (a : Answer) (v : World) → Moved x (beginning p c i) a v → Then a v
  first c x some free quiet a v s = by_way (way x.behind v.behind m a (laws x s.did.stood) (laws v s.did.stands) s.did.step) where
    m : Move
    m = beginning p c i

    by_way : Way x.behind v.behind m a → Then a v
    by_way (impossible e ea eu) = still a x v (λ y. cc (sym ea ∙ y)) (ap (λ t. holds (turn_at t.machine.lock.turn.courses p)) eu ∙ free)
    by_way (over w e f ea eu) = still a x v (λ y. cc (sym ea ∙ y)) (ap (λ t. holds (turn_at t.machine.lock.turn.courses p)) eu ∙ free)
    by_way (puts w n inside o e ea eu) = still a x v (λ y. cc (sym ea ∙ y)) (ap (λ t. holds (turn_at t.machine.lock.turn.courses p)) eu ∙ free)
    by_way (acts w k) = by_from k.from refl where
      waits_there : (q : Purpose) → k.from ≡ Place.WaitTurn q → is_marked_at (is_party p) (turn_of x).entries ≡ false
      waits_there q from =
          let it = begins_waiting c (at x) q (k.starts ∙ ap Some from) in
          let G : Place → Type 0 = λ y. goes_with (stage_at x.behind.stages p) y ≡ true in
          let stage = pending_there _ (stage_at x.behind.stages p) c i w q k.call (subst G it.1 (k.old.fits.stands p k.inside)) in
          quiet it.0 (stood x.behind p k.old ∙ ap (λ z. standing_at x.behind.machine.value z (at x) (there x)) stage)

      by_from : (y : Place) → k.from ≡ y → Then a v
      by_from (Place.EnterTurn q) e = enters_so x v (Begin c i) a w k q e some
      by_from (Place.TryTurn q) e = tries_so x v (Begin c i) a w k q e some
      by_from (Place.WaitTurn q) e = waits_so x v (Begin c i) a w k q e (waits_there q e)
      by_from (Place.TakeTurn q) e = absurd (true≢false (begins_apart c (at x) (Place.TakeTurn q) (k.starts ∙ ap Some e)))
      by_from _ e = goes_off x v (Begin c i) a w k (ap away e) free

-- ---- as callers see it

not_so : (b : Bool) → (b ≡ true → ⊥) → b ≡ false
not_so true n = absurd (n refl)
not_so false n = refl

some_so : (k : ℕ) → 0 < k → nat_lt 0 k ≡ true
some_so k h = grind (arith, nat_tests)

pub only_told : (known : ℕ → Account) (w : World) (p : ℕ) (c : Call) (i : Inputs) (n : ℕ) (a : Answer) (v : World) → Stands w → Stands v → Runs known w (moves_of p c i n) (answers_of n a) v → a ≢ Answer.Stepped
    → 0 < how_many w.state.starved → (HasTurn w.state.turn p → ⊥) → (c ≡ Call.Poll → (standing_of w p ≡ outside Rest.Pending) × (is_marked_at (is_party p) w.turn_list ≡ true) → ⊥) → HasTurn v.state.turn p → ⊥
only_told known w p c i n a v stood_w stands runs ended some without untold has =
    let l = w.behind.machine.lock in
    let c0 = turn_at l.turn.courses p in
    let there : is_some_starved l.turn ≡ true = some_so (starved l.turn) (omega (arith, some, starved_behind w stood_w)) in
    let free : holds c0 ≡ 0 = elim (cases_Bool (is_holder c0)) as (λ _. holds c0 ≡ 0) [
      | inl held ↦ (let holder : holder_of l.turn ≡ Some p = sees.holds_it l.turn.courses p stood_w.laws.turn.one_holder (sym (sees.holds_bit c0) ∙ ap course.bit held) in
          let H : World → Type 0 = λ y. HasTurn y.state.turn p in
          absurd (without (subst H (sym stood_w.seen) (has_by (holder_of l.turn) l.places p holder))))
      | inr none ↦ sym (sees.holds_bit c0) ∙ ap course.bit none
    ] in
    let quiet : c ≡ Call.Poll → standing_of (view_of w.behind) p ≡ outside Rest.Pending → is_marked_at (is_party p) l.turn.entries ≡ false = λ is pending. not_so (is_marked_at (is_party p) l.turn.entries) (λ marked. untold is (ap (λ y. standing_of y p) stood_w.seen ∙ pending, ap (λ y. is_marked_at (is_party p) y.turn_list) stood_w.seen ∙ marked)) in
    let out : holds (turn_at v.behind.machine.lock.turn.courses p) ≡ 0 = along Moved accounts_after HoldsWell p i (Out_of p i) (Ended p i) (onward p i) known n w (beginning p c i) a v (first p i c w there free quiet) ended runs in
    let u = v.behind in
    let H : World → Type 0 = λ y. HasTurn y.state.turn p in
    owns.no_turn u.machine.lock u.stages u.opening u.machine.value stands.laws stands.fits p out (subst H stands.seen has)
