-- A call that waits for the turn at its end, and hasn't waited for too long, has notified nobody for the turn, where nobody is starved for it.
use Rattle.world_rwlock.proofs.Prelude.{◌≡◌, ◌≢◌, ℕ, ◌<◌, ◌⊎◌, inl, inr, Bool, true, false, List, Option, Some, None, is_some, refl, arith, ap, sym, ◌∙◌, subst, get_or-set_same, false≢true, true≢false, Entry, entries_of, Account, accounts_after, Answer, Call, Value, Inputs, What, Begin, Go, Refusal, Rest, Within, how_many, Move, Standing, outside, inputs_of, refused, StandsAfter, going_on, moves_of, answers_of, some_eq, beginning, along, Onward, TurnCourse, decision, is_counting, listed, decided_then, starved, Mutex, turn_at, End as TurnEnd, TurnStep, Found, Place, Purpose, Ending, action_of, next_of, place_after, OnTurn, place_at, fits_turn, waits_for_turn, Runs, HoldsWell, call_of, World, standing_of, Stands, Moved, view_of}
use Rattle.world_base.specs.Marks.{MarksNobody}
use Rattle.world_base.proofs.Marks.{marks_more}
use Rattle.world_mutex.proofs.of_machine.callers.Silent.{out_silent, waiting_silent, undecided_silent, never_pending, step_marks}
use Rattle.world_rwlock.proofs.of_machine.stages.Leads.{Led, led}
use Rattle.world_rwlock.proofs.bound.Alone.{laws}
use Rattle.world_rwlock.proofs.step.Acting.{Acting, Way, impossible, over, puts, acts, way, fit}
use Rattle.world_rwlock.proofs.bound.AloneSeen.{in_turn_list, future}
use Rattle.world_rwlock.proofs.whole.Promises.{turn_uncounted, begins_quiet, starved_behind}

-- ---- a party that doesn't wait for the turn, or is decided there, neither waits for it nor tries to take it again in this call

abbrev pub is_past : Place → TurnCourse → Bool
is_past (Place.EnterTurn q) t = false
is_past (Place.WaitTurn q) t = false
is_past (Place.TryTurn q) t = false
is_past (Place.TakeTurn q) t = is_some (decision t)
is_past _ t = true

past_waits : (x : Place) (t : TurnCourse) → is_past x t ≡ true → waits_for_turn x ≡ false
past_waits (Place.WaitTurn q) t h = absurd (false≢true h)
past_waits _ t h = refl

abbrev pub enters : Place → Bool
enters (Place.EnterTurn q) = true
enters (Place.WaitTurn q) = true
enters (Place.TakeTurn q) = true
enters _ = false

-- no place leads there but those of a poll that takes the turn
pub stays_past : (x : Place) (f : Found) (t : TurnCourse) → enters x ≡ false → is_past (place_after (next_of x f)) t ≡ true
stays_past Place.Out f t h = refl
stays_past (Place.Made w) f t h = refl
stays_past Place.Reading f t h = refl
stays_past Place.Upgradable f t h = refl
stays_past Place.Writing f t h = refl
stays_past (Place.EnterRead told) Found.Done t h = refl
stays_past (Place.EnterRead told) Found.Writer t h = refl
stays_past (Place.EnterRead true) _ t h = refl
stays_past (Place.EnterRead false) _ t h = refl
stays_past (Place.JoinNoWriter told) Found.Done t h = refl
stays_past (Place.JoinNoWriter true) _ t h = refl
stays_past (Place.JoinNoWriter false) _ t h = refl
stays_past (Place.LookNoWriter told) Found.Done t h = refl
stays_past (Place.LookNoWriter told) Found.Writer t h = refl
stays_past (Place.LookNoWriter told) _ t h = refl
stays_past Place.AskNoWriter Found.Yes t h = refl
stays_past Place.AskNoWriter _ t h = refl
stays_past Place.PassOn f t h = refl
stays_past Place.LeaveNoWriter f t h = refl
stays_past (Place.RefuseLeave true) f t h = refl
stays_past (Place.RefuseLeave false) f t h = refl
stays_past (Place.RefuseNotify r) f t h = refl
stays_past Place.CancelRead f t h = refl
stays_past Place.TryRead Found.Done t h = refl
stays_past Place.TryRead _ t h = refl
stays_past (Place.EnterTurn q) f t h = absurd (true≢false h)
stays_past (Place.WaitTurn q) f t h = absurd (true≢false h)
stays_past (Place.TakeTurn q) f t h = absurd (true≢false h)
stays_past (Place.TryTurn Purpose.UpgradableRead) (Found.Turn (TurnStep.End TurnEnd.Got)) t h = refl
stays_past (Place.TryTurn Purpose.Write) (Found.Turn (TurnStep.End TurnEnd.Got)) t h = refl
stays_past (Place.TryTurn q) (Found.Turn (TurnStep.End _)) t h = refl
stays_past (Place.TryTurn q) (Found.Turn TurnStep.More) t h = refl
stays_past (Place.TryTurn q) _ t h = refl
stays_past Place.CancelTurn (Found.Turn TurnStep.More) t h = refl
stays_past Place.CancelTurn (Found.Turn (TurnStep.End e)) t h = refl
stays_past Place.CancelTurn _ t h = refl
stays_past Place.CancellingTurn (Found.Turn TurnStep.More) t h = refl
stays_past Place.CancellingTurn (Found.Turn (TurnStep.End e)) t h = refl
stays_past Place.CancellingTurn _ t h = refl
stays_past (Place.ReleaseTurn Ending.GivenBack) (Found.Turn TurnStep.More) t h = refl
stays_past (Place.ReleaseTurn Ending.GivenBack) (Found.Turn (TurnStep.End n)) t h = refl
stays_past (Place.ReleaseTurn Ending.GivenBack) _ t h = refl
stays_past (Place.ReleaseTurn (Ending.NotFree q)) (Found.Turn TurnStep.More) t h = refl
stays_past (Place.ReleaseTurn (Ending.NotFree q)) (Found.Turn (TurnStep.End n)) t h = refl
stays_past (Place.ReleaseTurn (Ending.NotFree q)) _ t h = refl
stays_past (Place.ReleaseTurn Ending.RefuseReaders) (Found.Turn TurnStep.More) t h = refl
stays_past (Place.ReleaseTurn Ending.RefuseReaders) (Found.Turn (TurnStep.End n)) t h = refl
stays_past (Place.ReleaseTurn Ending.RefuseReaders) _ t h = refl
stays_past (Place.ReleaseTurn Ending.RefuseMemory) (Found.Turn TurnStep.More) t h = refl
stays_past (Place.ReleaseTurn Ending.RefuseMemory) (Found.Turn (TurnStep.End n)) t h = refl
stays_past (Place.ReleaseTurn Ending.RefuseMemory) _ t h = refl
stays_past (Place.ReleaseTurn Ending.Reading) (Found.Turn TurnStep.More) t h = refl
stays_past (Place.ReleaseTurn Ending.Reading) (Found.Turn (TurnStep.End n)) t h = refl
stays_past (Place.ReleaseTurn Ending.Reading) _ t h = refl
stays_past (Place.ReleaseTurn Ending.NotifyReaders) (Found.Turn TurnStep.More) t h = refl
stays_past (Place.ReleaseTurn Ending.NotifyReaders) (Found.Turn (TurnStep.End n)) t h = refl
stays_past (Place.ReleaseTurn Ending.NotifyReaders) _ t h = refl
stays_past (Place.ReleasingTurn Ending.GivenBack) _ t h = refl
stays_past (Place.ReleasingTurn (Ending.NotFree q)) _ t h = refl
stays_past (Place.ReleasingTurn Ending.RefuseReaders) _ t h = refl
stays_past (Place.ReleasingTurn Ending.RefuseMemory) _ t h = refl
stays_past (Place.ReleasingTurn Ending.Reading) _ t h = refl
stays_past (Place.ReleasingTurn Ending.NotifyReaders) _ t h = refl
stays_past (Place.Add true) Found.Done t h = refl
stays_past (Place.Add true) _ t h = refl
stays_past (Place.Add false) Found.Done t h = refl
stays_past (Place.Add false) _ t h = refl
stays_past Place.TryUpgrade Found.Done t h = refl
stays_past Place.TryUpgrade _ t h = refl
stays_past Place.Upgrade _ t h = refl
stays_past Place.Mark Found.NoneLeft t h = refl
stays_past Place.Mark _ t h = refl
stays_past Place.TryWrite Found.Done t h = refl
stays_past Place.TryWrite _ t h = refl
stays_past (Place.JoinNoReaders true) Found.Done t h = refl
stays_past (Place.JoinNoReaders true) _ t h = refl
stays_past (Place.JoinNoReaders false) Found.Done t h = refl
stays_past (Place.JoinNoReaders false) _ t h = refl
stays_past (Place.LookNoReaders u) Found.NoneLeft t h = refl
stays_past (Place.LookNoReaders u) _ t h = refl
stays_past (Place.AskNoReaders u) Found.Yes t h = refl
stays_past (Place.AskNoReaders u) _ t h = refl
stays_past (Place.AwaitNoReaders u) Found.NoneLeft t h = refl
stays_past (Place.AwaitNoReaders u) _ t h = refl
stays_past (Place.LookUnlisted u) Found.NoneLeft t h = refl
stays_past (Place.LookUnlisted u) _ t h = refl
stays_past Place.LeaveNoReaders _ t h = refl
stays_past Place.DropRead Found.NoneLeft t h = refl
stays_past Place.DropRead _ t h = refl
stays_past Place.DropReadNotify _ t h = refl
stays_past Place.DropUpgradable Found.NoneLeft t h = refl
stays_past Place.DropUpgradable _ t h = refl
stays_past Place.DropUpgradableNotify _ t h = refl
stays_past Place.DropWrite _ t h = refl
stays_past Place.CancelAwait _ t h = refl
stays_past (Place.Unmark true) _ t h = refl
stays_past (Place.Unmark false) _ t h = refl
stays_past (Place.UnmarkNotify true) _ t h = refl
stays_past (Place.UnmarkNotify false) _ t h = refl
stays_past (Place.Down true) _ t h = refl
stays_past (Place.Down false) _ t h = refl
stays_past Place.DownNotify _ t h = refl
stays_past Place.DowngradeNotify _ t h = refl

-- ---- a step of a poll that takes the turn

-- what was decided there on another end than pending is past
decided_past : (x : Place) (q : Purpose) (s : TurnStep) (e : TurnEnd) (to : TurnCourse) → x ≡ Place.TakeTurn q → Led x (Found.Turn s) to → decided_then s to ≡ Some e → (e ≡ TurnEnd.Pending → ⊥) → is_past (place_after (next_of x (Found.Turn s))) to ≡ true
decided_past (Place.TakeTurn q) r TurnStep.More e to at l d f = ap is_some d
decided_past (Place.TakeTurn Purpose.UpgradableRead) r (TurnStep.End TurnEnd.Got) e to at l d f = refl
decided_past (Place.TakeTurn Purpose.Write) r (TurnStep.End TurnEnd.Got) e to at l d f = refl
decided_past (Place.TakeTurn q) r (TurnStep.End TurnEnd.Pending) e to at l d f = absurd (f (sym (some_eq d)))
decided_past (Place.TakeTurn q) r (TurnStep.End (TurnEnd.Refused n)) e to at l d f = refl
decided_past (Place.TakeTurn q) r (TurnStep.End _) e to at l d f = absurd l
decided_past x r s e to at l d f = absurd (cc at)

none_of : (o : Option TurnEnd) → is_some o ≡ false → o ≡ None
none_of None h = refl
none_of (Some e) h = absurd (true≢false h)

some_of : (o : Option TurnEnd) → is_some o ≡ true → (e : TurnEnd) × (o ≡ Some e)
some_of (Some e) h = (e, refl)
some_of None h = absurd (false≢true h)

module _ (memory starving : Bool) (p : ℕ) (l k : Mutex) where
  abbrev was : TurnCourse
  was = turn_at l.courses p

  abbrev is : TurnCourse
  is = turn_at k.courses p

  take_past : (x : Place) (f : Found) → OnTurn memory starving p (action_of x) f l k → Led x f is → enters x ≡ true → is_past x was ≡ true → is_past (place_after (next_of x f)) is ≡ true
  take_past (Place.EnterTurn q) f o led h past = absurd (false≢true past)
  take_past (Place.WaitTurn q) f o led h past = absurd (false≢true past)
  take_past (Place.TakeTurn q) (Found.Turn s) o led h past =
      let d = some_of (decision was) past in
      decided_past (Place.TakeTurn q) q s d.0 is refl led (o.legal.kept d.0 d.1).0 (λ e. never_pending was (d.1 ∙ ap Some e))
  take_past (Place.TakeTurn q) _ o led h past = absurd o
  take_past _ f o led h past = absurd (false≢true h)

  take_marks : (x : Place) (f : Found) → fits_turn x was ≡ true → OnTurn memory starving p (action_of x) f l k → enters x ≡ true → is_past x was ≡ false → starved l ≡ 0 → is_counting was ≡ false → MarksNobody p l.entries k.entries
  take_marks (Place.EnterTurn q) (Found.Turn s) fits o h past none quiet = step_marks memory p None s l k o.legal refl (out_silent was fits)
  take_marks (Place.EnterTurn q) _ fits o h past none quiet = absurd o
  take_marks (Place.WaitTurn q) (Found.Turn s) fits o h past none quiet = step_marks memory p None s l k o.legal refl (waiting_silent was fits)
  take_marks (Place.WaitTurn q) _ fits o h past none quiet = absurd o
  take_marks (Place.TakeTurn q) (Found.Turn s) fits o h past none quiet =
      let midway : decision was ≡ None = none_of (decision was) past in
      step_marks memory p (decision was) s l k o.legal midway (undecided_silent l p none midway quiet)
  take_marks (Place.TakeTurn q) _ fits o h past none quiet = absurd o
  take_marks _ f fits o h past none quiet = absurd (false≢true h)

-- ---- along a whole call

module _ (p : ℕ) (i : Inputs) (patient : i.starving ≡ false) (l0 : List (Entry ℕ)) where
  abbrev turn_of : World → Mutex
  turn_of y = y.behind.machine.lock.turn

  abbrev at : World → Place
  at y = place_at y.behind.machine.lock.places p

  abbrev there : World → TurnCourse
  there y = turn_at y.behind.machine.lock.turn.courses p

  record Silent (y : World) : Type 0 where
    pub unstarved : starved (turn_of y) ≡ 0
    pub uncounting : is_counting (there y) ≡ false
    pub kept : MarksNobody p l0 (turn_of y).entries

  abbrev Calm : World → Type 0
  Calm y = (is_past (at y) (there y) ≡ true) ⊎ Silent y

  record Done (b : Answer) (y : World) : Type 0 where
    pub stands : Stands y
    pub outside : b ≡ Answer.Pending → standing_of y p ≡ outside Rest.Pending
    pub kept : b ≡ Answer.Pending → waits_for_turn (at y) ≡ true → MarksNobody p l0 (turn_of y).entries

  abbrev Then : Answer → World → Type 0
  Then a v = Onward Calm Done a v

  kept_so : (y : World) → Calm y → waits_for_turn (at y) ≡ true → MarksNobody p l0 (turn_of y).entries
  kept_so y (inl past) h = absurd (true≢false (sym h ∙ past_waits (at y) (there y) past))
  kept_so y (inr s) h = s.kept

  stepped : (x v : World) (what : What) (a : Answer) (w : Within) → (inputs_of what).starving ≡ false → (c : Acting x.behind v.behind (record { party = p; what = what }) a w) → (is_past c.from (there x) ≡ true) ⊎ Silent x → Calm v
  stepped x v what a w quiet c before = by_place (enters c.from) refl (is_past c.from (there x)) refl before where
    memory : Bool
    memory = (inputs_of what).memory

    f : Found
    f = c.acts.found

    took : OnTurn memory false p (action_of c.from) f (turn_of x) (turn_of v)
    took = let O : Bool → Type 0 = λ b. OnTurn memory b p (action_of c.from) f (turn_of x) (turn_of v) in subst O quiet c.acts.turn

    fits : fits_turn c.from (there x) ≡ true
    fits = fit x.behind v.behind (record { party = p; what = what }) a w c

    lands : at v ≡ place_after (next_of c.from f)
    lands =
        ap (λ xs. place_at xs p) c.acts.places
        ∙ (get_or-set_same x.behind.machine.lock.places p (place_after c.next) Place.Out (omega (arith, c.old.fits.as_many, c.inside)) ∙ ap place_after c.acts.next_is)

    past_then : is_past (place_after (next_of c.from f)) (there v) ≡ true → Calm v
    past_then h = inl (ap (λ z. is_past z (there v)) lands ∙ h)

    by_place : (b : Bool) → enters c.from ≡ b → (d : Bool) → is_past c.from (there x) ≡ d → (is_past c.from (there x) ≡ true) ⊎ Silent x → Calm v
    by_place false apart d e h = past_then (stays_past c.from f (there v) apart)
    by_place true into true e h = past_then (take_past memory false p (turn_of x) (turn_of v) c.from f took (led memory false p (turn_of x) (turn_of v) c.from f took fits) into e)
    by_place true into false e (inl past) = absurd (true≢false (sym past ∙ e))
    by_place true into false e (inr s) =
        let still = turn_uncounted memory p (turn_of x) (turn_of v) s.unstarved s.uncounting (action_of c.from) f took in
        inr (record {
          unstarved = still.0;
          uncounting = still.1;
          kept = marks_more p l0 (turn_of x).entries (turn_of v).entries s.kept (take_marks memory false p (turn_of x) (turn_of v) c.from f fits took into e s.unstarved s.uncounting);
        })

  pending_stands : (u : Within) (b : Answer) (t : Standing) → b ≡ Answer.Pending → StandsAfter Rest.Holding u b t → t ≡ outside Rest.Pending
  pending_stands u Answer.Pending t e s = s.1
  pending_stands u _ t e s = absurd (cc e)

  ends_pending : (x : World) (what : What) (a : Answer) (v : World) → Moved x (record { party = p; what = what }) a v → a ≡ Answer.Pending → standing_of v p ≡ outside Rest.Pending
  ends_pending x what a v s is = by_call (call_of x m) refl where
    m : Move
    m = record { party = p; what = what }

    by_call : (o : Option Within) → call_of x m ≡ o → standing_of v p ≡ outside Rest.Pending
    by_call None e = let no = s.legal.possible.exactly.1 e in absurd (cc (sym is ∙ no))
    by_call (Some u) e = pending_stands u a (standing_of v p) is (s.legal.ends_properly.stands u e)

  moved : (x : World) (what : What) (a : Answer) (v : World) → (inputs_of what).starving ≡ false → Moved x (record { party = p; what = what }) a v
      → ((w : Within) (c : Acting x.behind v.behind (record { party = p; what = what }) a w) → (is_past c.from (there x) ≡ true) ⊎ Silent x) → Then a v
  moved x what a v quiet s before = by_way (way x.behind v.behind m a (laws x s.did.stood) (laws v s.did.stands) s.did.step) where
    m : Move
    m = record { party = p; what = what }

    ends : (b : Answer) → a ≡ b → (b ≡ Answer.Stepped → ⊥) → (b ≡ Answer.Pending → ⊥) → Then a v
    ends b is f g = record {
      going = λ e. absurd (f (sym is ∙ e));
      ended = λ e. record { stands = s.did.stands; outside = λ y. absurd (g (sym is ∙ y)); kept = λ y. absurd (g (sym is ∙ y)) };
    }

    by_way : Way x.behind v.behind m a → Then a v
    by_way (impossible e ea eu) = ends Answer.NotPossible ea (λ y. cc y) (λ y. cc y)
    by_way (over w e f ea eu) = ends (refused Refusal.Finished) ea (λ y. cc y) (λ y. cc y)
    by_way (puts w n in_table o e ea eu) = ends (Answer.Granted (Value n)) ea (λ y. cc y) (λ y. cc y)
    by_way (acts w c) =
        let calm = stepped x v what a w quiet c (before w c) in
        record { going = λ e. calm; ended = λ e. record { stands = s.did.stands; outside = ends_pending x what a v s; kept = λ y. kept_so v calm } }

  onward : (x : World) (a : Answer) (v : World) → Calm x → Moved x (going_on p i) a v → Then a v
  onward x a v g s = moved x (Go i) a v patient s (λ w c. here w c g) where
    here : (w : Within) (c : Acting x.behind v.behind (going_on p i) a w) → Calm x → (is_past c.from (there x) ≡ true) ⊎ Silent x
    here w c (inl past) = inl (ap (λ z. is_past z (there x)) (sym (some_eq c.starts)) ∙ past)
    here w c (inr k) = inr k

  first : (c : Call) (x : World) → starved (turn_of x) ≡ 0 → MarksNobody p l0 (turn_of x).entries → (a : Answer) (v : World) → Moved x (beginning p c i) a v → Then a v
  first c x none kept a v s = moved x (Begin c i) a v patient s (λ w k. inr (record { unstarved = none; uncounting = begins_quiet x v p c i a w k; kept = kept }))

pub tells_nobody_at_end : (known : ℕ → Account) (w : World) (p : ℕ) (c : Call) (i : Inputs) (n : ℕ) (a : Answer) (v : World) → Stands w → Runs known w (moves_of p c i n) (answers_of n a) v → a ≢ Answer.Stepped → i.starving ≡ false → how_many w.state.starved ≡ 0 → a ≡ Answer.Pending → 0 < entries_of p v.turn_list → MarksNobody p w.turn_list v.turn_list
tells_nobody_at_end known w p c i n a v stood runs ended patient none is there =
    let l0 = w.behind.machine.lock.turn.entries in
    let zero : starved w.behind.machine.lock.turn ≡ 0 = sym (starved_behind w stood) ∙ none in
    let done : Done p i patient l0 a v = along Moved accounts_after HoldsWell p i (Calm p i patient l0) (Done p i patient l0) (onward p i patient l0) known n w (beginning p c i) a v (first p i patient l0 c w zero (λ q apart h. h)) ended runs in
    let pending : standing_of (view_of v.behind) p ≡ outside Rest.Pending = ap (λ y. standing_of y p) (sym done.stands.seen) ∙ done.outside is in
    let x = place_at v.behind.machine.lock.places p in
    let t = turn_at v.behind.machine.lock.turn.courses p in
    let own : entries_of p v.turn_list ≡ listed t = ap (λ y. entries_of p y.turn_list) done.stands.seen ∙ done.stands.laws.turn.owners p in
    let waits : waits_for_turn x ≡ true = in_turn_list t x (future v p i done.stands.laws done.stands.fits pending) (done.stands.laws.in_turn p) (omega (arith, own, there)) in
    let M : List (Entry ℕ) → Type 0 = λ l. MarksNobody p l v.turn_list in
    let N : List (Entry ℕ) → Type 0 = λ l. MarksNobody p l0 l in
    subst M (sym (ap (λ y. y.turn_list) stood.seen)) (subst N (sym (ap (λ y. y.turn_list) done.stands.seen)) (done.kept is waits))
