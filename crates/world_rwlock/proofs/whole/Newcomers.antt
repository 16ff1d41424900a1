-- Beside starved parties a first poll waits for the turn as one of them, or is refused; where there are none it isn't counted, nor refused for their number.
use Rattle.world_rwlock.proofs.Prelude.{◌≡◌, ◌≢◌, ℕ, ◌<◌, ◌==◌, ◌⊎◌, inl, inr, Bool, true, false, Option, Some, None, refl, arith, ap, sym, ◌∙◌, subst, nat_tests, get_or-set_same, false≢true, true≢false, Account, accounts_after, Answer, Call, Inputs, What, Begin, Go, Refusal, Rest, Inside, Forgotten, Within, how_many, Move, Standing, outside, inputs_of, refused, put_in, is_poll_after_ready, none_some, going_on, moves_of, answers_of, some_eq, beginning, along, Onward, Right, upgradable, write, TurnCourse, is_counting, is_taking, counted, starved, Mutex, turn_at, End as TurnEnd, TurnStep, Takes, Found, Place, Purpose, LockCall, Action, action_of, next_of, place_after, after_lock, with_turn, OnTurn, place_at, fits_turn, stage_at, stage_after, call_at, polls_again, Runs, HoldsWell, call_of, knows_of, World, standing_of, is_starved, is_first, is_first_poll, sought_by, entries_in, is_upgrader, Stands, Moved, knows_at, answer_by, view_of}
use Rattle.std.specs.Prelude.{nat_lt}
use Rattle.world_base.specs.Frame.{is_refusal}
use Rattle.world_base.proofs.of_any_world.Unsaid.{unsaid}
use Rattle.world_mutex.specs.machine.Course as course
use Rattle.world_mutex.specs.machine.Conduct.{is_some_starved, IsUntold, StaysUntold}
use Rattle.world_mutex.proofs.of_machine.callers.Holders as sees
use Rattle.world_rwlock.proofs.bound.Alone.{laws}
use Rattle.world_rwlock.proofs.step.Acting.{Acting, Way, impossible, over, puts, acts, way, acting, fit, says, again_is}
use Rattle.world_rwlock.proofs.step.Instants.{begins, never_upgradable, never_write}
use Rattle.world_rwlock.proofs.whole.Patient.{starved_refusal, midway, counting}
use Rattle.world_rwlock.proofs.whole.Promises.{starved_behind}
use Rattle.world_rwlock.proofs.whole.Ring.{enters, is_past, stays_past}

-- ---- away from the turn

-- no poll of the turn is under way at this place, nor does one begin there
abbrev pub away : Place → Bool
away x = is_past x (course.waiting false)

pub away_enters : (x : Place) → away x ≡ true → enters x ≡ false
away_enters (Place.EnterTurn q) h = absurd (false≢true h)
away_enters (Place.WaitTurn q) h = absurd (false≢true h)
away_enters (Place.TakeTurn q) h = absurd (false≢true h)
away_enters _ h = refl

-- nor is the party counted there
abbrev pub settled : TurnCourse → Bool
settled course.out = true
settled course.holding = true
settled course.releasing = true
settled _ = false

waiting_unsettled : (c : TurnCourse) → course.is_waiting c ≡ true → settled c ≡ true → ⊥
waiting_unsettled (course.waiting b) h s = false≢true s
waiting_unsettled _ h s = false≢true h

cancelling_unsettled : (c : TurnCourse) → course.is_cancelling c ≡ true → settled c ≡ true → ⊥
cancelling_unsettled (course.cancelling b) h s = false≢true s
cancelling_unsettled _ h s = false≢true h

releasing_settled : (s : TurnStep) (c : TurnCourse) → course.Releases s c → settled c ≡ true
releasing_settled TurnStep.More course.releasing h = refl
releasing_settled TurnStep.More _ h = absurd (false≢true h)
releasing_settled (TurnStep.End TurnEnd.GivenBack) c h = ap settled h
releasing_settled (TurnStep.End _) c h = absurd h

settled_uncounted : (c : TurnCourse) → settled c ≡ true → (counted c ≡ 0) × (is_counting c ≡ false)
settled_uncounted course.out h = (refl, refl)
settled_uncounted course.holding h = (refl, refl)
settled_uncounted course.releasing h = (refl, refl)
settled_uncounted _ h = absurd (false≢true h)

untold_uncounting : (c : TurnCourse) → course.is_untold false c ≡ true → is_counting c ≡ false
untold_uncounting (course.taking course.counting a b d) h = absurd (false≢true h)
untold_uncounting (course.taking _ a b d) h = refl
untold_uncounting _ h = refl

module _ (memory starving : Bool) (p : ℕ) (l k : Mutex) where
  abbrev was : TurnCourse
  was = turn_at l.courses p

  abbrev now : TurnCourse
  now = turn_at k.courses p

  stays_settled : (x : Place) (f : Found) → away x ≡ true → fits_turn x was ≡ true → OnTurn memory starving p (action_of x) f l k → settled was ≡ true → settled now ≡ true
  stays_settled (Place.EnterTurn q) f h fits o s = absurd (false≢true h)
  stays_settled (Place.WaitTurn q) f h fits o s = absurd (false≢true h)
  stays_settled (Place.TakeTurn q) f h fits o s = absurd (false≢true h)
  stays_settled (Place.TryTurn q) f h fits o s = absurd (false≢true h)
  stays_settled Place.CancelTurn f h fits o s = absurd (waiting_unsettled was fits s)
  stays_settled Place.CancellingTurn f h fits o s = absurd (cancelling_unsettled was fits s)
  stays_settled (Place.ReleaseTurn e) (Found.Turn n) h fits o s = releasing_settled n now o.leads
  stays_settled (Place.ReleaseTurn e) _ h fits o s = absurd o
  stays_settled (Place.ReleasingTurn e) (Found.Turn n) h fits o s = ap settled (o.leads.releases fits).1
  stays_settled (Place.ReleasingTurn e) _ h fits o s = absurd o
  stays_settled _ f h fits o s = ap (λ (m : Mutex). settled (turn_at m.courses p)) o ∙ s

-- ---- a first poll puts nothing, and is none after ready

plain_upgradable : (s : Standing) (o : Option Right) (what : What) (n : ℕ) → is_first_poll upgradable s o what n ≡ true → (put_in what ≡ None) × (is_poll_after_ready s what ≡ false)
plain_upgradable (outside Rest.Idle) o (Begin Call.UpgradableRead i) n h = (refl, refl)
plain_upgradable (outside Rest.Finished) o (Begin Call.UpgradableRead i) n h = (refl, refl)
plain_upgradable (outside Rest.Pending) (Some upgradable) (Begin Call.Poll i) n h = (refl, refl)
plain_upgradable _ o _ n h = absurd (false≢true h)

plain_write : (s : Standing) (o : Option Right) (what : What) (n : ℕ) → is_first_poll write s o what n ≡ true → (put_in what ≡ None) × (is_poll_after_ready s what ≡ false)
plain_write (outside Rest.Idle) o (Begin Call.Write i) n h = (refl, refl)
plain_write (outside Rest.Finished) o (Begin Call.Write i) n h = (refl, refl)
plain_write (outside Rest.Pending) (Some write) (Begin Call.Poll i) n h = (refl, refl)
plain_write _ o _ n h = absurd (false≢true h)

-- ---- along a whole call

module _ (p : ℕ) (i : Inputs) (b : Bool) where
  abbrev pub turn_of : World → Mutex
  turn_of y = y.behind.machine.lock.turn

  abbrev pub at : World → Place
  at y = place_at y.behind.machine.lock.places p

  abbrev pub there : World → TurnCourse
  there y = turn_at (turn_of y).courses p

  -- in a poll of the turn that took no notification
  pub record New (y : World) : Type 0 where
    pub purpose : Purpose
    pub here : at y ≡ Place.TakeTurn purpose
    pub untold : IsUntold p b (turn_of y)
    pub some : is_some_starved (turn_of y) ≡ b

  -- or past it, having got the turn where nobody is starved
  pub record Gone (y : World) : Type 0 where
    pub none : b ≡ false
    pub here : away (at y) ≡ true
    pub settles : settled (there y) ≡ true

  pub record Inside_it (y : World) : Type 0 where
    pub call : Within
    pub inside : stage_at y.behind.stages p ≡ Inside call
    pub how : New y ⊎ Gone y

  abbrev pub EndAs : Bool → Answer → World → Type 0
  EndAs true a y = ((a ≡ Answer.Pending) × (counted (there y) ≡ 1)) ⊎ (is_refusal a ≡ true)
  EndAs false a y = counted (there y) ≡ 0

  abbrev pub Then : Answer → World → Type 0
  Then = Onward Inside_it (EndAs b)

  pends : (c : Bool) (a : Answer) (y : World) → a ≡ Answer.Pending → there y ≡ course.waiting c → EndAs c a y
  pends true a y is e = inl (is, ap counted e)
  pends false a y is e = ap counted e

  refuses : (c : Bool) (r : Refusal) (a : Answer) (y : World) → a ≡ refused r → Takes (TurnStep.End (TurnEnd.Refused r)) (there y) → EndAs c a y
  refuses true Refusal.Memory a y is h = inr (ap is_refusal is)
  refuses true Refusal.Starved a y is h = inr (ap is_refusal is)
  refuses false Refusal.Memory a y is h = ap counted h
  refuses false Refusal.Starved a y is h = ap counted h
  refuses c _ a y is h = absurd h

  module _ (x v : World) (what : What) (a : Answer) (w : Within) (k : Acting x.behind v.behind (record { party = p; what = what }) a w) where
    abbrev m : Move
    m = record { party = p; what = what }

    abbrev f : Found
    f = k.acts.found

    lands : at v ≡ place_after (next_of k.from f)
    lands =
        ap (λ xs. place_at xs p) k.acts.places
        ∙ (get_or-set_same x.behind.machine.lock.places p (place_after k.next) Place.Out (omega (arith, k.old.fits.as_many, k.inside)) ∙ ap place_after k.acts.next_is)

    said : a ≡ answer_by x.behind.machine.value (next_of k.from f)
    said = says x.behind v.behind m a w k

    inside_then : a ≡ Answer.Stepped → stage_at v.behind.stages p ≡ Inside w
    inside_then e = ap (λ ss. stage_at ss p) k.stages ∙ (get_or-set_same x.behind.stages p (stage_after Rest.Holding w a) Forgotten k.inside ∙ ap (stage_after Rest.Holding w) e)

    with_turn_away : (q : Purpose) → away (with_turn q false) ≡ true
    with_turn_away Purpose.UpgradableRead = refl
    with_turn_away Purpose.Write = refl

    -- a step of the poll of the turn
    took : (q : Purpose) (s : TurnStep) → next_of k.from f ≡ after_lock q (Found.Turn s) → Takes s (there v) → StaysUntold p b s (turn_of v) → Then a v
    took q TurnStep.More nx takes stays =
        let stepped : a ≡ Answer.Stepped = said ∙ ap (answer_by x.behind.machine.value) nx in
        record {
          going = λ e. record { call = w; inside = inside_then stepped; how = inl (record { purpose = q; here = lands ∙ ap place_after nx; untold = stays.0; some = stays.1 }) };
          ended = λ e. absurd (e stepped);
        }
    took q (TurnStep.End TurnEnd.Got) nx takes stays =
        let stepped : a ≡ Answer.Stepped = said ∙ ap (answer_by x.behind.machine.value) nx in
        record {
          going = λ e. record { call = w; inside = inside_then stepped; how = inr (record { none = stays; here = ap away (lands ∙ ap place_after nx) ∙ with_turn_away q; settles = ap settled takes }) };
          ended = λ e. absurd (e stepped);
        }
    took q (TurnStep.End TurnEnd.Pending) nx takes stays =
        let is : a ≡ Answer.Pending = said ∙ ap (answer_by x.behind.machine.value) nx in
        record { going = λ e. absurd (cc (sym is ∙ e)); ended = λ e. pends b a v is stays }
    took q (TurnStep.End (TurnEnd.Refused r)) nx takes stays =
        let is : a ≡ refused r = said ∙ ap (answer_by x.behind.machine.value) nx in
        record { going = λ e. absurd (cc (sym is ∙ e)); ended = λ e. refuses b r a v is takes }
    took q (TurnStep.End _) nx takes stays = absurd takes

    -- or of what comes after it
    goes_by : Gone x → k.from ≡ at x → Then a v
    goes_by g same =
        let far : away k.from ≡ true = ap away same ∙ g.here in
        let settles : settled (there v) ≡ true = stays_settled (inputs_of what).memory (inputs_of what).starving p (turn_of x) (turn_of v) k.from f far (fit x.behind v.behind m a w k) k.acts.turn g.settles in
        let here : away (at v) ≡ true = ap away lands ∙ stays_past k.from f (course.waiting false) (away_enters k.from far) in
        let E : Bool → Type 0 = λ c. EndAs c a v in
        record {
          going = λ e. record { call = w; inside = inside_then e; how = inr (record { none = g.none; here = here; settles = settles }) };
          ended = λ e. subst E (sym g.none) (settled_uncounted (there v) settles).0;
        }

    goes_on : New x → k.from ≡ at x → what ≡ Go i → Then a v
    goes_on g same goes =
        let from : k.from ≡ Place.TakeTurn g.purpose = same ∙ g.here in
        let fits : is_taking (there x) ≡ true = ap (λ y. fits_turn y (there x)) (sym from) ∙ fit x.behind v.behind m a w k in
        let O : Place → Type 0 = λ y. OnTurn (inputs_of what).memory (inputs_of what).starving p (action_of y) f (turn_of x) (turn_of v) in
        by_found f (ap (λ y. next_of y f) from) (subst O from k.acts.turn) where
          by_found : (d : Found) → next_of k.from f ≡ next_of (Place.TakeTurn g.purpose) d → OnTurn (inputs_of what).memory (inputs_of what).starving p Action.Go d (turn_of x) (turn_of v) → Then a v
          by_found (Found.Turn s) nx o =
              let U : Bool → Type 0 = λ c. IsUntold p c (turn_of x) in
              let S : Bool → Type 0 = λ c. StaysUntold p c s (turn_of v) in
              let from_then : k.from ≡ Place.TakeTurn g.purpose = same ∙ g.here in
              let fits_then : is_taking (there x) ≡ true = ap (λ y. fits_turn y (there x)) (sym from_then) ∙ fit x.behind v.behind m a w k in
              took g.purpose s nx (o.leads.takes fits_then) (subst S g.some (o.untold (subst U (sym g.some) g.untold)))
          by_found _ nx o = absurd o

    enters_so : (q : Purpose) → k.from ≡ Place.EnterTurn q → is_some_starved (turn_of x) ≡ b → Then a v
    enters_so q from some =
        let O : Place → Type 0 = λ y. OnTurn (inputs_of what).memory (inputs_of what).starving p (action_of y) f (turn_of x) (turn_of v) in
        by_found f (ap (λ y. next_of y f) from) (subst O from k.acts.turn) where
          by_found : (d : Found) → next_of k.from f ≡ next_of (Place.EnterTurn q) d → OnTurn (inputs_of what).memory (inputs_of what).starving p (Action.Begin LockCall.Lock) d (turn_of x) (turn_of v) → Then a v
          by_found (Found.Turn s) nx o =
              let S : Bool → Type 0 = λ c. StaysUntold p c s (turn_of v) in
              took q s nx o.leads (subst S some (o.untold refl))
          by_found _ nx o = absurd o

  pub onward : (x : World) (a : Answer) (v : World) → Inside_it x → Moved x (going_on p i) a v → Then a v
  onward x a v g s =
      let t = x.behind in
      let k = acting t v.behind (going_on p i) a (laws x s.did.stood) (laws v s.did.stands) g.call (ap (λ z. call_at (knows_at (at x)) z (Go i)) g.inside) (ap (λ z. polls_again z (Go i)) g.inside) refl s.did.step in
      let same : k.from ≡ at x = sym (some_eq k.starts) in
      elim g.how as (λ _. Then a v) [ inl new ↦ goes_on x v (Go i) a g.call k new same refl | inr gone ↦ goes_by x v (Go i) a g.call k gone same ]

  module _ (c : Call) where
    abbrev pub IsFirst : World → Type 0
    IsFirst y = (is_first y (beginning p c i) upgradable ≡ true) ⊎ ((is_first y (beginning p c i) write ≡ true) × (is_upgrader y p ≡ false))

    plain : (y : World) → IsFirst y → (put_in (Begin c i) ≡ None) × (is_poll_after_ready (standing_of y p) (Begin c i) ≡ false)
    plain y (inl u) = plain_upgradable (standing_of y p) (sought_by y p) (Begin c i) (entries_in y p) u
    plain y (inr w) = plain_write (standing_of y p) (sought_by y p) (Begin c i) (entries_in y p) w.0

    called : (y : World) → IsFirst y → call_of y (beginning p c i) ≡ None → ⊥
    called y (inl u) e = never_upgradable (standing_of y p) (sought_by y p) (Begin c i) (entries_in y p) u e
    called y (inr w) e = never_write (standing_of y p) (sought_by y p) (Begin c i) (entries_in y p) w.0 e

    pub first : (x : World) → Stands x → IsFirst x → is_some_starved (turn_of x) ≡ b → (a : Answer) (v : World) → Moved x (beginning p c i) a v → Then a v
    first x stood is some a v s = by_way (way x.behind v.behind m a (laws x s.did.stood) (laws v s.did.stands) s.did.step) where
      m : Move
      m = beginning p c i

      here : IsFirst (view_of x.behind)
      here = subst IsFirst stood.seen is

      by_way : Way x.behind v.behind m a → Then a v
      by_way (impossible e ea eu) = absurd (called (view_of x.behind) here e)
      by_way (over w e f ea eu) = absurd (true≢false (sym f ∙ (sym (again_is x.behind v.behind m a (laws x s.did.stood) (laws v s.did.stands)) ∙ (plain (view_of x.behind) here).1)))
      by_way (puts w n inside o e ea eu) = absurd (none_some (sym (plain (view_of x.behind) here).0 ∙ o))
      by_way (acts w k) = by_first here where
        by_first : IsFirst (view_of x.behind) → Then a v
        by_first (inl up) = enters_so x v (Begin c i) a w k Purpose.UpgradableRead ((begins x.behind v.behind m a w k).first_upgradable up) some
        by_first (inr wr) = enters_so x v (Begin c i) a w k Purpose.Write ((begins x.behind v.behind m a w k).first_write wr.0 wr.1) some

-- ---- as callers see it

module _ (known : ℕ → Account) (w : World) (p : ℕ) (c : Call) (i : Inputs) (n : ℕ) (a : Answer) (v : World) (stood : Stands w) (stands : Stands v) (runs : Runs known w (moves_of p c i n) (answers_of n a) v) (ended : a ≢ Answer.Stepped) (is : (is_first w (beginning p c i) upgradable ≡ true) ⊎ ((is_first w (beginning p c i) write ≡ true) × (is_upgrader w p ≡ false))) where
  ends : (b : Bool) → is_some_starved w.behind.machine.lock.turn ≡ b → EndAs p i b b a v
  ends b some = along Moved accounts_after HoldsWell p i (Inside_it p i b) (EndAs p i b b) (onward p i b) known n w (beginning p c i) a v (first p i b c w stood is some) ended runs

  pub newcomer : 0 < how_many w.state.starved → ((a ≡ Answer.Pending) × (is_starved v p ≡ true)) ⊎ (is_refusal a ≡ true)
  newcomer some =
      let there : is_some_starved w.behind.machine.lock.turn ≡ true = some_so (starved w.behind.machine.lock.turn) (omega (arith, some, starved_behind w stood)) in
      elim (ends true there) as (λ _. ((a ≡ Answer.Pending) × (is_starved v p ≡ true)) ⊎ (is_refusal a ≡ true)) [
        | inl q ↦ inl (q.0, ap (λ y. is_starved y p) stands.seen ∙ (sees.starved_at v.behind.machine.lock.turn.courses p ∙ ap (λ (k : ℕ). k == 1) q.1))
        | inr r ↦ inr r
      ] where
        some_so : (k : ℕ) → 0 < k → nat_lt 0 k ≡ true
        some_so k h = grind (arith, nat_tests)

  pub first_patient : how_many w.state.starved ≡ 0 → (a ≢ starved_refusal) × (is_starved v p ≡ false)
  first_patient none =
      let there : is_some_starved w.behind.machine.lock.turn ≡ false = none_so (starved w.behind.machine.lock.turn) (sym (starved_behind w stood) ∙ none) in (
        unsaid Moved standing_of knows_of Rest.Holding (λ x m b y s. s.legal.possible) (λ x m b y s. s.legal.ends_properly) starved_refusal refl (λ x m b y s d. midway x y m b s d) p i (Inside_it p i false) (EndAs p i false false) (onward p i false)
            (λ x b y g s d. true≢false (sym (counting x y (going_on p i) b s d) ∙ quiet x g.how)) accounts_after HoldsWell known w c n a v (first p i false c w stood is there) ended runs,
        ap (λ y. is_starved y p) stands.seen ∙ (sees.starved_at v.behind.machine.lock.turn.courses p ∙ ap (λ (k : ℕ). k == 1) (ends false there)),
      ) where
        none_so : (k : ℕ) → k ≡ 0 → nat_lt 0 k ≡ false
        none_so k h = grind (arith, nat_tests)

        quiet : (x : World) → New p i false x ⊎ Gone p i false x → is_counting (turn_at x.behind.machine.lock.turn.courses p) ≡ false
        quiet x (inl new) = untold_uncounting (turn_at x.behind.machine.lock.turn.courses p) new.untold.0
        quiet x (inr gone) = (settled_uncounted (turn_at x.behind.machine.lock.turn.courses p) gone.settles).1
