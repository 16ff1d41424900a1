-- A party that was notified for the turn and has waited for too long, or beside whom somebody is starved, is starved at its poll's end where it found the turn taken.
use Rattle.world_rwlock.proofs.Prelude.{◌≡◌, ◌≢◌, ℕ, zero, suc, ◌<◌, ◌≤◌, ◌⊎◌, inl, inr, ◌||◌, ◌==◌, Bool, true, false, Some, refl, arith, ap, sym, ◌∙◌, subst, nat_tests, get_or-set_same, false≢true, Account, accounts_after, Answer, Call, Inputs, What, Begin, Go, Kind, Rest, Inside, Forgotten, Within, within, how_many, Move, outside, inputs_of, going_on, moves_of, answers_of, some_eq, beginning, along, Onward, counted, starved, turn_at, listed, End as TurnEnd, TurnStep, Found, Place, Purpose, LockCall, Action, start_of, action_of, next_of, place_after, after_lock, OnTurn, place_at, fits_turn, stage_at, stage_after, call_at, polls_again, is_marked_at, is_party, Runs, HoldsWell, World, standing_of, is_starved, Stands, Moved, knows_at, answer_by, view_of}
use Rattle.std.specs.Prelude.{nat_lt}
use Rattle.world_base.proofs.Bounds.{marked_listed}
use Rattle.world_mutex.specs.machine.Conduct.{IsLong, StaysLong, BeginsLong}
use Rattle.world_mutex.specs.machine.Mutex.{holders}
use Rattle.world_mutex.proofs.of_machine.callers.Holders as sees
use Rattle.world_rwlock.proofs.bound.Alone.{laws}
use Rattle.world_rwlock.proofs.bound.AloneSeen.{at_stage, future, in_turn_list}
use Rattle.world_rwlock.proofs.step.Acting.{Acting, acting, says}
use Rattle.world_rwlock.proofs.whole.Promises.{starved_behind}
use Rattle.world_rwlock.specs.Bound.{IsSoloForTurn}
use Rattle.world_rwlock.specs.State.{nobody}
use Rattle.world_rwlock.specs.View.{turn_by}
use Rattle.world_rwlock.specs.machine.Solo.{waits_for_turn}

waits_there : (x : Place) → waits_for_turn x ≡ true → (q : Purpose) × (x ≡ Place.WaitTurn q)
waits_there (Place.WaitTurn q) h = (q, refl)
waits_there _ h = absurd (false≢true h)

module _ (p : ℕ) (i : Inputs) (found : i.memory ≡ true) where
  -- in a poll of the turn that counts it
  record Long (y : World) : Type 0 where
    pub call : Within
    pub inside : stage_at y.behind.stages p ≡ Inside call
    pub purpose : Purpose
    pub here : place_at y.behind.machine.lock.places p ≡ Place.TakeTurn purpose
    pub long : IsLong i.starving p y.behind.machine.lock.turn

  abbrev EndsLong : Answer → World → Type 0
  EndsLong a y = counted (turn_at y.behind.machine.lock.turn.courses p) ≡ 1

  abbrev Then : Answer → World → Type 0
  Then = Onward Long EndsLong

  module _ (x v : World) (what : What) (a : Answer) (w : Within) (k : Acting x.behind v.behind (record { party = p; what = what }) a w) where
    abbrev m : Move
    m = record { party = p; what = what }

    abbrev f : Found
    f = k.acts.found

    lands : place_at v.behind.machine.lock.places p ≡ place_after (next_of k.from f)
    lands =
        ap (λ xs. place_at xs p) k.acts.places
        ∙ (get_or-set_same x.behind.machine.lock.places p (place_after k.next) Place.Out (omega (arith, k.old.fits.as_many, k.inside)) ∙ ap place_after k.acts.next_is)

    said : a ≡ answer_by x.behind.machine.value (next_of k.from f)
    said = says x.behind v.behind m a w k

    inside_then : a ≡ Answer.Stepped → stage_at v.behind.stages p ≡ Inside w
    inside_then e = ap (λ ss. stage_at ss p) k.stages ∙ (get_or-set_same x.behind.stages p (stage_after Rest.Holding w a) Forgotten k.inside ∙ ap (stage_after Rest.Holding w) e)

    took : (q : Purpose) (s : TurnStep) → next_of k.from f ≡ after_lock q (Found.Turn s) → StaysLong i.starving p s v.behind.machine.lock.turn → Then a v
    took q TurnStep.More nx stays =
        let stepped : a ≡ Answer.Stepped = said ∙ ap (answer_by x.behind.machine.value) nx in
        record {
          going = λ e. record { call = w; inside = inside_then stepped; purpose = q; here = lands ∙ ap place_after nx; long = stays };
          ended = λ e. absurd (e stepped);
        }
    took q (TurnStep.End TurnEnd.Pending) nx stays =
        let is : a ≡ Answer.Pending = said ∙ ap (answer_by x.behind.machine.value) nx in
        record { going = λ e. absurd (cc (sym is ∙ e)); ended = λ e. ap counted stays }
    took q (TurnStep.End _) nx stays = absurd stays

    goes_on : (g : Long x) → k.from ≡ place_at x.behind.machine.lock.places p → inputs_of what ≡ i → Then a v
    goes_on g same is =
        let from : k.from ≡ Place.TakeTurn g.purpose = same ∙ g.here in
        let O : Place → Type 0 = λ y. OnTurn (inputs_of what).memory (inputs_of what).starving p (action_of y) f x.behind.machine.lock.turn v.behind.machine.lock.turn in
        let I : Inputs → Type 0 = λ j. OnTurn j.memory j.starving p Action.Go f x.behind.machine.lock.turn v.behind.machine.lock.turn in
        by_found f (ap (λ y. next_of y f) from) (subst I is (subst O from k.acts.turn)) where
          by_found : (d : Found) → next_of k.from f ≡ next_of (Place.TakeTurn g.purpose) d → OnTurn i.memory i.starving p Action.Go d x.behind.machine.lock.turn v.behind.machine.lock.turn → Then a v
          by_found (Found.Turn s) nx o = took g.purpose s nx (o.long found g.long)
          by_found _ nx o = absurd o

    begins_so : (q : Purpose) → k.from ≡ Place.WaitTurn q → inputs_of what ≡ i → BeginsLong i.starving p x.behind.machine.lock.turn → Then a v
    begins_so q from is b =
        let O : Place → Type 0 = λ y. OnTurn (inputs_of what).memory (inputs_of what).starving p (action_of y) f x.behind.machine.lock.turn v.behind.machine.lock.turn in
        let I : Inputs → Type 0 = λ j. OnTurn j.memory j.starving p (Action.Begin LockCall.Poll) f x.behind.machine.lock.turn v.behind.machine.lock.turn in
        by_found f (ap (λ y. next_of y f) from) (subst I is (subst O from k.acts.turn)) where
          by_found : (d : Found) → next_of k.from f ≡ next_of (Place.WaitTurn q) d → OnTurn i.memory i.starving p (Action.Begin LockCall.Poll) d x.behind.machine.lock.turn v.behind.machine.lock.turn → Then a v
          by_found (Found.Turn s) nx o = took q s nx (o.long found refl b)
          by_found _ nx o = absurd o

  onward : (x : World) (a : Answer) (v : World) → Long x → Moved x (going_on p i) a v → Then a v
  onward x a v g s =
      let t = x.behind in
      let k = acting t v.behind (going_on p i) a (laws x s.did.stood) (laws v s.did.stands) g.call (ap (λ z. call_at (knows_at (place_at t.machine.lock.places p)) z (Go i)) g.inside) (ap (λ z. polls_again z (Go i)) g.inside) refl s.did.step in
      goes_on x v (Go i) a g.call k g (sym (some_eq k.starts)) refl

module _ (known : ℕ → Account) (w : World) (p : ℕ) (i : Inputs) (n : ℕ) (a : Answer) (v : World) (stood : Stands w) (stands : Stands v) (runs : Runs known w (moves_of p Call.Poll i n) (answers_of n a) v) (ended : a ≢ Answer.Stepped) where
  pub held : IsSoloForTurn w p i → (i.starving ≡ true) ⊎ (0 < how_many w.state.starved) → how_many w.state.starved < w.starved_limit → w.state.turn ≢ nobody → is_starved v p ≡ true
  held solo why below taken =
      let counts = along Moved accounts_after HoldsWell p i (Long p i solo.memory) (EndsLong p i solo.memory) (onward p i solo.memory) known n w (beginning p Call.Poll i) a v first ended runs in
      ap (λ y. is_starved y p) stands.seen ∙ (sees.starved_at v.behind.machine.lock.turn.courses p ∙ ap (λ (k : ℕ). k == 1) counts) where
        seen_pending : standing_of (view_of w.behind) p ≡ outside Rest.Pending
        seen_pending = subst (λ x. standing_of x p ≡ outside Rest.Pending) stood.seen solo.pending

        marked : is_marked_at (is_party p) w.behind.machine.lock.turn.entries ≡ true
        marked = subst (λ x. is_marked_at (is_party p) x.turn_list ≡ true) stood.seen solo.marked

        some : 0 < listed (turn_at w.behind.machine.lock.turn.courses p)
        some = omega (arith, stood.laws.turn.owners p, marked_listed p w.behind.machine.lock.turn.entries marked)

        waits : (q : Purpose) × (place_at w.behind.machine.lock.places p ≡ Place.WaitTurn q)
        waits = waits_there (place_at w.behind.machine.lock.places p) (in_turn_list (turn_at w.behind.machine.lock.turn.courses p) (place_at w.behind.machine.lock.places p) (future w p i stood.laws stood.fits seen_pending) (stood.laws.in_turn p) some)

        one : holders w.behind.machine.lock.turn ≡ 1
        one = by_count (holders w.behind.machine.lock.turn) refl (stood.laws.turn.one_holder) where
          by_count : (k : ℕ) → holders w.behind.machine.lock.turn ≡ k → k ≤ 1 → holders w.behind.machine.lock.turn ≡ 1
          by_count zero is few = absurd (taken (ap (λ x. x.state.turn) stood.seen ∙ ap (λ o. turn_by o w.behind.machine.lock.places) (sees.none_held 0 w.behind.machine.lock.turn.courses is)))
          by_count (suc zero) is few = is
          by_count (suc (suc k)) is few = absurd (omega (arith, few))

        long_so : (b : Bool) (k : ℕ) → (b ≡ true) ⊎ (0 < k) → b || nat_lt 0 k ≡ true
        long_so true k h = refl
        long_so false k (inl e) = absurd (false≢true e)
        long_so false k (inr h) = grind (arith, nat_tests)

        begins : BeginsLong i.starving p w.behind.machine.lock.turn
        begins =
            let F : Place → Type 0 = λ y. fits_turn y (turn_at w.behind.machine.lock.turn.courses p) ≡ true in
            let below' = subst (λ x. how_many x.state.starved < x.starved_limit) stood.seen below in
            record {
              held = one;
              called = subst F waits.1 (stood.laws.in_turn p);
              marked = marked;
              long = long_so i.starving (starved w.behind.machine.lock.turn) (elim why as (λ _. (i.starving ≡ true) ⊎ (0 < starved w.behind.machine.lock.turn)) [ inl e ↦ inl e | inr many ↦ inr (omega (arith, many, starved_behind w stood)) ]);
              below = omega (arith, below', sees.how_many_counted w.behind.machine.lock.turn.courses);
            }

        first : (b : Answer) (x : World) → Moved w (beginning p Call.Poll i) b x → Onward (Long p i solo.memory) (EndsLong p i solo.memory) b x
        first b x s =
            let stage = (at_stage w p i stood.laws stood.fits seen_pending).1 in
            let here : Place = place_at w.behind.machine.lock.places p in
            let k = acting w.behind x.behind (beginning p Call.Poll i) b (laws w s.did.stood) (laws x s.did.stands) (within Kind.LaterPoll Rest.Pending)
            (ap (λ s. call_at (knows_at here) s (Begin Call.Poll i)) stage) (ap (λ s. polls_again s (Begin Call.Poll i)) stage) refl s.did.step in
            let from : k.from ≡ Place.WaitTurn waits.0 = (let S : Place → Type 0 = λ y. start_of Call.Poll y ≡ Some k.from in sym (some_eq (subst S waits.1 k.starts))) in
            begins_so p i solo.memory w x (Begin Call.Poll i) b (within Kind.LaterPoll Rest.Pending) k waits.0 from refl begins
