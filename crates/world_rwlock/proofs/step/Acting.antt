-- An action of a party is a legal step, as callers see it.
use Rattle.world_rwlock.proofs.Prelude.{◌≡◌, ℕ, ◌<◌, inl, inr, Bool, true, false, List, length, Option, Some, None, refl, ap, sym, ◌∙◌, subst, set, false≢true, cases_Bool, Answer, Call, Value, Move, What, Begin, Go, Refusal, Kind, Rest, Stage, Forgotten, Within, within, put_in, is_poll_after_ready, inputs_of, refused, some_eq, none_some, stage_at, call_at, polls_again, stage_after, Table, call_seen, again_seen, TurnCourse, turn_at, Next, Place, action_of, next_of, place_after, fits_turn, OnTurn, RwLock, place_at, Acts, knows, call_of, Legal, knows_at, Guarded, with_value, knows_there, answer_by, place_for, Does, MovesThere, sought_at, standing_of, TableSteps, verdict, view_of, set_same, inside_or_past, is_counting, DecidesOn, seen, Wanted, first_poll, start_of}
use Rattle.world_base.proofs.of_table.Ways as ways
use Rattle.world_rwlock.proofs.of_machine.stages.Leads.{led, steps_in_turn}
use Rattle.world_rwlock.proofs.table.Begun.{known_at}
use Rattle.world_rwlock.proofs.table.Calls.{Moves, moving}
use Rattle.world_rwlock.proofs.step.Rows.{is_midway}
use Rattle.world_rwlock.proofs.step.Facts as word
use Rattle.world_rwlock.proofs.step.Facts.{Facts}
use Rattle.world_rwlock.proofs.step.Idle.{Laws, stood, sought_is}
use Rattle.world_rwlock.proofs.table.Kept.{walks, put_is}
use Rattle.world_rwlock.proofs.step.Legals as legals
use Rattle.world_rwlock.proofs.table.Stages.{strays_not, stage_then}
use Rattle.world_rwlock.proofs.step.TurnFacts.{on_turn}
use Rattle.world_rwlock.proofs.table.Views.{Fits}

module _ (t u : Table Guarded) (m : Move) (a : Answer) (w : Within) where
  abbrev p : ℕ
  p = m.party

  abbrev x : Place
  x = place_at t.machine.lock.places p

  abbrev s : Stage
  s = stage_at t.stages p

  abbrev y : TurnCourse
  y = turn_at t.machine.lock.turn.courses p

  -- a move that the lock carries out
  pub record Acting : Type 0 where
    pub inside : p < length t.stages
    pub old : Laws t
    pub new : Laws u
    pub call : call_at (knows_at x) s m.what ≡ Some w
    pub first : polls_again s m.what ≡ false
    pub no_put : put_in m.what ≡ None
    pub from : Place
    pub next : Next
    pub starts : place_for m.what x ≡ Some from
    pub acts : Acts (inputs_of m.what).memory (inputs_of m.what).starving p from next t.machine.lock u.machine.lock
    pub answer : a ≡ answer_by t.machine.value next
    pub value : u.machine.value ≡ t.machine.value
    pub stages : u.stages ≡ set t.stages p (stage_after Rest.Holding w a)
    pub opening : u.opening ≡ t.opening
    pub moves : Moves t.machine.value y s m.what x w from

-- How a move came about: it isn't possible, polls a future that has been ready, puts a value, or is carried out by the lock.
pub data Way (t u : Table Guarded) (m : Move) (a : Answer) : Type 0 where
  impossible : call_of (view_of t) m ≡ None → a ≡ Answer.NotPossible → u ≡ t → Way t u m a
  over : (w : Within) → call_of (view_of t) m ≡ Some w → polls_again (stage_at t.stages m.party) m.what ≡ true → a ≡ refused Refusal.Finished → u ≡ t → Way t u m a
  puts : (w : Within) (v : ℕ) → m.party < length t.stages → put_in m.what ≡ Some v → call_at (knows_at (place_at t.machine.lock.places m.party)) (stage_at t.stages m.party) m.what ≡ Some w → a ≡ Answer.Granted (Value v)
      → u ≡ record { machine = with_value t.machine v; stages = t.stages; opening = t.opening } → Way t u m a
  acts : (w : Within) → Acting t u m a w → Way t u m a

past_at : (f g : Call → Bool) (s : Stage) (what : What) → s ≡ Forgotten → call_at f s what ≡ call_at g s what
past_at f g s (Begin c i) e = rw e refl
past_at f g s (Go i) e = rw e refl

table_eq : (x y : Guarded) (ss ts : List Stage) (n k : ℕ) → x ≡ y → ss ≡ ts → n ≡ k → Path (Table Guarded) (record { machine = x; stages = ss; opening = n }) (record { machine = y; stages = ts; opening = k })
table_eq x y ss ts n k e d g = cc

-- ---- which way a move came about

module _ (t u : Table Guarded) (m : Move) (a : Answer) (old : Laws t) (new : Laws u) where
  abbrev here : Place
  here = place_at t.machine.lock.places m.party

  abbrev stage : Stage
  stage = stage_at t.stages m.party

  pub call_is : call_of (view_of t) m ≡ call_at (knows_at here) stage m.what
  call_is =
      let d = verdict t.machine.value here (turn_at t.machine.lock.turn.courses m.party) in
      let seen : call_of (view_of t) m ≡ call_at (knows (sought_at here)) stage m.what = rw (stood t m.party old, sought_is t m.party) (call_seen (knows (sought_at here)) d stage m.what) in
      seen ∙ elim (inside_or_past t.stages m.party) as (λ _. call_at (knows (sought_at here)) stage m.what ≡ call_at (knows_at here) stage m.what) [
        | inl inside ↦ sym (known_at stage m.what here (old.fits.stands m.party inside))
        | inr past ↦ past_at (knows (sought_at here)) (knows_at here) stage m.what past.1
      ]

  pub again_is : is_poll_after_ready (standing_of (view_of t) m.party) m.what ≡ polls_again stage m.what
  again_is = ap (λ z. is_poll_after_ready z m.what) (stood t m.party old) ∙ again_seen (verdict t.machine.value here (turn_at t.machine.lock.turn.courses m.party)) stage m.what

  pub way : TableSteps t m a u → Way t u m a
  way step = ways.by_way knows_there Rest.Holding MovesThere t u m a (λ b x. Way t x m b)
      (λ e. impossible (call_is ∙ e) refl refl)
      (λ w e f. over w (call_is ∙ e) f refl refl)
      (λ w e f d. by_put w (put_in m.what) e f refl d.inside d.stages d.opening d.acts)
      (ways.way knows_there Rest.Holding MovesThere t u m a step) where
        by_put : (w : Within) (o : Option ℕ) → call_at (knows_at here) stage m.what ≡ Some w → polls_again stage m.what ≡ false → put_in m.what ≡ o → m.party < length t.stages → u.stages ≡ set t.stages m.party (stage_after Rest.Holding w a) → u.opening ≡ t.opening
            → Does o t.machine m.party m.what a u.machine → Way t u m a
        by_put w None e f o inside stages opening d =
            let turned = moving t.machine.value (turn_at t.machine.lock.turn.courses m.party) stage m.what here w (old.fits.stands m.party inside) e f o in
            let same : turned.from ≡ d.from = some_eq (sym turned.starts ∙ d.starts) in
            let P : Place → Type 0 = Moves t.machine.value (turn_at t.machine.lock.turn.courses m.party) stage m.what here w in
            acts w (record {
              inside = inside;
              old = old;
              new = new;
              call = e;
              first = f;
              no_put = o;
              from = d.from;
              next = d.next;
              starts = d.starts;
              acts = d.acts;
              answer = d.answer;
              value = d.value;
              stages = stages;
              opening = opening;
              moves = subst P same turned.holds;
            })
        by_put w (Some v) e f o inside stages opening d =
            let put = put_is stage m.what v w here o e in
            let S : Within → Type 0 = λ y. u.stages ≡ set t.stages m.party (stage_after Rest.Holding y a) in
            let B : Answer → Type 0 = λ b. u.stages ≡ set t.stages m.party (stage_after Rest.Holding (within Kind.Put Rest.Holding) b) in
            let stay : u.stages ≡ t.stages = subst B d.0 (subst S put.call stages) ∙ set_same t.stages m.party Forgotten _ put.stage inside in
            puts w v inside o e d.0 (table_eq _ _ _ _ _ _ d.1 stay opening)

  -- a move that its party may make, and that is no put and no poll after ready, is carried out by the lock
  pub acting : (v : Within) → call_at (knows_at here) stage m.what ≡ Some v → polls_again stage m.what ≡ false → put_in m.what ≡ None → TableSteps t m a u → Acting t u m a v
  acting v called first no_put step = by_way (way step) where
    by_way : Way t u m a → Acting t u m a v
    by_way (impossible e ea eu) = absurd (none_some (sym e ∙ (call_is ∙ called)))
    by_way (over w e f ea eu) = absurd (false≢true (sym first ∙ f))
    by_way (puts w n inside o e ea eu) = absurd (none_some (sym no_put ∙ o))
    by_way (acts w c) = subst (λ (y : Within). Acting t u m a y) (some_eq (sym c.call ∙ called)) c

-- ---- a step of a call

-- no call begins at such a place
first_apart : (w : Wanted) → is_midway (first_poll w) ≡ false
first_apart Wanted.Read = refl
first_apart Wanted.UpgradableRead = refl
first_apart Wanted.Write = refl

pub begins_apart : (c : Call) (x y : Place) → start_of c x ≡ Some y → is_midway y ≡ false
begins_apart Call.Read Place.Out y e = ap is_midway (sym (some_eq e))
begins_apart Call.UpgradableRead Place.Out y e = ap is_midway (sym (some_eq e))
begins_apart Call.Write Place.Out y e = ap is_midway (sym (some_eq e))
begins_apart Call.TryRead Place.Out y e = ap is_midway (sym (some_eq e))
begins_apart Call.TryUpgradableRead Place.Out y e = ap is_midway (sym (some_eq e))
begins_apart Call.TryWrite Place.Out y e = ap is_midway (sym (some_eq e))
begins_apart Call.Poll (Place.Made w) y e = ap is_midway (sym (some_eq e)) ∙ first_apart w
begins_apart Call.Poll Place.AskNoWriter y e = ap is_midway (sym (some_eq e))
begins_apart Call.Poll (Place.WaitTurn q) y e = ap is_midway (sym (some_eq e))
begins_apart Call.Poll (Place.AwaitNoReaders upgrade) y e = ap is_midway (sym (some_eq e))
begins_apart Call.Poll (Place.LookUnlisted true) y e = ap is_midway (sym (some_eq e))
begins_apart Call.Poll (Place.LookUnlisted false) y e = absurd (none_some e)
begins_apart Call.Poll _ y e = absurd (none_some e)
begins_apart Call.Drop (Place.Made w) y e = ap is_midway (sym (some_eq e))
begins_apart Call.Drop Place.AskNoWriter y e = ap is_midway (sym (some_eq e))
begins_apart Call.Drop (Place.WaitTurn q) y e = ap is_midway (sym (some_eq e))
begins_apart Call.Drop (Place.AwaitNoReaders upgrade) y e = ap is_midway (sym (some_eq e))
begins_apart Call.Drop (Place.LookUnlisted true) y e = ap is_midway (sym (some_eq e))
begins_apart Call.Drop (Place.LookUnlisted false) y e = absurd (none_some e)
begins_apart Call.Drop Place.Reading y e = ap is_midway (sym (some_eq e))
begins_apart Call.Drop Place.Upgradable y e = ap is_midway (sym (some_eq e))
begins_apart Call.Drop Place.Writing y e = ap is_midway (sym (some_eq e))
begins_apart Call.Drop _ y e = absurd (none_some e)
begins_apart Call.Upgrade Place.Upgradable y e = ap is_midway (sym (some_eq e))
begins_apart Call.TryUpgrade Place.Upgradable y e = ap is_midway (sym (some_eq e))
begins_apart Call.Downgrade Place.Upgradable y e = ap is_midway (sym (some_eq e))
begins_apart Call.Downgrade Place.Writing y e = ap is_midway (sym (some_eq e))
begins_apart Call.DowngradeToUpgradable Place.Writing y e = ap is_midway (sym (some_eq e))
begins_apart _ _ y e = absurd (none_some e)

stays_from : (what : What) (x y : Place) → place_for what x ≡ Some y → is_midway y ≡ true → x ≡ y
stays_from (Begin c i) x y e h = absurd (false≢true (sym (begins_apart c x y e) ∙ h))
stays_from (Go i) x y e h = some_eq e

still : (memory starving : Bool) (p : ℕ) (x : Place) (f : _) (l k : _) → OnTurn memory starving p (action_of x) f l k → steps_in_turn x ≡ false → k ≡ l
still memory starving p (Place.EnterTurn q) f l k e h = absurd (cc)
still memory starving p (Place.WaitTurn q) f l k e h = absurd (cc)
still memory starving p (Place.TakeTurn q) f l k e h = absurd (cc)
still memory starving p (Place.TryTurn q) f l k e h = absurd (cc)
still memory starving p Place.CancelTurn f l k e h = absurd (cc)
still memory starving p Place.CancellingTurn f l k e h = absurd (cc)
still memory starving p (Place.ReleaseTurn q) f l k e h = absurd (cc)
still memory starving p (Place.ReleasingTurn q) f l k e h = absurd (cc)
still memory starving p _ f l k e h = e

module _ (t u : Table Guarded) (m : Move) (a : Answer) (w : Within) (c : Acting t u m a w) where
  abbrev l : RwLock
  l = t.machine.lock

  abbrev k : RwLock
  k = u.machine.lock

  abbrev v : ℕ
  v = t.machine.value

  abbrev memory : Bool
  memory = (inputs_of m.what).memory

  abbrev starving : Bool
  starving = (inputs_of m.what).starving

  pub fit : fits_turn c.from (turn_at l.turn.courses m.party) ≡ true
  fit = rw c.moves.same.in_turn (c.old.lock.in_turn m.party)

  abbrev n : Next
  n = next_of c.from c.acts.found

  pub says : a ≡ answer_by v n
  says = c.answer ∙ ap (answer_by v) c.acts.next_is

  abbrev ts : List Stage
  ts = set t.stages m.party (stage_then w v n)

  stages_then : u.stages ≡ ts
  stages_then = c.stages ∙ ap (λ b. set t.stages m.party (stage_after Rest.Holding w b)) says

  known : legals.Known m l k t.stages t.opening v c.from n w
  known =
      let places : k.places ≡ set l.places m.party (place_after n) = c.acts.places ∙ ap (λ y. set l.places m.party (place_after y)) c.acts.next_is in
      let walk = walks memory starving m.party c.from c.next l k w c.acts fit c.moves.course in
      let given : word.Known m l k t.stages v c.from c.acts.found = record {
        laws = c.old.lock;
        fits = c.old.fits;
        known = c.inside;
        finds = c.acts.finds;
        no_writer = c.acts.no_writer;
        no_readers = c.acts.no_readers;
        places = places;
        same = c.moves.same;
        share = c.moves.share;
        straight = strays_not w c.from c.moves.course;
        midway = λ h. stays_from m.what (place_at l.places m.party) c.from c.starts h;
      } in
      let facts : Facts m l k t.stages t.opening ts v c.from n = elim (cases_Bool (steps_in_turn c.from)) as (λ _. Facts m l k t.stages t.opening ts v c.from n) [
        | inl y ↦ on_turn m l k t.stages t.opening ts v c.new.lock c.from c.acts.found given y c.acts.turn (led memory starving m.party l.turn k.turn c.from c.acts.found c.acts.turn fit) fit
        | inr y ↦ word.on_word m l k t.stages t.opening ts v c.from c.acts.found given (still memory starving m.party c.from c.acts.found l.turn k.turn c.acts.turn y) y
      ] in
      let F : List Stage → Type 0 = λ ss. Fits k ss v in
      let new_fits : Fits k u.stages v = record { as_many = c.new.fits.as_many; stands = c.new.fits.stands } in
      record {
        laws = c.old.lock;
        fits = c.old.fits;
        new_laws = c.new.lock;
        new_fits = subst F stages_then new_fits;
        known = c.inside;
        places = places;
        limit = c.acts.limit;
        facts = facts;
        moves = c.moves;
        call = call_is t u m a c.old c.new ∙ c.call;
        no_put = c.no_put;
        not_over = again_is t u m a c.old c.new ∙ c.first;
        walks = rw c.acts.next_is at walk;
      }

  pub legal : Legal (view_of t) m a (view_of u)
  legal = rw (says, stages_then, c.opening, c.value) (legals.step_legal m l k t.stages t.opening v c.from n w known)

  -- who is refused for too many starved parties was about to be counted
  pub counts : DecidesOn (view_of t) m a (view_of u) (refused Refusal.Starved) → is_counting (turn_at l.turn.courses m.party) ≡ true
  counts y = legals.counts m l k t.stages t.opening v c.from n w known (same y) where
    same : DecidesOn (view_of t) m a (view_of u) (refused Refusal.Starved) → DecidesOn (view_of t) m (answer_by v n) (seen k ts t.opening v) (refused Refusal.Starved)
    same = rw (says, stages_then, c.value) (λ z. z)
