-- Whoever is to be refused, has nothing any more and stands in no list notifies one in its list as its call ends.
use Rattle.world_rwlock.proofs.Prelude.{◌≡◌, ℕ, true, false, Option, Some, None, List, refl, arith, ap, sym, ◌∙◌, subst, notified, entries_of, Answer, Move, What, Begin, Go, Stage, Inside, Within, read, inside, inputs_of, refused, some_eq, none_some, stage_at, inside_as, call_at, Table, Refusal, End as TurnEnd, TurnStep as Step, Ending, Found, Place, Purpose, TurnCourse, decision, counted, listed, is_holding, Mutex, turn_at, holder_of, holding_holds, OnNoWriter, action_of, next_of, after_lock, released, OnTurn, place_at, fits_turn, in_no_writer, knows_at, Guarded, answer_by, place_for, sought_at, is_for_turn, World, standing_of, sought_by, is_starved, HasTurn, Share, passing, upgrading, waiting, writing, turn_as, turn_by, share_of, refused_by, verdict_until, verdict, view_of}
use Rattle.world_mutex.specs.machine.Course.{bit}
use Rattle.world_mutex.specs.machine.Effects.{entries_after}
use Rattle.world_mutex.proofs.of_machine.callers.Holders as sees
use Rattle.world_rwlock.proofs.step.Acting.{Acting, fit, says}
use Rattle.world_rwlock.proofs.step.Idle.{stood, sought_is}

-- ---- where such a party is

pub going_here : (f : _) (w : Within) (s : Stage) (u : Within) (what : What) (x from : Place) → call_at f s what ≡ Some w → s ≡ Inside u → place_for what x ≡ Some from → from ≡ x
going_here f w s u (Begin c i) x from e is starts = let C : Stage → Type 0 = λ z. call_at f z (Begin c i) ≡ Some w in absurd (none_some (subst C is e))
going_here f w s u (Go i) x from e is starts = sym (some_eq starts)

has_as : (p : ℕ) (s : Share) → HasTurn (turn_as p s) p
has_as p passing = refl
has_as p upgrading = refl
has_as p waiting = refl
has_as p writing = refl

pub has_by : (h : Option ℕ) (xs : List Place) (p : ℕ) → h ≡ Some p → HasTurn (turn_by h xs) p
has_by h xs p e = let P : Option ℕ → Type 0 = λ o. HasTurn (turn_by o xs) p in subst P (sym e) (has_as p (share_of (place_at xs p)))

refused_as : (o : Option TurnEnd) (r : ℕ) → refused_by o ≡ Some (Answer.Refused r) → (why : Refusal) × (o ≡ Some (TurnEnd.Refused why)) × (refused why ≡ Answer.Refused r)
refused_as None r e = absurd (none_some e)
refused_as (Some (TurnEnd.Refused why)) r e = (why, refl, some_eq e)
refused_as (Some TurnEnd.Got) r e = absurd (none_some e)
refused_as (Some TurnEnd.Granted) r e = absurd (none_some e)
refused_as (Some TurnEnd.Pending) r e = absurd (none_some e)
refused_as (Some TurnEnd.NotFree) r e = absurd (none_some e)
refused_as (Some TurnEnd.Waiting) r e = absurd (none_some e)
refused_as (Some TurnEnd.GivenBack) r e = absurd (none_some e)

released_as : (v : ℕ) (e : Ending) (r : ℕ) → verdict_until e ≡ Answer.Refused r → answer_by v (released e) ≡ Answer.Refused r
released_as v Ending.GivenBack r d = absurd (cc d)
released_as v (Ending.NotFree p) r d = absurd (cc d)
released_as v Ending.RefuseReaders r d = d
released_as v Ending.RefuseMemory r d = d
released_as v Ending.Reading r d = absurd (cc d)
released_as v Ending.NotifyReaders r d = absurd (cc d)

purposed : (v : ℕ) (q : Purpose) (why : Refusal) → answer_by v (after_lock q (Found.Turn (Step.End (TurnEnd.Refused why)))) ≡ refused why
purposed v Purpose.UpgradableRead why = refl
purposed v Purpose.Write why = refl

module _ (t u : Table Guarded) (m : Move) (a : Answer) (w : Within) (k : Acting t u m a w) where
  abbrev p : ℕ
  p = m.party

  abbrev x : Place
  x = place_at t.machine.lock.places p

  abbrev c : TurnCourse
  c = turn_at t.machine.lock.turn.courses p

  abbrev v : ℕ
  v = t.machine.value

  abbrev l : Mutex
  l = t.machine.lock.turn

  abbrev n : Mutex
  n = u.machine.lock.turn

  abbrev old : World
  old = view_of t

  abbrev new : World
  new = view_of u

  abbrev On : Place → Found → Type 0
  On y f = OnTurn (inputs_of m.what).memory (inputs_of m.what).starving p (action_of y) f l n

  holds_not : is_holding c ≡ true → (HasTurn old.state.turn p → ⊥) → ⊥
  holds_not h without = without (has_by (holder_of l) t.machine.lock.places p (sees.holds_it l.courses p k.old.lock.turn.one_holder (holding_holds c h)))

  abbrev EndsSo : Place → Found → ℕ → Type 0
  EndsSo y f r = (answer_by v (next_of y f) ≡ Answer.Refused r) × (n.entries ≡ notified l.entries 1)

  refuses_by : (y : Place) (f : Found) (r : ℕ) → fits_turn y c ≡ true → On y f → verdict v y c ≡ Some (Answer.Refused r) → is_for_turn (sought_at y) ≡ true → (HasTurn old.state.turn p → ⊥) → listed c ≡ 0 → counted c ≡ 0 → EndsSo y f r
  refuses_by (Place.TakeTurn q) (Found.Turn s) r link o d sought without none plain =
      let why = refused_as (decision c) r d in
      let it = o.legal.refuses why.0 why.1 none plain in
      (ap (λ z. answer_by v (next_of (Place.TakeTurn q) (Found.Turn z))) it.1 ∙ (purposed v q why.0 ∙ why.2), o.legal.entries ∙ ap (λ z. entries_after p z l.entries) it.0)
  refuses_by (Place.TakeTurn q) _ r link o d sought without none plain = absurd o
  refuses_by (Place.ReleasingTurn e) (Found.Turn s) r link o d sought without none plain =
      let ends = (o.leads.releases link).0 in
      (ap (λ z. answer_by v (next_of (Place.ReleasingTurn e) (Found.Turn z))) ends ∙ released_as v e r (some_eq d), o.legal.entries ∙ ap (λ z. entries_after p z l.entries) (o.legal.releases link))
  refuses_by (Place.ReleasingTurn e) _ r link o d sought without none plain = absurd o
  refuses_by (Place.ReleaseTurn e) f r link o d sought without none plain = absurd (holds_not link without)
  refuses_by (Place.Unmark true) f r link o d sought without none plain = absurd (holds_not link without)
  refuses_by (Place.Unmark false) f r link o d sought without none plain = absurd (cc d)
  refuses_by (Place.UnmarkNotify true) f r link o d sought without none plain = absurd (holds_not link without)
  refuses_by (Place.UnmarkNotify false) f r link o d sought without none plain = absurd (cc d)
  refuses_by (Place.RefuseLeave told) f r link o d sought without none plain = absurd (cc sought)
  refuses_by (Place.RefuseNotify why) f r link o d sought without none plain = absurd (cc sought)
  refuses_by _ f r link o d sought without none plain = absurd (cc d)

  -- ---- a read

  abbrev EndsReading : Place → Found → ℕ → Type 0
  EndsReading y f r = (answer_by v (next_of y f) ≡ Answer.Refused r) × (u.machine.lock.no_writer ≡ notified t.machine.lock.no_writer 1)

  abbrev OnRead : Place → Found → Type 0
  OnRead y f = OnNoWriter p (action_of y) f t.machine.lock.no_writer u.machine.lock.no_writer

  until_read : (e : Ending) (r : ℕ) → verdict_until e ≡ Answer.Refused r → sought_at (Place.ReleaseTurn e) ≡ Some read → ⊥
  until_read Ending.GivenBack r d h = cc d
  until_read (Ending.NotFree q) r d h = cc d
  until_read Ending.RefuseReaders r d h = cc h
  until_read Ending.RefuseMemory r d h = cc h
  until_read Ending.Reading r d h = cc d
  until_read Ending.NotifyReaders r d h = cc d

  refuses_read_by : (y : Place) (f : Found) (r : ℕ) → OnRead y f → verdict v y c ≡ Some (Answer.Refused r) → sought_at y ≡ Some read → in_no_writer y ≡ 0 → EndsReading y f r
  refuses_read_by (Place.RefuseNotify why) Found.Done r o d sought none = (some_eq d, o)
  refuses_read_by (Place.RefuseNotify why) _ r o d sought none = absurd o
  refuses_read_by (Place.RefuseLeave told) f r o d sought none = absurd (omega (arith, none))
  refuses_read_by (Place.TakeTurn Purpose.UpgradableRead) f r o d sought none = absurd (cc sought)
  refuses_read_by (Place.TakeTurn Purpose.Write) f r o d sought none = absurd (cc sought)
  refuses_read_by (Place.ReleaseTurn e) f r o d sought none = absurd (until_read e r (some_eq d) sought)
  refuses_read_by (Place.ReleasingTurn e) f r o d sought none = absurd (until_read e r (some_eq d) sought)
  refuses_read_by (Place.Unmark true) f r o d sought none = absurd (cc sought)
  refuses_read_by (Place.Unmark false) f r o d sought none = absurd (cc d)
  refuses_read_by (Place.UnmarkNotify true) f r o d sought none = absurd (cc sought)
  refuses_read_by (Place.UnmarkNotify false) f r o d sought none = absurd (cc d)
  refuses_read_by _ f r o d sought none = absurd (cc d)

  -- ---- as callers see it

  module _ (within : Within) (r : ℕ) (at : standing_of old p ≡ inside within (Some (Answer.Refused r))) where
    there : (stage_at t.stages p ≡ Inside within) × (verdict v x c ≡ Some (Answer.Refused r))
    there = inside_as (verdict v x c) (stage_at t.stages p) within (Some (Answer.Refused r)) (sym (stood t p k.old) ∙ at)

    here : k.from ≡ x
    here = going_here (knows_at x) w (stage_at t.stages p) within m.what x k.from k.call there.0 k.starts

    decided : verdict v k.from c ≡ Some (Answer.Refused r)
    decided = ap (λ z. verdict v z c) here ∙ there.1

    seeks : sought_by old p ≡ sought_at k.from
    seeks = sought_is t p ∙ ap sought_at (sym here)

    pub for_turn : is_for_turn (sought_by old p) ≡ true → (HasTurn old.state.turn p → ⊥) → entries_of p old.turn_list ≡ 0 → is_starved old p ≡ false → (a ≡ Answer.Refused r) × (new.turn_list ≡ notified old.turn_list 1)
    for_turn sought without none plain =
        let uncounted : counted c ≡ 0 = sym (sees.counted_bit c) ∙ ap bit (sym (sees.starved_at l.courses p) ∙ plain) in
        let it = refuses_by k.from k.acts.found r (fit t u m a w k) k.acts.turn decided (sym (ap is_for_turn seeks) ∙ sought) without (sym (k.old.lock.turn.owners p) ∙ none) uncounted in
        (says t u m a w k ∙ it.0, it.1)

    pub to_read : sought_by old p ≡ Some read → entries_of p old.no_writer ≡ 0 → (a ≡ Answer.Refused r) × (new.no_writer ≡ notified old.no_writer 1)
    to_read sought none =
        let unlisted : in_no_writer k.from ≡ 0 = ap in_no_writer here ∙ (sym (k.old.lock.owners_no_writer p) ∙ none) in
        let it = refuses_read_by k.from k.acts.found r k.acts.no_writer decided (sym seeks ∙ sought) unlisted in
        (says t u m a w k ∙ it.0, it.1)
