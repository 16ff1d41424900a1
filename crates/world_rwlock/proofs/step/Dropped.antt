-- The drop of a party that waits for the turn and isn't starved, or that waits to read, is one step.
use Rattle.world_rwlock.proofs.Prelude.{◌≡◌, ℕ, ◌<◌, Bool, true, false, List, Some, refl, arith, ap, sym, ◌∙◌, subst, Entry, entries_of, Answer, Call, Inputs, Move, What, Begin, Rest, Outside, Within, outside, inputs_of, some_eq, stage_at, Table, outside_stage, TurnCourse, is_waiting, Mutex, turn_at, LockCall, Action, Found, Place, OnNoWriter, action_of, next_of, OnTurn, place_at, fits_turn, Guarded, answer_by, place_for, is_future, goes_with, standing_of, is_starved, verdict, view_of}
use Rattle.world_base.specs.Frame.{is_drop}
use Rattle.world_base.specs.Steps.{leaves, list_after}
use Rattle.world_mutex.specs.machine.Course as course
use Rattle.world_mutex.specs.machine.Mutex.{is_counted}
use Rattle.world_mutex.proofs.of_machine.callers.Holders as sees
use Rattle.world_rwlock.proofs.step.Acting.{Acting, says}
use Rattle.world_rwlock.proofs.step.Asked.{in_turn_list, in_no_writer_list}
use Rattle.world_rwlock.proofs.step.Idle.{stood}
use Rattle.world_rwlock.proofs.Prelude.{OnNoReaders, Wanted, in_no_writer, in_no_readers, is_upgrade, is_upgrader, entries_in, starved_of, LeavesLists}
use Rattle.world_rwlock.proofs.step.AtOnce.{Lists, waits_for_turn}
use Rattle.world_rwlock.proofs.table.Begun.{at_future}

drops_so : (what : What) → is_drop what ≡ true → (i : Inputs) × (what ≡ Begin Call.Drop i)
drops_so (Begin Call.Drop i) h = (i, refl)
drops_so _ h = absurd (cc h)

waits_plain : (t : TurnCourse) → is_waiting t ≡ true → is_counted t ≡ false → t ≡ course.waiting false
waits_plain (course.waiting true) w h = absurd (cc h)
waits_plain (course.waiting false) w h = refl
waits_plain _ w h = absurd (cc w)

turn_drops : (memory starving : Bool) (p v : ℕ) (f : Found) (l k : Mutex) → OnTurn memory starving p (Action.Begin LockCall.Cancel) f l k → turn_at l.courses p ≡ course.waiting false → (answer_by v (next_of Place.CancelTurn f) ≡ Answer.GivenBack) × (k.entries ≡ list_after p leaves l.entries)
turn_drops memory starving p v (Found.Turn s) l k o waits = let it = o.abandons refl waits in (ap (λ z. answer_by v (next_of Place.CancelTurn (Found.Turn z))) it.0, it.1)
turn_drops memory starving p v _ l k o waits = absurd o

reading_drops : (p v : ℕ) (f : Found) (l m : List (Entry ℕ)) → OnNoWriter p Action.LeaveNoWriter f l m → (answer_by v (next_of Place.CancelRead f) ≡ Answer.GivenBack) × (m ≡ list_after p leaves l)
reading_drops p v Found.Done l m o = (refl, o)
reading_drops p v _ l m o = absurd o

-- a future in no list, but of an upgrade, is as when it was made
in_none : (x : Place) → is_future x ≡ true → in_no_writer x ≡ 0 → in_no_readers x ≡ 0 → waits_for_turn x ≡ false → is_upgrade x ≡ false → (wanted : Wanted) × (x ≡ Place.Made wanted)
in_none = at_future (λ x. in_no_writer x ≡ 0 → in_no_readers x ≡ 0 → waits_for_turn x ≡ false → is_upgrade x ≡ false → (wanted : Wanted) × (x ≡ Place.Made wanted)) (record {
  made = λ w reading writing turn plain. (w, refl);
  no_writer = λ reading writing turn plain. absurd (omega (arith, reading));
  turn = λ q reading writing turn plain. absurd (cc turn);
  no_readers = λ upgrade reading writing turn plain. absurd (omega (arith, writing));
  upgrade = λ reading writing turn plain. absurd (cc plain);
})

module _ (t u : Table Guarded) (m : Move) (a : Answer) (w : Within) (c : Acting t u m a w) (drops : is_drop m.what ≡ true) (pending : standing_of (view_of t) m.party ≡ outside Rest.Pending) where
  abbrev p : ℕ
  p = m.party

  abbrev here : Place
  here = place_at t.machine.lock.places p

  abbrev there : TurnCourse
  there = turn_at t.machine.lock.turn.courses p

  at : stage_at t.stages p ≡ Outside Rest.Pending
  at = outside_stage (verdict t.machine.value here there) (stage_at t.stages p) Rest.Pending (sym (stood t p c.old) ∙ pending)

  future : is_future here ≡ true
  future = ap (λ s. goes_with s here) (sym at) ∙ c.old.fits.stands p c.inside

  starts : (i : Inputs) × (place_for (Begin Call.Drop i) here ≡ Some c.from)
  starts = let d = drops_so m.what drops in (d.0, (let P : What → Type 0 = λ z. place_for z here ≡ Some c.from in subst P d.1 c.starts))

  pub from_turn : 0 < entries_of p t.machine.lock.turn.entries → is_starved (view_of t) p ≡ false → (a ≡ Answer.GivenBack) × (u.machine.lock.turn.entries ≡ list_after p leaves t.machine.lock.turn.entries)
  from_turn some plain =
      let is = in_turn_list there here future (c.old.lock.in_turn p) (omega (arith, c.old.lock.turn.owners p, some)) in
      let S : Place → Type 0 = λ y. place_for (Begin Call.Drop starts.0) y ≡ Some c.from in
      let from : c.from ≡ Place.CancelTurn = sym (some_eq (subst S is.1 starts.1)) in
      let F : Place → Type 0 = λ y. fits_turn y there ≡ true in
      let waits : there ≡ course.waiting false = waits_plain there (subst F is.1 (c.old.lock.in_turn p)) (sym (sees.starved_at t.machine.lock.turn.courses p) ∙ plain) in
      let O : Place → Type 0 = λ x. OnTurn (inputs_of m.what).memory (inputs_of m.what).starving p (action_of x) c.acts.found t.machine.lock.turn u.machine.lock.turn in
      let A : Place → Type 0 = λ x. a ≡ answer_by t.machine.value (next_of x c.acts.found) in
      let it = turn_drops (inputs_of m.what).memory (inputs_of m.what).starving p t.machine.value c.acts.found t.machine.lock.turn u.machine.lock.turn (subst O from c.acts.turn) waits in
      (subst A from (says t u m a w c) ∙ it.0, it.1)

  pub from_reading : 0 < entries_of p t.machine.lock.no_writer → (a ≡ Answer.GivenBack) × (u.machine.lock.no_writer ≡ list_after p leaves t.machine.lock.no_writer)
  from_reading some =
      let is = in_no_writer_list here future (omega (arith, c.old.lock.owners_no_writer p, some)) in
      let S : Place → Type 0 = λ y. place_for (Begin Call.Drop starts.0) y ≡ Some c.from in
      let from : c.from ≡ Place.CancelRead = sym (some_eq (subst S is starts.1)) in
      let O : Place → Type 0 = λ x. OnNoWriter p (action_of x) c.acts.found t.machine.lock.no_writer u.machine.lock.no_writer in
      let A : Place → Type 0 = λ x. a ≡ answer_by t.machine.value (next_of x c.acts.found) in
      let it = reading_drops p t.machine.value c.acts.found t.machine.lock.no_writer u.machine.lock.no_writer (subst O from c.acts.no_writer) in
      (subst A from (says t u m a w c) ∙ it.0, it.1)

  pub from_nowhere : Lists (entries_in (view_of t) p) (is_upgrader (view_of t) p) here → entries_in (view_of t) p ≡ 0 → is_upgrader (view_of t) p ≡ false → (a ≡ Answer.GivenBack) × LeavesLists (view_of t) (view_of u)
  from_nowhere k none plain =
      let is = in_none here future (k.no_writer none) (k.no_readers none) (k.turn none) (sym k.upgrade ∙ plain) in
      let S : Place → Type 0 = λ y. place_for (Begin Call.Drop starts.0) y ≡ Some c.from in
      let from : c.from ≡ Place.Out = sym (some_eq (subst S is.1 starts.1)) in
      let O : Place → Type 0 = λ x. OnTurn (inputs_of m.what).memory (inputs_of m.what).starving p (action_of x) c.acts.found t.machine.lock.turn u.machine.lock.turn in
      let W : Place → Type 0 = λ x. OnNoWriter p (action_of x) c.acts.found t.machine.lock.no_writer u.machine.lock.no_writer in
      let R : Place → Type 0 = λ x. OnNoReaders p (action_of x) c.acts.found t.machine.lock.no_readers u.machine.lock.no_readers in
      let A : Place → Type 0 = λ x. a ≡ answer_by t.machine.value (next_of x c.acts.found) in
      let still : u.machine.lock.turn ≡ t.machine.lock.turn = subst O from c.acts.turn in
      (subst A from (says t u m a w c), record { turn_list = ap (λ l. l.entries) still; no_writer = subst W from c.acts.no_writer; no_readers = subst R from c.acts.no_readers; starved = ap starved_of still })
