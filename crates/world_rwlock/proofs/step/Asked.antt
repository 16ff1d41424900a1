-- A poll of a party that waits for the turn, or to read, asks in that list.
use Rattle.world_rwlock.proofs.Prelude.{◌≡◌, ℕ, ◌<◌, if◌then◌else◌, Bool, true, false, List, Some, refl, arith, ap, sym, ◌∙◌, subst, Entry, is_marked_at, is_party, entries_of, Answer, Call, Inputs, Move, What, Begin, Rest, Outside, Within, outside, inputs_of, some_eq, stage_at, Table, outside_stage, TurnCourse, listed, Mutex, turn_at, out_unlisted, holding_unlisted, End, LockCall, TurnStep, Action, Found, Place, Purpose, OnNoWriter, action_of, next_of, poll_from, OnTurn, Finds, RwLock, place_at, fits_turn, in_no_writer, Guarded, answer_by, place_for, is_future, goes_with, AsksIn, standing_of, verdict, view_of}
use Rattle.world_mutex.specs.machine.Conduct.{Asks}
use Rattle.world_rwlock.proofs.step.Acting.{Acting, says}
use Rattle.world_rwlock.proofs.step.Idle.{stood}
use Rattle.world_rwlock.proofs.table.Begun.{at_future}

-- ---- where such a party stands, and its poll begins

pub in_turn_list : (t : TurnCourse) (x : Place) → is_future x ≡ true → fits_turn x t ≡ true → 0 < listed t → (q : Purpose) × (x ≡ Place.WaitTurn q)
in_turn_list t = at_future (λ x. fits_turn x t ≡ true → 0 < listed t → (q : Purpose) × (x ≡ Place.WaitTurn q)) (record {
  made = λ w fits there. absurd (omega (arith, there, out_unlisted t fits));
  no_writer = λ fits there. absurd (omega (arith, there, out_unlisted t fits));
  turn = λ q fits there. (q, refl);
  no_readers = λ upgrade fits there. absurd (omega (arith, there, holding_unlisted t fits));
  upgrade = λ fits there. absurd (omega (arith, there, holding_unlisted t fits));
})

pub in_no_writer_list : (x : Place) → is_future x ≡ true → 0 < in_no_writer x → x ≡ Place.AskNoWriter
in_no_writer_list = at_future (λ x. 0 < in_no_writer x → x ≡ Place.AskNoWriter) (record {
  made = λ w there. absurd (omega (arith, there));
  no_writer = λ there. refl;
  turn = λ q there. absurd (omega (arith, there));
  no_readers = λ upgrade there. absurd (omega (arith, there));
  upgrade = λ there. absurd (omega (arith, there));
})

-- ---- what it does

turn_answer : (v : ℕ) (q : Purpose) (s : TurnStep) (b : Bool) → s ≡ (if b then TurnStep.More else TurnStep.End End.Pending) → answer_by v (next_of (Place.WaitTurn q) (Found.Turn s)) ≡ (if b then Answer.Stepped else Answer.Pending)
turn_answer v q s true e = rw e refl
turn_answer v q s false e = rw e refl

turn_asks : (memory starving : Bool) (p v : ℕ) (q : Purpose) (f : Found) (l k : Mutex) → OnTurn memory starving p (Action.Begin LockCall.Poll) f l k → 0 < entries_of p l.entries → AsksIn p l.entries (answer_by v (next_of (Place.WaitTurn q) f)) k.entries
turn_asks memory starving p v q (Found.Turn s) l k o some =
    let it : Asks p s l k = o.at_once.listed refl some in
    (turn_answer v q s (is_marked_at (is_party p) l.entries) it.step, it.entries)
turn_asks memory starving p v q _ l k o some = absurd o

reading_asks : (memory : Bool) (p v : ℕ) (x : RwLock) (f : Found) (l m : List (Entry ℕ)) → Finds memory Action.AskNoWriter f x → OnNoWriter p Action.AskNoWriter f l m → AsksIn p l (answer_by v (next_of Place.AskNoWriter f)) m
reading_asks memory p v x Found.Yes l m e o = (rw o.0 refl, rw o.0 o.1)
reading_asks memory p v x Found.No l m e o = (rw o.0 refl, rw o.0 o.1)
reading_asks memory p v x _ l m e o = absurd e

module _ (t u : Table Guarded) (m : Move) (a : Answer) (w : Within) (c : Acting t u m a w) (i : Inputs) (polls : m.what ≡ Begin Call.Poll i) (pending : standing_of (view_of t) m.party ≡ outside Rest.Pending) where
  abbrev p : ℕ
  p = m.party

  abbrev here : Place
  here = place_at t.machine.lock.places p

  abbrev there : TurnCourse
  there = turn_at t.machine.lock.turn.courses p

  at : stage_at t.stages p ≡ Outside Rest.Pending
  at = outside_stage (verdict t.machine.value here there) (stage_at t.stages p) Rest.Pending (sym (stood t p c.old) ∙ pending)

  future : is_future here ≡ true
  future = ap (λ s. goes_with s here) (sym at) ∙ c.old.fits.stands p c.inside

  starts : poll_from here ≡ Some c.from
  starts = let P : What → Type 0 = λ z. place_for z here ≡ Some c.from in subst P polls c.starts

  pub for_turn : 0 < entries_of p t.machine.lock.turn.entries → AsksIn p t.machine.lock.turn.entries a u.machine.lock.turn.entries
  for_turn some =
      let is = in_turn_list there here future (c.old.lock.in_turn p) (omega (arith, c.old.lock.turn.owners p, some)) in
      let from : c.from ≡ Place.WaitTurn is.0 = some_eq (sym starts ∙ ap poll_from is.1) in
      let O : Place → Type 0 = λ x. OnTurn (inputs_of m.what).memory (inputs_of m.what).starving p (action_of x) c.acts.found t.machine.lock.turn u.machine.lock.turn in
      let A : Place → Type 0 = λ x. a ≡ answer_by t.machine.value (next_of x c.acts.found) in
      let it = turn_asks (inputs_of m.what).memory (inputs_of m.what).starving p t.machine.value is.0 c.acts.found t.machine.lock.turn u.machine.lock.turn (subst O from c.acts.turn) some in
      (subst A from (says t u m a w c) ∙ it.0, it.1)

  pub to_read : 0 < entries_of p t.machine.lock.no_writer → AsksIn p t.machine.lock.no_writer a u.machine.lock.no_writer
  to_read some =
      let is = in_no_writer_list here future (omega (arith, c.old.lock.owners_no_writer p, some)) in
      let from : c.from ≡ Place.AskNoWriter = some_eq (sym starts ∙ ap poll_from is) in
      let F : Place → Type 0 = λ x. Finds (inputs_of m.what).memory (action_of x) c.acts.found t.machine.lock in
      let O : Place → Type 0 = λ x. OnNoWriter p (action_of x) c.acts.found t.machine.lock.no_writer u.machine.lock.no_writer in
      let A : Place → Type 0 = λ x. a ≡ answer_by t.machine.value (next_of x c.acts.found) in
      let it = reading_asks (inputs_of m.what).memory p t.machine.value t.machine.lock c.acts.found t.machine.lock.no_writer u.machine.lock.no_writer (subst F from c.acts.finds) (subst O from c.acts.no_writer) in
      (subst A from (says t u m a w c) ∙ it.0, it.1)
