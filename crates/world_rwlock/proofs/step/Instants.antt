-- Each move is answered at once where it should be, as callers see it.
use Rattle.world_rwlock.proofs.Prelude.{◌≡◌, ℕ, ◌<◌, ◌==◌, ◌&&◌, ◌↔◌, if◌then◌else◌, Bool, true, false, List, length, nat_lt, Option, Some, None, refl, arith, ap, sym, ◌∙◌, subst, get_or-set_same, set, nat_tests, false≢true, eqb-true, eq-eqb, ltb-true, lt-ltb, Answer, Call, Value, Inputs, Move, What, Begin, Rest, Outside, Forgotten, Within, Right, read, upgradable, write, how_many, Standing, outside, inside, inputs_of, call_in, some_eq, some_none, TurnCourse, listed, turn_at, holder_of, holders, starved, waiting_listed, Found, Place, Purpose, action_of, next_of, place_after, only_turns, fits_turn, SameRoles, place_at, Finds, readers, marked, OnTurn, World, standing_of, sought_by, is_upgrader, how_many_read, is_marked, is_nobody, is_turn_free, entries_in, knows, call_of, may_read, granted_if, is_try_for_turn, is_first_poll, AnswersAtOnce, stage_at, stage_after, stands_as, decided_after, decision_seen, sought_at, Table, Guarded, answer_by, Share, passing, upgrading, waiting, writing, turn_as, share_of, turn_by, is_reading, verdict, standing_at, view_of, Entry, entries_of, AsksIn, TellsOnRelease, is_outside, is_on, zero, suc, [], ◌∷◌, notified, is_for_turn, is_starved, HasTurn, ◌⊎◌, inl, inr, OnNoWriter, OnNoReaders, LeavesLists, starved_of, Action, LockCall}
use Rattle.world_rwlock.proofs.Prelude.{◌≤◌, refused, Refusal}
use Rattle.std.specs.Prelude.{not}
use Rattle.world_base.specs.Standings.{decision}
use Rattle.world_mutex.proofs.of_machine.callers.Holders as sees
use Rattle.world_rwlock.proofs.of_machine.stages.Leads.{Led, led, steps_in_turn}
use Rattle.world_rwlock.proofs.of_machine.laws.Places.{share as share_in}
use Rattle.world_rwlock.specs.State as state
use Rattle.world_rwlock.specs.State.{Turn}
use Rattle.world_rwlock.proofs.step.Rows.{verdict_then, turn_row}
use Rattle.world_rwlock.proofs.laws.Sound.{none_marked, nobody_holds, bit_seen}
use Rattle.world_rwlock.proofs.step.Acting.{Acting, fit, says}
use Rattle.world_rwlock.proofs.step.Idle.{Laws, stood, sought_is}
use Rattle.world_rwlock.proofs.step.AtOnce.{waits_for_turn, is_try_turn, Lists, Firsts, firsts, try_reads, first_reads, first_readies, first_refused, try_upgrades, try_adds, added, try_writes, try_written, turn_tries, try_open, turn_enters}
use Rattle.world_rwlock.proofs.table.Views as view
use Rattle.world_rwlock.proofs.step.Asked as asked
use Rattle.world_rwlock.proofs.step.Refusing as refusing
use Rattle.world_rwlock.proofs.step.Owed.{owes_outside}
use Rattle.world_rwlock.proofs.step.Owing as owing
use Rattle.world_base.specs.Frame.{is_drop}
use Rattle.world_base.specs.Steps.{leaves, list_after}
use Rattle.world_rwlock.proofs.step.Dropped as dropped

-- ---- tests

enters_test : (b : Bool) (n k : ℕ) → b ≡ false → n < k → not b && nat_lt n k ≡ true
enters_test true n k e h = absurd (cc)
enters_test false n k e h = grind (arith, nat_tests)

enters_means : (b : Bool) (n k : ℕ) → not b && nat_lt n k ≡ true → (b ≡ false) × (n < k)
enters_means true n k h = absurd (cc)
enters_means false n k h = (refl, grind (arith, nat_tests))

free_test : (t : Turn) (n : ℕ) → t ≡ state.nobody → n ≡ 0 → is_nobody t && (n == 0) ≡ true
free_test t n e d = rw (e, d) refl

free_means : (t : Turn) (n : ℕ) → is_nobody t && (n == 0) ≡ true → (t ≡ state.nobody) × (n ≡ 0)
free_means state.nobody n h = (refl, grind (arith, nat_tests))
free_means (state.passes p) n h = absurd (cc)
free_means (state.is_upgradable p) n h = absurd (cc)
free_means (state.waits_to_write p) n h = absurd (cc)
free_means (state.writes p) n h = absurd (cc)

-- ---- the turn

passer : (q p : ℕ) (s : Share) → turn_as q s ≡ state.passes p → q ≡ p
passer q p passing e = cc
passer q p upgrading e = absurd (cc)
passer q p waiting e = absurd (cc)
passer q p writing e = absurd (cc)

pub passer_holds : (h : Option ℕ) (xs : List Place) (p : ℕ) → turn_by h xs ≡ state.passes p → h ≡ Some p
passer_holds None xs p e = absurd (cc)
passer_holds (Some q) xs p e = ap Some (passer q p (share_of (place_at xs q)) e)

-- nobody has a free turn, and nobody is starved for it
pub turn_is_free : (t : Table Guarded) → is_turn_free (view_of t).state ≡ true → (holders t.machine.lock.turn ≡ 0) × (starved t.machine.lock.turn ≡ 0)
turn_is_free t h =
    let b = free_means (view_of t).state.turn (how_many (view_of t).state.starved) h in
    (sees.none_holds 0 t.machine.lock.turn.courses (nobody_holds (holder_of t.machine.lock.turn) t.machine.lock.places b.0), sym (sees.how_many_counted t.machine.lock.turn.courses) ∙ b.1)

-- ---- one action

-- a party's action at a place, and how it was answered
pub record Acted (t u : Table Guarded) (m : Move) (a : Answer) (from : Place) : Type 0 where
  pub laws : Laws t
  pub known : m.party < length t.machine.lock.places
  pub found : Found
  pub finds : Finds (inputs_of m.what).memory (action_of from) found t.machine.lock
  pub turn : OnTurn (inputs_of m.what).memory (inputs_of m.what).starving m.party (action_of from) found t.machine.lock.turn u.machine.lock.turn
  pub leads : Led from found (turn_at u.machine.lock.turn.courses m.party)
  pub places : u.machine.lock.places ≡ set t.machine.lock.places m.party (place_after (next_of from found))
  pub same : SameRoles from (place_at t.machine.lock.places m.party)
  pub answer : a ≡ answer_by t.machine.value (next_of from found)
  pub decides : decision a (standing_of (view_of u) m.party) ≡ verdict_then t.machine.value (turn_at u.machine.lock.turn.courses m.party) (next_of from found)

module _ (t u : Table Guarded) (m : Move) (a : Answer) where
  abbrev p : ℕ
  p = m.party

  abbrev old : World
  old = view_of t

  abbrev new : World
  new = view_of u

  abbrev memory : Bool
  memory = (inputs_of m.what).memory

  abbrev starving : Bool
  starving = (inputs_of m.what).starving

  reading : how_many_read old ≡ readers t.machine.lock
  reading = view.how_many-read t.machine.lock.places

  enters_is : marked t.machine.lock ≡ 0 → readers t.machine.lock < t.machine.lock.limit → may_read old ≡ true
  enters_is free few = enters_test (is_marked old.state.turn) (how_many_read old) t.machine.lock.limit (none_marked t.machine.lock free) (omega (arith, reading, few))

  enters_says : Laws t → may_read old ≡ true → (marked t.machine.lock ≡ 0) × (readers t.machine.lock < t.machine.lock.limit)
  enters_says k h = let b = enters_means (is_marked old.state.turn) (how_many_read old) t.machine.lock.limit h in (bit_seen t.machine.lock t.stages t.opening t.machine.value k.lock k.fits b.0, omega (arith, reading, b.1))

  free_is : holders t.machine.lock.turn ≡ 0 → starved t.machine.lock.turn ≡ 0 → is_turn_free old.state ≡ true
  free_is h s = free_test old.state.turn (how_many old.state.starved) (ap (λ o. turn_by o t.machine.lock.places) (sees.none_held 0 t.machine.lock.turn.courses h)) (sees.how_many_counted t.machine.lock.turn.courses ∙ s)

  free_says : is_turn_free old.state ≡ true → (holders t.machine.lock.turn ≡ 0) × (starved t.machine.lock.turn ≡ 0)
  free_says h = turn_is_free t h

  -- where a party that acted stands then
  lands : (x : Place) (y : Acted t u m a x) → place_at u.machine.lock.places p ≡ place_after (next_of x y.found)
  lands x y = ap (λ xs. place_at xs p) y.places ∙ get_or-set_same t.machine.lock.places p (place_after (next_of x y.found)) Place.Out y.known

  -- whoever has the turn finds no mark but its own
  unmarked : (x : Place) → Acted t u m a x → only_turns x ≡ 1 → marked t.machine.lock ≡ 0
  unmarked x y one = omega (arith, y.laws.lock.one_turn, share_in only_turns refl t.machine.lock.places p, y.same.turning, one)

  -- a party that took the turn passes with it
  passes_then : (x : Place) (y : Acted t u m a x) → steps_in_turn x ≡ true → holder_of u.machine.lock.turn ≡ Some p → new.state.turn ≡ state.passes p
  passes_then x y in_turn h =
      let row = turn_row t.machine.value (turn_at u.machine.lock.turn.courses p) x y.found in_turn y.leads in
      ap (λ o. turn_by o u.machine.lock.places) h ∙ ap (turn_as p) (ap share_of (lands x y) ∙ row.sharing)

  holds_then : new.state.turn ≡ state.passes p → holder_of u.machine.lock.turn ≡ Some p
  holds_then e = passer_holds (holder_of u.machine.lock.turn) u.machine.lock.places p e

  -- ---- each action that is answered at once

  at_try_read : Acted t u m a Place.TryRead → a ≡ granted_if (may_read old) old
  at_try_read y = y.answer ∙ try_reads memory t.machine.lock t.machine.value y.found y.finds (may_read old) enters_is (enters_says y.laws)

  at_try_upgrade : Acted t u m a Place.TryUpgrade → a ≡ granted_if (how_many_read old == 1) old
  at_try_upgrade y = y.answer ∙ try_upgrades memory t.machine.lock t.machine.value y.found y.finds (unmarked Place.TryUpgrade y refl) (how_many_read old == 1) (λ e. eq-eqb (how_many_read old) 1 (reading ∙ e)) (λ h. sym reading ∙ eqb-true (how_many_read old) 1 h)

  abbrev TakesTurn : Type 0
  TakesTurn = (new.state.turn ≡ state.passes p) ↔ (is_turn_free old.state ≡ true)

  at_try_turn : (q : Purpose) → Acted t u m a (Place.TryTurn q) → (a ≡ (if is_turn_free old.state then Answer.Stepped else Answer.None)) × TakesTurn
  at_try_turn q y =
      let r = turn_tries memory starving p t.machine.value t.machine.lock.turn u.machine.lock.turn q y.found y.turn y.leads (is_turn_free old.state) free_is free_says in
      (y.answer ∙ r.0, ((λ h. r.1.0 (holds_then h)), (λ h. passes_then (Place.TryTurn q) y refl (r.1.1 h))))

  at_enter_turn : (q : Purpose) → Acted t u m a (Place.EnterTurn q) → TakesTurn
  at_enter_turn q y =
      let r = turn_enters memory starving p t.machine.lock.turn u.machine.lock.turn y.found y.turn in (
        (λ h. let b = r.0 (holds_then h) in free_is b.0 b.1),
        (λ h. passes_then (Place.EnterTurn q) y refl (r.1 (free_says h))),
      )

  at_enter_read : Acted t u m a (Place.EnterRead false) → (state.reads new p ≡ true) ↔ (may_read old ≡ true)
  at_enter_read y =
      let r = first_reads memory t.machine.lock y.found y.finds in
      let now : state.reads new p ≡ is_reading (place_after (next_of (Place.EnterRead false) y.found)) = view.reads_at u.machine.lock.places p ∙ ap is_reading (lands (Place.EnterRead false) y) in (
        (λ h. let b = r.0 (sym now ∙ h) in enters_is b.0 b.1),
        (λ h. let b = enters_says y.laws h in now ∙ r.1 b.0 b.1),
      )

  at_enter_ready : Acted t u m a (Place.EnterRead false) → may_read old ≡ true → a ≡ Answer.Ready (Value old.state.value)
  at_enter_ready y h = let b = enters_says y.laws h in y.answer ∙ first_readies memory t.machine.lock t.machine.value y.found y.finds b.0 b.1

  at_enter_full : Acted t u m a (Place.EnterRead false) → is_marked old.state.turn ≡ false → t.machine.lock.limit ≤ how_many_read old → a ≡ refused Refusal.Readers
  at_enter_full y clear full = y.answer ∙ first_refused memory t.machine.lock t.machine.value y.found y.finds (bit_seen t.machine.lock t.stages t.opening t.machine.value y.laws.lock y.laws.fits clear) (omega (arith, reading, full))

  at_added : Acted t u m a (Place.Add true) → decision a (standing_of new p) ≡ Some (granted_if (nat_lt (how_many_read old) old.readers_limit) old)
  at_added y =
      y.decides ∙ added memory t.machine.lock t.machine.value (turn_at u.machine.lock.turn.courses p) y.found y.finds (nat_lt (how_many_read old) t.machine.lock.limit)
      (λ h. lt-ltb (how_many_read old) t.machine.lock.limit (omega (arith, reading, h)))
      (λ h. omega (arith, reading, ltb-true (how_many_read old) t.machine.lock.limit h))

  at_try_written : Acted t u m a Place.TryWrite → decision a (standing_of new p) ≡ Some (granted_if (how_many_read old == 0) old)
  at_try_written y =
      y.decides ∙ try_written memory t.machine.lock t.machine.value (turn_at u.machine.lock.turn.courses p) y.found (unmarked Place.TryWrite y refl) y.finds (how_many_read old == 0)
      (λ h. eq-eqb (how_many_read old) 0 (reading ∙ h))
      (λ h. sym reading ∙ eqb-true (how_many_read old) 0 h)

  at_add : Acted t u m a (Place.Add true) → (a ≡ Answer.Granted (Value old.state.value)) ↔ (how_many_read old < old.readers_limit)
  at_add y =
      let r = try_adds memory t.machine.lock t.machine.value y.found y.finds in (
        (λ h. omega (arith, reading, r.0 (sym y.answer ∙ h))),
        (λ h. y.answer ∙ r.1 (omega (arith, reading, h))),
      )

  at_try_write : Acted t u m a Place.TryWrite → (a ≡ Answer.Granted (Value old.state.value)) ↔ (how_many_read old ≡ 0)
  at_try_write y =
      let r = try_writes memory t.machine.lock t.machine.value y.found (unmarked Place.TryWrite y refl) y.finds in (
        (λ h. reading ∙ r.0 (sym y.answer ∙ h)),
        (λ h. y.answer ∙ r.1 (sym reading ∙ h)),
      )

  tries_turn : (x : Place) → is_try_turn x ≡ true → Acted t u m a x → (a ≡ (if is_turn_free old.state then Answer.Stepped else Answer.None)) × TakesTurn
  tries_turn (Place.TryTurn q) h y = at_try_turn q y
  tries_turn _ h y = absurd (cc)

  goes_on : (x : Place) → is_try_turn x ≡ true → Acted t u m a x → is_turn_free old.state ≡ true → decision a (standing_of new p) ≡ None
  goes_on (Place.TryTurn q) h y free =
      let stepped : a ≡ Answer.Stepped = (at_try_turn q y).0 ∙ ap (λ b. if b then Answer.Stepped else Answer.None) free in
      y.decides ∙ try_open t.machine.value (turn_at u.machine.lock.turn.courses p) q y.found y.leads (sym y.answer ∙ stepped)
  goes_on _ h y free = absurd (cc h)

-- where a move acts, of the World as it is seen
abbrev pub Begins : World → Move → Place → Type 0
Begins old m from = Firsts (standing_of old m.party) (sought_by old m.party) m.what (entries_in old m.party) (is_upgrader old m.party) from

-- what a poll asks in a list of the party that stands there
abbrev Asking : (World → List (Entry ℕ)) → World → Move → Answer → World → Type 0
Asking list old m a new = (i : Inputs) → m.what ≡ Begin Call.Poll i → standing_of old m.party ≡ outside Rest.Pending → 0 < entries_of m.party (list old) → AsksIn m.party (list old) a (list new)

-- what an action at this place does in the lists and to the turn
record InLists (t u : Table Guarded) (m : Move) (from : Place) : Type 0 where
  pub found : Found
  pub turn : OnTurn (inputs_of m.what).memory (inputs_of m.what).starving m.party (action_of from) found t.machine.lock.turn u.machine.lock.turn
  pub no_writer : OnNoWriter m.party (action_of from) found t.machine.lock.no_writer u.machine.lock.no_writer
  pub no_readers : OnNoReaders m.party (action_of from) found t.machine.lock.no_readers u.machine.lock.no_readers

-- a look does nothing there
looks_at : (t u : Table Guarded) (m : Move) (x : Place) → (x ≡ Place.TryRead) ⊎ ((x ≡ Place.TryUpgrade) ⊎ (x ≡ Place.EnterRead false)) → InLists t u m x → LeavesLists (view_of t) (view_of u)
looks_at t u m Place.TryRead at k = record { turn_list = ap (λ l. l.entries) k.turn; no_writer = k.no_writer; no_readers = k.no_readers; starved = ap starved_of k.turn }
looks_at t u m Place.TryUpgrade at k = record { turn_list = ap (λ l. l.entries) k.turn; no_writer = k.no_writer; no_readers = k.no_readers; starved = ap starved_of k.turn }
looks_at t u m (Place.EnterRead told) at k = record { turn_list = ap (λ l. l.entries) k.turn; no_writer = k.no_writer; no_readers = k.no_readers; starved = ap starved_of k.turn }
looks_at t u m x at k = absurd (elim at as (λ _. ⊥) [ inl e ↦ cc e | inr other ↦ elim other as (λ _. ⊥) [ inl e ↦ cc e | inr e ↦ cc e ] ])

-- nor does the first step of a call that takes the turn at once
turn_looks_at : (t u : Table Guarded) (m : Move) (q : Purpose) (x : Place) → (x ≡ Place.EnterTurn q) ⊎ (x ≡ Place.TryTurn q) → InLists t u m x → LeavesLists (view_of t) (view_of u)
turn_looks_at t u m q (Place.EnterTurn pr) at k = by_found k.found k.turn where
  by_found : (f : Found) → OnTurn (inputs_of m.what).memory (inputs_of m.what).starving m.party (Action.Begin LockCall.Lock) f t.machine.lock.turn u.machine.lock.turn → LeavesLists (view_of t) (view_of u)
  by_found (Found.Turn n) o = let so = o.at_once.looks refl in record { turn_list = so.0; no_writer = k.no_writer; no_readers = k.no_readers; starved = so.1 }
  by_found _ o = absurd o
turn_looks_at t u m q (Place.TryTurn pr) at k = by_found k.found k.turn where
  by_found : (f : Found) → OnTurn (inputs_of m.what).memory (inputs_of m.what).starving m.party (Action.Begin LockCall.Try) f t.machine.lock.turn u.machine.lock.turn → LeavesLists (view_of t) (view_of u)
  by_found (Found.Turn n) o = let so = o.at_once.looks refl in record { turn_list = so.0; no_writer = k.no_writer; no_readers = k.no_readers; starved = so.1 }
  by_found _ o = absurd o
turn_looks_at t u m q x at k = absurd (elim at as (λ _. ⊥) [ inl e ↦ cc e | inr e ↦ cc e ])

try_looks_at : (t u : Table Guarded) (m : Move) (x : Place) → is_try_turn x ≡ true → InLists t u m x → LeavesLists (view_of t) (view_of u)
try_looks_at t u m (Place.TryTurn q) h k = turn_looks_at t u m q (Place.TryTurn q) (inr refl) k
try_looks_at t u m _ h k = absurd (cc h)

-- what a call does that is to be refused
record Refuses (old : World) (m : Move) (a : Answer) (new : World) : Type 0 where
  pub for_turn : (within : Within) (r : ℕ) → standing_of old m.party ≡ inside within (Some (Answer.Refused r)) → is_for_turn (sought_by old m.party) ≡ true → (HasTurn old.state.turn m.party → ⊥) → entries_of m.party old.turn_list ≡ 0 → is_starved old m.party ≡ false → (a ≡ Answer.Refused r) × (new.turn_list ≡ notified old.turn_list 1)
  pub to_read : (within : Within) (r : ℕ) → standing_of old m.party ≡ inside within (Some (Answer.Refused r)) → sought_by old m.party ≡ Some read → entries_of m.party old.no_writer ≡ 0 → (a ≡ Answer.Refused r) × (new.no_writer ≡ notified old.no_writer 1)

-- what a drop does of a party that waits
record Abandons (old : World) (m : Move) (a : Answer) (new : World) : Type 0 where
  pub from_turn : is_drop m.what ≡ true → standing_of old m.party ≡ outside Rest.Pending → 0 < entries_of m.party old.turn_list → is_starved old m.party ≡ false → (a ≡ Answer.GivenBack) × (new.turn_list ≡ list_after m.party leaves old.turn_list)
  pub from_reading : is_drop m.what ≡ true → standing_of old m.party ≡ outside Rest.Pending → 0 < entries_of m.party old.no_writer → (a ≡ Answer.GivenBack) × (new.no_writer ≡ list_after m.party leaves old.no_writer)
  pub from_nowhere : is_drop m.what ≡ true → standing_of old m.party ≡ outside Rest.Pending → entries_in old m.party ≡ 0 → is_upgrader old m.party ≡ false → (a ≡ Answer.GivenBack) × LeavesLists old new

acted_at_once : (t u : Table Guarded) (m : Move) (a : Answer) (from : Place) → Acted t u m a from → Begins (view_of t) m from → Asking (λ w. w.turn_list) (view_of t) m a (view_of u) → Asking (λ w. w.no_writer) (view_of t) m a (view_of u) → InLists t u m from → Abandons (view_of t) m a (view_of u) → Refuses (view_of t) m a (view_of u) → TellsOnRelease (view_of t) m a (view_of u) → AnswersAtOnce (view_of t) m a (view_of u)
acted_at_once t u m a from y b for_turn to_read l abandons refuses gives_up =
    let P : Place → Type 0 = λ x. Acted t u m a x in
    record {
      try_read = λ i e h. at_try_read t u m a (subst P (b.try_read i e) y);
      try_upgrade = λ i e h. at_try_upgrade t u m a (subst P (b.try_upgrade i e) y);
      try_turn = λ e h. tries_turn t u m a from (b.try_turn e) y;
      try_goes_on = λ e h free. goes_on t u m a from (b.try_turn e) y free;
      try_upgradable = λ e h. at_add t u m a (subst P (b.try_upgradable e.0 e.1 e.2 e.4) y);
      try_upgradable_decided = λ e h. at_added t u m a (subst P (b.try_upgradable e.0 e.1 e.2 e.4) y);
      try_write = λ e h. at_try_write t u m a (subst P (b.try_write e.0 e.1 e.2 e.4) y);
      try_write_decided = λ e h. at_try_written t u m a (subst P (b.try_write e.0 e.1 e.2 e.4) y);
      first_read = λ e. at_enter_read t u m a (subst P (b.first_read e) y);
      first_read_ready = λ e. at_enter_ready t u m a (subst P (b.first_read e) y);
      first_read_full = λ e. at_enter_full t u m a (subst P (b.first_read e) y);
      first_upgradable = λ e. at_enter_turn t u m a Purpose.UpgradableRead (subst P (b.first_upgradable e) y);
      first_write = λ e n. at_enter_turn t u m a Purpose.Write (subst P (b.first_write e n) y);
      try_read_looks = λ i e h. looks_at t u m from (inl (b.try_read i e)) l;
      try_upgrade_looks = λ i e h. looks_at t u m from (inr (inl (b.try_upgrade i e))) l;
      first_read_looks = λ e. looks_at t u m from (inr (inr (b.first_read e))) l;
      try_turn_looks = λ e h. try_looks_at t u m from (b.try_turn e) l;
      first_upgradable_looks = λ e. turn_looks_at t u m Purpose.UpgradableRead from (inl (b.first_upgradable e)) l;
      first_write_looks = λ e n. turn_looks_at t u m Purpose.Write from (inl (b.first_write e n)) l;
      listed_for_turn = for_turn;
      listed_to_read = to_read;
      abandons_turn = abandons.from_turn;
      abandons_reading = abandons.from_reading;
      abandons_unlisted = abandons.from_nowhere;
      refuses_turn = λ within r at sought without none plain possible. refuses.for_turn within r at sought without none plain;
      refuses_read = λ within r at sought none possible. refuses.to_read within r at sought none;
      gives_up = gives_up;
    }

-- ---- where a move acts

turn_waits : (x : Place) (t : TurnCourse) → fits_turn x t ≡ true → listed t ≡ 0 → waits_for_turn x ≡ false
turn_waits (Place.WaitTurn q) t h e = absurd (omega (arith, waiting_listed t h, e))
turn_waits _ t h e = refl

lists : (t : Table Guarded) (p : ℕ) → Laws t → Lists (entries_in (view_of t) p) (is_upgrader (view_of t) p) (place_at t.machine.lock.places p)
lists t p k = record {
  no_writer = λ e. omega (arith, e, k.lock.owners_no_writer p);
  no_readers = λ e. omega (arith, e, k.lock.owners_no_readers p);
  turn = λ e. turn_waits (place_at t.machine.lock.places p) (turn_at t.machine.lock.turn.courses p) (k.lock.in_turn p) (omega (arith, e, k.lock.turn.owners p));
  upgrade = view.upgrades_at t.machine.lock.places p;
}

module _ (t u : Table Guarded) (m : Move) (a : Answer) (w : Within) (c : Acting t u m a w) where
  pub begins : Begins (view_of t) m c.from
  begins =
      let x = place_at t.machine.lock.places m.party in
      let y = turn_at t.machine.lock.turn.courses m.party in
      let it = firsts t.machine.value y (stage_at t.stages m.party) m.what x w (c.old.fits.stands m.party c.inside) c.call c.first c.no_put in
      let same : it.from ≡ c.from = some_eq (sym it.starts ∙ c.starts) in
      let n = entries_in (view_of t) m.party in
      let up = is_upgrader (view_of t) m.party in
      let P : Place → Type 0 = λ z. Firsts (standing_at t.machine.value (stage_at t.stages m.party) x y) (sought_at x) m.what n up z in
      let there : P c.from = subst P same (it.holds n up (lists t m.party c.old)) in
      let S : Standing → Type 0 = λ s. Firsts s (sought_at x) m.what n up c.from in
      let O : Option Right → Type 0 = λ o. Firsts (standing_of (view_of t) m.party) o m.what n up c.from in
      subst O (sym (sought_is t m.party)) (subst S (sym (stood t m.party c.old)) there)

  decided : decision a (standing_of (view_of u) m.party) ≡ verdict_then t.machine.value (turn_at u.machine.lock.turn.courses m.party) (next_of c.from c.acts.found)
  decided =
      let y = turn_at u.machine.lock.turn.courses m.party in
      let there : m.party < length t.machine.lock.places = omega (arith, c.old.fits.as_many, c.inside) in
      let lands : place_at u.machine.lock.places m.party ≡ place_after c.next = ap (λ xs. place_at xs m.party) c.acts.places ∙ get_or-set_same t.machine.lock.places m.party (place_after c.next) Place.Out there in
      let stages : stage_at u.stages m.party ≡ stage_after Rest.Holding w a = ap (λ ss. stage_at ss m.party) c.stages ∙ get_or-set_same t.stages m.party (stage_after Rest.Holding w a) Forgotten c.inside in
      let d = verdict u.machine.value (place_at u.machine.lock.places m.party) y in
      let seen : decision a (standing_of (view_of u) m.party) ≡ decided_after a d = ap (decision a) (stood u m.party c.new ∙ ap (stands_as d) stages) ∙ decision_seen Rest.Holding w a d in
      seen ∙ (ap (λ b. decided_after b d) (says t u m a w c)
      ∙ ap (decided_after (answer_by t.machine.value (next_of c.from c.acts.found))) (ap (λ n. verdict n (place_at u.machine.lock.places m.party) y) c.value ∙ ap (λ z. verdict t.machine.value z y) (lands ∙ ap place_after c.acts.next_is)))

  pub at_once : AnswersAtOnce (view_of t) m a (view_of u)
  at_once =
      let l = t.machine.lock in
      acted_at_once t u m a c.from (record {
        laws = c.old;
        known = omega (arith, c.old.fits.as_many, c.inside);
        found = c.acts.found;
        finds = c.acts.finds;
        turn = c.acts.turn;
        leads = led (inputs_of m.what).memory (inputs_of m.what).starving m.party l.turn u.machine.lock.turn c.from c.acts.found c.acts.turn (fit t u m a w c);
        places = c.acts.places ∙ ap (λ y. set l.places m.party (place_after y)) c.acts.next_is;
        same = c.moves.same;
        answer = says t u m a w c;
        decides = decided;
      }) begins (asked.for_turn t u m a w c) (asked.to_read t u m a w c)
      (record { found = c.acts.found; turn = c.acts.turn; no_writer = c.acts.no_writer; no_readers = c.acts.no_readers })
      (record { from_turn = λ d pending. dropped.from_turn t u m a w c d pending; from_reading = λ d pending. dropped.from_reading t u m a w c d pending; from_nowhere = λ d pending. dropped.from_nowhere t u m a w c d pending (lists t m.party c.old) })
      (record { for_turn = refusing.for_turn t u m a w c; to_read = refusing.to_read t u m a w c })
      (owing.releases t u m a w c)

-- ---- a poll after ready, and a put

abbrev pub holds_on : What → Bool
holds_on (Begin Call.Poll i) = true
holds_on (Begin (Call.Put v) i) = true
holds_on _ = false

-- a party that stands where no first poll begins doesn't begin one
never_first : (r : Right) (s at : Standing) (o : Option Right) (what : What) (n : ℕ) → s ≡ at → is_first_poll r at o what n ≡ false → is_first_poll r s o what n ≡ true → ⊥
never_first r s at o what n e not_it h = let yes : is_first_poll r at o what n ≡ true = sym (ap (λ s. is_first_poll r s o what n) e) ∙ h in cc

apart_from_tries : (what : What) → holds_on what ≡ true → is_try_for_turn what ≡ true → ⊥
apart_from_tries (Begin Call.Poll i) h e = cc
apart_from_tries (Begin (Call.Put v) i) h e = cc
apart_from_tries (Begin Call.TryUpgradableRead i) h e = cc
apart_from_tries (Begin Call.TryWrite i) h e = cc
apart_from_tries _ h e = cc

apart_from_read : (what : What) (i : Inputs) → holds_on what ≡ true → what ≡ Begin Call.TryRead i → ⊥
apart_from_read what i h e = let no : holds_on (Begin Call.TryRead i) ≡ true = sym (ap holds_on e) ∙ h in absurd (cc)

apart_from_upgrade : (what : What) (i : Inputs) → holds_on what ≡ true → what ≡ Begin Call.TryUpgrade i → ⊥
apart_from_upgrade what i h e = let no : holds_on (Begin Call.TryUpgrade i) ≡ true = sym (ap holds_on e) ∙ h in absurd (cc)

outside_apart : (s : Standing) (r : Rest) (w : Within) (d : Option Answer) → s ≡ outside r → s ≡ inside w d → ⊥
outside_apart s r w d e h = absurd (cc)

-- whoever reads is one of those that read
reads_some : (rs : List Bool) (p : ℕ) → is_on rs p ≡ true → 0 < how_many rs
reads_some [] p h = absurd (cc h)
reads_some (true ∷ rs) zero h = omega arith
reads_some (false ∷ rs) zero h = absurd (cc h)
reads_some (b ∷ rs) (suc p) h = let more = reads_some rs p h in by_first b more where
  by_first : (b : Bool) → 0 < how_many rs → 0 < how_many (b ∷ rs)
  by_first true more = omega arith
  by_first false more = omega (arith, more)

none_left : (w : World) (p : ℕ) → state.reads w p ≡ true → how_many_read w ≡ 0 → ⊥
none_left w p r left = let some = reads_some w.state.readers p r in absurd (omega (arith, some, left))

pub still_at_once : (t : Table Guarded) (m : Move) (a : Answer) (after : World) → Laws t → stage_at t.stages m.party ≡ Outside Rest.Holding → holds_on m.what ≡ true → after.state.turn ≡ (view_of t).state.turn → after.state.readers ≡ (view_of t).state.readers → after.owing ≡ (view_of t).owing → AnswersAtOnce (view_of t) m a after
still_at_once t m a after k at holds same_turn same_readers same_owing =
    let s : Standing = standing_of (view_of t) m.party in
    let o : Option Right = sought_by (view_of t) m.party in
    let n : ℕ = entries_in (view_of t) m.party in
    let is : s ≡ outside Rest.Holding = stood t m.party k ∙ ap (λ s. standing_at t.machine.value s (place_at t.machine.lock.places m.party) (turn_at t.machine.lock.turn.courses m.party)) at in
    record {
      try_read = λ i e b. absurd (apart_from_read m.what i holds e);
      try_upgrade = λ i e b. absurd (apart_from_upgrade m.what i holds e);
      try_turn = λ e b. absurd (apart_from_tries m.what holds e);
      try_goes_on = λ e b free. absurd (apart_from_tries m.what holds e);
      try_upgradable = λ e b. absurd (outside_apart s Rest.Holding e.0 None is e.1);
      try_write = λ e b. absurd (outside_apart s Rest.Holding e.0 None is e.1);
      try_upgradable_decided = λ e b. absurd (outside_apart s Rest.Holding e.0 None is e.1);
      try_write_decided = λ e b. absurd (outside_apart s Rest.Holding e.0 None is e.1);
      first_read_ready = λ e b. absurd (never_first read s (outside Rest.Holding) o m.what n is refl e);
      first_read_full = λ e b full. absurd (never_first read s (outside Rest.Holding) o m.what n is refl e);
      first_read = λ e. absurd (never_first read s (outside Rest.Holding) o m.what n is refl e);
      first_upgradable = λ e. absurd (never_first upgradable s (outside Rest.Holding) o m.what n is refl e);
      first_write = λ e z. absurd (never_first write s (outside Rest.Holding) o m.what n is refl e);
      try_read_looks = λ i e b. absurd (apart_from_read m.what i holds e);
      try_upgrade_looks = λ i e b. absurd (apart_from_upgrade m.what i holds e);
      first_read_looks = λ e. absurd (never_first read s (outside Rest.Holding) o m.what n is refl e);
      try_turn_looks = λ e b. absurd (apart_from_tries m.what holds e);
      first_upgradable_looks = λ e. absurd (never_first upgradable s (outside Rest.Holding) o m.what n is refl e);
      first_write_looks = λ e z. absurd (never_first write s (outside Rest.Holding) o m.what n is refl e);
      listed_for_turn = λ i polls pending. absurd (cc (sym is ∙ pending));
      listed_to_read = λ i polls pending. absurd (cc (sym is ∙ pending));
      abandons_turn = λ d pending. absurd (cc (sym is ∙ pending));
      abandons_reading = λ d pending. absurd (cc (sym is ∙ pending));
      abandons_unlisted = λ d pending. absurd (cc (sym is ∙ pending));
      refuses_turn = λ within r at sought without none plain b. absurd (outside_apart s Rest.Holding within (Some (Answer.Refused r)) is at);
      refuses_read = λ within r at sought none b. absurd (outside_apart s Rest.Holding within (Some (Answer.Refused r)) is at);
      gives_up = owing.keeps_owing (view_of t) m a after same_turn same_owing (λ r none. none_left (view_of t) m.party r (sym (ap how_many same_readers) ∙ none)) (λ list h possible. (let inside = owes_outside t list m.party k h in let out : is_outside s ≡ true = ap is_outside is in cc (inside, out)));
    }

-- ---- a move that isn't possible

never_read : (s : Standing) (o : Option Right) (what : What) (n : ℕ) → is_first_poll read s o what n ≡ true → call_in (knows o) s what ≡ None → ⊥
never_read (outside Rest.Idle) o (Begin Call.Read i) n h e = some_none e
never_read (outside Rest.Finished) o (Begin Call.Read i) n h e = some_none e
never_read (outside Rest.Pending) (Some read) (Begin Call.Poll i) n h e = some_none e
never_read _ o _ n h e = false≢true h

pub never_upgradable : (s : Standing) (o : Option Right) (what : What) (n : ℕ) → is_first_poll upgradable s o what n ≡ true → call_in (knows o) s what ≡ None → ⊥
never_upgradable (outside Rest.Idle) o (Begin Call.UpgradableRead i) n h e = some_none e
never_upgradable (outside Rest.Finished) o (Begin Call.UpgradableRead i) n h e = some_none e
never_upgradable (outside Rest.Pending) (Some upgradable) (Begin Call.Poll i) n h e = some_none e
never_upgradable _ o _ n h e = false≢true h

pub never_write : (s : Standing) (o : Option Right) (what : What) (n : ℕ) → is_first_poll write s o what n ≡ true → call_in (knows o) s what ≡ None → ⊥
never_write (outside Rest.Idle) o (Begin Call.Write i) n h e = some_none e
never_write (outside Rest.Finished) o (Begin Call.Write i) n h e = some_none e
never_write (outside Rest.Pending) (Some write) (Begin Call.Poll i) n h e = some_none e
never_write _ o _ n h e = false≢true h

never_polls : (s : Standing) (o : Option Right) (what : What) (i : Inputs) → what ≡ Begin Call.Poll i → s ≡ outside Rest.Pending → call_in (knows o) s what ≡ None → ⊥
never_polls s o what i e p none =
    let N : What → Type 0 = λ z. call_in (knows o) (outside Rest.Pending) z ≡ None in
    let S : Standing → Type 0 = λ z. call_in (knows o) z what ≡ None in
    some_none (subst N e (subst S p none))

drop_possible : (o : Option Right) (what : What) → is_drop what ≡ true → call_in (knows o) (outside Rest.Pending) what ≡ None → ⊥
drop_possible o (Begin Call.Drop i) h e = some_none e
drop_possible o _ h e = cc h

never_drops : (s : Standing) (o : Option Right) (what : What) → is_drop what ≡ true → s ≡ outside Rest.Pending → call_in (knows o) s what ≡ None → ⊥
never_drops s o what d p none = let S : Standing → Type 0 = λ z. call_in (knows o) z what ≡ None in drop_possible o what d (subst S p none)

pub impossible_at_once : (w : World) (m : Move) → call_of w m ≡ None → AnswersAtOnce w m Answer.NotPossible w
impossible_at_once w m none =
    let s = standing_of w m.party in
    let o = sought_by w m.party in
    let n = entries_in w m.party in
    record {
      try_read = λ i e h. absurd (cc);
      try_upgrade = λ i e h. absurd (cc);
      try_turn = λ e h. absurd (cc);
      try_goes_on = λ e h free. absurd (cc);
      try_upgradable = λ e h. absurd (cc);
      try_write = λ e h. absurd (cc);
      try_upgradable_decided = λ e h. absurd (cc);
      try_write_decided = λ e h. absurd (cc);
      first_read_ready = λ e b. absurd (never_read s o m.what n e none);
      first_read_full = λ e b full. absurd (never_read s o m.what n e none);
      first_read = λ e. absurd (never_read s o m.what n e none);
      first_upgradable = λ e. absurd (never_upgradable s o m.what n e none);
      first_write = λ e z. absurd (never_write s o m.what n e none);
      try_read_looks = λ i e h. absurd (cc);
      try_upgrade_looks = λ i e h. absurd (cc);
      first_read_looks = λ e. absurd (never_read s o m.what n e none);
      try_turn_looks = λ e h. absurd (cc);
      first_upgradable_looks = λ e. absurd (never_upgradable s o m.what n e none);
      first_write_looks = λ e z. absurd (never_write s o m.what n e none);
      listed_for_turn = λ i polls pending. absurd (never_polls s o m.what i polls pending none);
      listed_to_read = λ i polls pending. absurd (never_polls s o m.what i polls pending none);
      abandons_turn = λ d pending. absurd (never_drops s o m.what d pending none);
      abandons_reading = λ d pending. absurd (never_drops s o m.what d pending none);
      abandons_unlisted = λ d pending. absurd (never_drops s o m.what d pending none);
      refuses_turn = λ within r at sought without unlisted plain h. absurd (cc);
      refuses_read = λ within r at sought unlisted h. absurd (cc);
      gives_up = owing.keeps_owing w m Answer.NotPossible w refl refl (λ r left. none_left w m.party r left) (λ list h possible. cc possible);
    }
