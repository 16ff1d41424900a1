-- Whoever gives something back goes on until it has told of that.
use Rattle.world_rwlock.proofs.Prelude.{◌≡◌, ℕ, ◌<◌, ◌≤◌, ◌==◌, ◌⊎◌, inl, inr, Bool, true, false, Option, Some, None, List, length, refl, arith, ap, sym, ◌∙◌, subst, get_or, get_or-set_same, get_or-set_other, set, sum_by, sum_by-set, get_or-le-sum_by, false≢true, true≢false, eqb-true, has_turn, notified, Answer, Call, Move, What, Begin, Go, Within, is_drop, inputs_of, is_possible, Effect, nothing, changes, does, some_eq, none_some, stage_at, Table, End, TurnStep, Ending, Found, Place, IsLegal, TurnCourse, waiting_there, taking, has_lock, holds, decision, is_taking, is_holding, is_cancelling, cancelling, Mutex, turn_at, holder_of, out_free, waiting_free, releasing_free, holding_holds, OnNoWriter, OnNoReaders, action_of, next_of, place_after, drop_from, OnTurn, Finds, readers, RwLock, place_at, fits_turn, reads as reads_there, Guarded, answer_by, place_for, TellsOnRelease, ListName, for_the_turn, for_no_readers, for_no_writer, list_of, is_marked, World, how_many_read, HasTurn, nothing_owed, owes_in, has_to_tell, Share, passing, upgrading, waiting, writing, turn_as, turn_by, share_of, owing_at, view_of, knows_at}
use Rattle.world_mutex.specs.machine.Effects as mutex
use Rattle.world_mutex.proofs.of_machine.callers.Holders as sees
use Rattle.world_rwlock.specs.State.{Turn, reads}
use Rattle.world_rwlock.proofs.of_machine.stages.Leads.{led, steps_in_turn}
use Rattle.world_rwlock.proofs.table.Stages.{strays_not}
use Rattle.world_rwlock.proofs.step.Rows.{IsLast, row, turn_row}
use Rattle.world_rwlock.proofs.step.Acting.{Acting, fit, says}
use Rattle.world_rwlock.proofs.step.Owed.{Owes, not_owed, owes_seen, owes_inside}
use Rattle.world_rwlock.proofs.step.Owes.{is_bit, comes_to_turn, comes_to_bit, begins_unowed}
use Rattle.world_rwlock.proofs.step.Refusing.{going_here, has_by}
use Rattle.world_rwlock.proofs.table.Views as view
use Rattle.world_rwlock.proofs.step.Owns as owns

-- ---- who has the turn

share_has : (q p : ℕ) (s : Share) → HasTurn (turn_as q s) p → q ≡ p
share_has q p passing h = h
share_has q p upgrading h = h
share_has q p waiting h = h
share_has q p writing h = h

holder_so : (h : Option ℕ) (xs : List Place) (p : ℕ) → HasTurn (turn_by h xs) p → h ≡ Some p
holder_so None xs p e = absurd e
holder_so (Some q) xs p e = ap Some (share_has q p (share_of (place_at xs q)) e)

bit_as : (p : ℕ) (s : Share) → is_marked (turn_as p s) ≡ is_bit s
bit_as p passing = refl
bit_as p upgrading = refl
bit_as p waiting = refl
bit_as p writing = refl

has_lock_decided : (c : TurnCourse) → is_taking c ≡ true → holds c ≡ 1 → decision c ≡ Some End.Got
has_lock_decided (taking has_lock a b d) h one = refl
has_lock_decided (waiting_there b) h one = absurd (omega (arith, one))
has_lock_decided (taking _ a b d) h one = absurd (omega (arith, one))
has_lock_decided _ h one = absurd (cc h)

cancelling_free : (c : TurnCourse) → is_cancelling c ≡ true → holds c ≡ 0
cancelling_free (cancelling b) h = refl
cancelling_free _ h = absurd (cc)

-- who got the turn in a poll keeps it
kept_by : (p : ℕ) (x : Effect mutex.Change mutex.ListName) → mutex.is_release x ≡ false → mutex.holder_after p x (Some p) ≡ Some p
kept_by p nothing h = refl
kept_by p (changes mutex.takes) h = refl
kept_by p (changes mutex.releases) h = absurd (cc h)
kept_by p (changes mutex.starves) h = refl
kept_by p (changes mutex.recovers) h = refl
kept_by p (does list f) h = refl

-- ---- the writer's bit

abbrev Tells : ℕ → ListName → Place → Found → Type 0
Tells v list y f = (answer_by v (next_of y f) ≡ Answer.Stepped) × Owes list (place_after (next_of y f))

abbrev Share_then : Place → Found → Share
Share_then y f = share_of (place_after (next_of y f))

-- whoever clears it has to tell those that wait to read
clears : (v : ℕ) (y : Place) (f : Found) → is_bit (share_of y) ≡ true → is_bit (Share_then y f) ≡ false → Tells v for_no_writer y f
clears v (Place.JoinNoReaders upgrade) Found.Done m h = absurd (cc h)
clears v (Place.JoinNoReaders true) _ m h = absurd (cc h)
clears v (Place.JoinNoReaders false) _ m h = absurd (cc h)
clears v (Place.LookNoReaders upgrade) Found.NoneLeft m h = absurd (cc h)
clears v (Place.LookNoReaders upgrade) _ m h = absurd (cc h)
clears v (Place.AwaitNoReaders upgrade) Found.NoneLeft m h = absurd (cc h)
clears v (Place.AwaitNoReaders upgrade) _ m h = absurd (cc h)
clears v (Place.AskNoReaders upgrade) Found.Yes m h = absurd (cc h)
clears v (Place.AskNoReaders upgrade) _ m h = absurd (cc h)
clears v (Place.LookUnlisted upgrade) Found.NoneLeft m h = absurd (cc h)
clears v (Place.LookUnlisted upgrade) _ m h = absurd (cc h)
clears v Place.LeaveNoReaders f m h = absurd (cc h)
clears v Place.CancelAwait f m h = absurd (cc h)
clears v Place.Writing f m h = absurd (cc h)
clears v (Place.Unmark refused) f m h = (refl, refl)
clears v Place.DropWrite f m h = (refl, refl)
clears v (Place.Down true) f m h = (refl, refl)
clears v (Place.Down false) f m h = (refl, refl)
clears v (Place.ReleaseTurn Ending.Reading) f m h = absurd (cc m)
clears v (Place.ReleaseTurn _) f m h = absurd (cc m)
clears v _ f m h = absurd (cc m)

-- only a turn's own steps change who has it
marks_still : (memory starving : Bool) (p : ℕ) (y : Place) (f : Found) (l n : Mutex) → is_bit (share_of y) ≡ true → OnTurn memory starving p (action_of y) f l n → n ≡ l
marks_still memory starving p (Place.ReleaseTurn Ending.Reading) f l n m o = absurd (cc m)
marks_still memory starving p (Place.ReleaseTurn Ending.GivenBack) f l n m o = absurd (cc m)
marks_still memory starving p (Place.ReleaseTurn (Ending.NotFree q)) f l n m o = absurd (cc m)
marks_still memory starving p (Place.ReleaseTurn Ending.RefuseReaders) f l n m o = absurd (cc m)
marks_still memory starving p (Place.ReleaseTurn Ending.RefuseMemory) f l n m o = absurd (cc m)
marks_still memory starving p (Place.ReleaseTurn Ending.NotifyReaders) f l n m o = absurd (cc m)
marks_still memory starving p (Place.ReleasingTurn e) f l n m o = absurd (cc m)
marks_still memory starving p (Place.EnterTurn q) f l n m o = absurd (cc m)
marks_still memory starving p (Place.WaitTurn q) f l n m o = absurd (cc m)
marks_still memory starving p (Place.TakeTurn q) f l n m o = absurd (cc m)
marks_still memory starving p (Place.TryTurn q) f l n m o = absurd (cc m)
marks_still memory starving p Place.CancelTurn f l n m o = absurd (cc m)
marks_still memory starving p Place.CancellingTurn f l n m o = absurd (cc m)
marks_still memory starving p _ f l n m o = o

-- ---- the last reader

drops_reading : (x y : Place) → reads_there x ≡ 1 → drop_from x ≡ Some y → (y ≡ Place.DropRead) ⊎ (y ≡ Place.DropUpgradable)
drops_reading Place.Reading y h e = inl (sym (some_eq e))
drops_reading Place.Upgradable y h e = inr (sym (some_eq e))
drops_reading (Place.Made w) y h e = absurd (omega (arith, h))
drops_reading Place.AskNoWriter y h e = absurd (omega (arith, h))
drops_reading (Place.WaitTurn q) y h e = absurd (omega (arith, h))
drops_reading (Place.AwaitNoReaders upgrade) y h e = absurd (omega (arith, h))
drops_reading (Place.LookUnlisted true) y h e = absurd (omega (arith, h))
drops_reading (Place.LookUnlisted false) y h e = absurd (omega (arith, h))
drops_reading Place.Writing y h e = absurd (omega (arith, h))
drops_reading _ y h e = absurd (none_some e)

drop_starts : (what : What) (x y : Place) → is_drop what ≡ true → place_for what x ≡ Some y → drop_from x ≡ Some y
drop_starts (Begin Call.Drop i) x y h e = e
drop_starts _ x y h e = absurd (cc h)

-- the drop of a reader that finds none left has to tell the one that waits to write; any other reader leaves others, goes on reading, or sets the writer's bit
abbrev LeavesOthers : RwLock → Place → Found → Type 0
LeavesOthers l y f = (1 < readers l) × (reads_there (place_after (next_of y f)) ≡ 0)

abbrev SetsBit : Place → Found → Type 0
SetsBit y f = (is_bit (share_of y) ≡ false) × (is_bit (Share_then y f) ≡ true) × (has_turn y ≡ 1) × (has_turn (place_after (next_of y f)) ≡ 1)

abbrev Lasts : ℕ → RwLock → Place → Found → Type 0
Lasts v l y f = Tells v for_no_readers y f ⊎ (LeavesOthers l y f ⊎ ((reads_there (place_after (next_of y f)) ≡ 1) ⊎ SetsBit y f))

-- no drop of a reader does
drops_clear : (memory : Bool) (l : RwLock) (y : Place) (f : Found) → (y ≡ Place.DropRead) ⊎ (y ≡ Place.DropUpgradable) → Finds memory (action_of y) f l → SetsBit y f → ⊥
drops_clear memory l Place.DropRead Found.NoneLeft at e s = false≢true s.1
drops_clear memory l Place.DropRead Found.SomeLeft at e s = false≢true s.1
drops_clear memory l Place.DropRead _ at e s = e
drops_clear memory l Place.DropUpgradable Found.NoneLeft at e s = false≢true s.1
drops_clear memory l Place.DropUpgradable Found.SomeLeft at e s = false≢true s.1
drops_clear memory l Place.DropUpgradable _ at e s = e
drops_clear memory l _ f at e s = elim at as (λ _. ⊥) [ inl is ↦ cc is | inr is ↦ cc is ]

no_reader : ◌≡◌ {A = ℕ} 0 1 → ⊥
no_reader e = omega (arith, e)

lasts : (memory : Bool) (v : ℕ) (l : RwLock) (y : Place) (f : Found) → reads_there y ≡ 1 → Finds memory (action_of y) f l → Lasts v l y f
lasts memory v l Place.DropRead Found.NoneLeft at e = inl (refl, refl)
lasts memory v l Place.DropRead Found.SomeLeft at e = inr (inl (e, refl))
lasts memory v l Place.DropRead _ at e = absurd e
lasts memory v l Place.DropUpgradable Found.NoneLeft at e = inl (refl, refl)
lasts memory v l Place.DropUpgradable Found.SomeLeft at e = inr (inl (e, refl))
lasts memory v l Place.DropUpgradable _ at e = absurd e
lasts memory v l Place.Upgrade Found.Done at e = inr (inr (inr (refl, refl, refl, refl)))
lasts memory v l Place.Upgrade _ at e = absurd e
lasts memory v l Place.TryUpgrade Found.Done at e = inr (inr (inr (refl, refl, refl, refl)))
lasts memory v l Place.TryUpgrade Found.NotFree at e = inr (inr (inl refl))
lasts memory v l Place.TryUpgrade _ at e = absurd e
lasts memory v l Place.Reading f at e = inr (inr (inl refl))
lasts memory v l Place.Upgradable f at e = inr (inr (inl refl))
lasts memory v l Place.LeaveNoWriter f at e = inr (inr (inl refl))
lasts memory v l (Place.ReleaseTurn Ending.Reading) (Found.Turn TurnStep.More) at e = inr (inr (inl refl))
lasts memory v l (Place.ReleaseTurn Ending.Reading) (Found.Turn (TurnStep.End n)) at e = inr (inr (inl refl))
lasts memory v l (Place.ReleaseTurn Ending.Reading) _ at e = absurd e
lasts memory v l (Place.ReleaseTurn Ending.NotifyReaders) (Found.Turn TurnStep.More) at e = inr (inr (inl refl))
lasts memory v l (Place.ReleaseTurn Ending.NotifyReaders) (Found.Turn (TurnStep.End n)) at e = inr (inr (inl refl))
lasts memory v l (Place.ReleaseTurn Ending.NotifyReaders) _ at e = absurd e
lasts memory v l (Place.ReleaseTurn Ending.GivenBack) f at e = absurd (no_reader at)
lasts memory v l (Place.ReleaseTurn (Ending.NotFree q)) f at e = absurd (no_reader at)
lasts memory v l (Place.ReleaseTurn Ending.RefuseReaders) f at e = absurd (no_reader at)
lasts memory v l (Place.ReleaseTurn Ending.RefuseMemory) f at e = absurd (no_reader at)
lasts memory v l (Place.ReleasingTurn Ending.Reading) f at e = inr (inr (inl refl))
lasts memory v l (Place.ReleasingTurn Ending.NotifyReaders) f at e = inr (inr (inl refl))
lasts memory v l (Place.ReleasingTurn Ending.GivenBack) f at e = absurd (no_reader at)
lasts memory v l (Place.ReleasingTurn (Ending.NotFree q)) f at e = absurd (no_reader at)
lasts memory v l (Place.ReleasingTurn Ending.RefuseReaders) f at e = absurd (no_reader at)
lasts memory v l (Place.ReleasingTurn Ending.RefuseMemory) f at e = absurd (no_reader at)
lasts memory v l Place.DownNotify f at e = inr (inr (inl refl))
lasts memory v l Place.DowngradeNotify f at e = inr (inr (inl refl))
lasts memory v l _ f at e = absurd (no_reader at)

-- ---- by the step of the turn

module _ (t u : Table Guarded) (m : Move) (a : Answer) (w : Within) (k : Acting t u m a w) where
  abbrev p : ℕ
  p = m.party

  abbrev x : Place
  x = place_at t.machine.lock.places p

  abbrev c : TurnCourse
  c = turn_at t.machine.lock.turn.courses p

  abbrev v : ℕ
  v = t.machine.value

  abbrev l : Mutex
  l = t.machine.lock.turn

  abbrev n : Mutex
  n = u.machine.lock.turn

  abbrev old : World
  old = view_of t

  abbrev new : World
  new = view_of u

  abbrev memory : Bool
  memory = (inputs_of m.what).memory

  abbrev starving : Bool
  starving = (inputs_of m.what).starving

  abbrev from : Place
  from = k.from

  abbrev fnd : Found
  fnd = k.acts.found

  abbrev to : Place
  to = place_after (next_of from fnd)

  abbrev On : Place → Found → Type 0
  On y f = OnTurn memory starving p (action_of y) f l n

  abbrev Held : Mutex → Type 0
  Held z = holder_of z ≡ Some p

  known : p < length t.machine.lock.places
  known = omega (arith, k.old.fits.as_many, k.inside)

  lands : place_at u.machine.lock.places p ≡ to
  lands = ap (λ xs. place_at xs p) k.acts.places ∙ (get_or-set_same t.machine.lock.places p (place_after k.next) Place.Out known ∙ ap place_after k.acts.next_is)

  owes_then : (list : ListName) → Owes list to → has_to_tell list new p ≡ true
  owes_then list o = owes_seen u list p ∙ (ap (λ z. owes_in list (owing_at z)) lands ∙ o)

  answered : answer_by v (next_of from fnd) ≡ Answer.Stepped → a ≡ Answer.Stepped
  answered e = says t u m a w k ∙ e

  told_by : (list : ListName) → Tells v list from fnd → (a ≡ Answer.Stepped) × (has_to_tell list new p ≡ true)
  told_by list h = (answered h.0, owes_then list h.1)

  holds_not : holds c ≡ 0 → Held l → ⊥
  holds_not none has = let some = sees.is_held_by l.courses p has in absurd (omega (arith, none, some))

  keeps : (s : TurnStep) → IsLegal memory p (decision c) s l n → is_taking c ≡ true → Held l → Held n
  keeps s g polls has = g.holder ∙ (ap (mutex.holder_after p g.effect) has ∙ kept_by p g.effect (g.keeps_lock (has_lock_decided c polls (sees.is_held_by l.courses p has))))

  -- whoever gives the turn up goes on
  gives_up : (y : Place) (f : Found) → fits_turn y c ≡ true → On y f → Held l → (Held n → ⊥) → Tells v for_the_turn y f
  gives_up (Place.ReleaseTurn e) (Found.Turn s) link o has lost =
      let P : TurnStep → Type 0 = λ z. Tells v for_the_turn (Place.ReleaseTurn e) (Found.Turn z) in
      subst P (sym (o.releases refl)) (refl, refl)
  gives_up (Place.ReleaseTurn e) _ link o has lost = absurd o
  gives_up (Place.TakeTurn q) (Found.Turn s) link o has lost = absurd (lost (keeps s o.legal link has))
  gives_up (Place.TakeTurn q) _ link o has lost = absurd o
  gives_up (Place.EnterTurn q) f link o has lost = absurd (holds_not (out_free c link) has)
  gives_up (Place.TryTurn q) f link o has lost = absurd (holds_not (out_free c link) has)
  gives_up (Place.WaitTurn q) f link o has lost = absurd (holds_not (waiting_free c link) has)
  gives_up Place.CancelTurn f link o has lost = absurd (holds_not (waiting_free c link) has)
  gives_up Place.CancellingTurn f link o has lost = absurd (holds_not (cancelling_free c link) has)
  gives_up (Place.ReleasingTurn e) f link o has lost = absurd (holds_not (releasing_free c link) has)
  gives_up _ f link o has lost = absurd (lost (ap holder_of o ∙ has))

  turn : HasTurn old.state.turn p → (HasTurn new.state.turn p → ⊥) → (a ≡ Answer.Stepped) × (has_to_tell for_the_turn new p ≡ true)
  turn has lost = told_by for_the_turn (gives_up from fnd (fit t u m a w k) k.acts.turn (holder_so (holder_of l) t.machine.lock.places p has) (λ still. lost (has_by (holder_of n) u.machine.lock.places p still)))

  -- by whom the turn is had
  turn_of : (z : Table Guarded) (q : ℕ) → holder_of z.machine.lock.turn ≡ Some q → (view_of z).state.turn ≡ turn_as q (share_of (place_at z.machine.lock.places q))
  turn_of z q e = ap (λ h. turn_by h z.machine.lock.places) e

  bit : HasTurn old.state.turn p → is_marked old.state.turn ≡ true → is_marked new.state.turn ≡ false → (a ≡ Answer.Stepped) × (has_to_tell for_no_writer new p ≡ true)
  bit has was now =
      let held = holder_so (holder_of l) t.machine.lock.places p has in
      let before : is_bit (share_of from) ≡ true = ap is_bit k.moves.share ∙ (sym (bit_as p (share_of x)) ∙ (sym (ap is_marked (turn_of t p held)) ∙ was)) in
      let still : holder_of n ≡ Some p = ap holder_of (marks_still memory starving p from fnd l n before k.acts.turn) ∙ held in
      let after : is_bit (share_of to) ≡ false = ap (λ z. is_bit (share_of z)) (sym lands) ∙ (sym (bit_as p (share_of (place_at u.machine.lock.places p))) ∙ (sym (ap is_marked (turn_of u p still)) ∙ now)) in
      told_by for_no_writer (clears v from fnd before after)

  -- by what is marked before and after
  bit_moved : SetsBit from fnd → is_marked new.state.turn ≡ is_marked old.state.turn → ⊥
  bit_moved h same =
      let before : old.state.turn ≡ turn_as p (share_of x) = owns.turn_at_place t.machine.lock t.stages t.opening t.machine.value k.old.lock k.old.fits p x refl (omega (arith, h.2, k.moves.same.turning, k.moves.same.marking)) in
      let after : new.state.turn ≡ turn_as p (share_of to) = owns.turn_at_place u.machine.lock u.stages u.opening u.machine.value k.new.lock k.new.fits p to lands h.3 in
      let clear : is_marked old.state.turn ≡ false = ap is_marked before ∙ (bit_as p (share_of x) ∙ (ap is_bit (sym k.moves.share) ∙ h.0)) in
      let set_now : is_marked new.state.turn ≡ true = ap is_marked after ∙ (bit_as p (share_of to) ∙ h.1) in
      true≢false (sym set_now ∙ (same ∙ clear))

  last_reader : reads old p ≡ true → how_many_read new ≡ 0 → (is_drop m.what ≡ true) ⊎ (is_marked new.state.turn ≡ is_marked old.state.turn) → (a ≡ Answer.Stepped) × (has_to_tell for_no_readers new p ≡ true)
  last_reader reading none why =
      let here : reads_there x ≡ 1 = eqb-true (reads_there x) 1 (sym (view.reads_at t.machine.lock.places p) ∙ reading) in
      let there : reads_there from ≡ 1 = k.moves.same.reading ∙ here in
      let left : readers u.machine.lock ≡ 0 = sym (view.how_many-read u.machine.lock.places) ∙ none in
      let places : u.machine.lock.places ≡ set t.machine.lock.places p to = k.acts.places ∙ ap (λ z. set t.machine.lock.places p (place_after z)) k.acts.next_is in
      let sum : readers u.machine.lock ≡ sum_by reads_there (set t.machine.lock.places p to) = ap (sum_by reads_there) places in
      let one : reads_there x ≤ readers t.machine.lock = get_or-le-sum_by reads_there t.machine.lock.places p Place.Out known in
      elim (lasts memory v t.machine.lock from fnd there k.acts.finds) as (λ _. (a ≡ Answer.Stepped) × (has_to_tell for_no_readers new p ≡ true)) [
        | inl last ↦ told_by for_no_readers last
        | inr other ↦ elim other as (λ _. (a ≡ Answer.Stepped) × (has_to_tell for_no_readers new p ≡ true)) [
          | inl others ↦ absurd (omega (arith, left, sum, sum_by-set reads_there t.machine.lock.places p to Place.Out known, here, others.0, others.1))
          | inr more ↦ elim more as (λ _. (a ≡ Answer.Stepped) × (has_to_tell for_no_readers new p ≡ true)) [
            | inl reads_on ↦ absurd (omega (arith, left, sum, sum_by-set reads_there t.machine.lock.places p to Place.Out known, here, one, reads_on))
            | inr sets ↦ absurd (elim why as (λ _. ⊥) [ inl drops ↦ drops_clear memory t.machine.lock from fnd (drops_reading x from here (drop_starts m.what x from drops k.starts)) k.acts.finds sets | inr same ↦ bit_moved sets same ])
          ]
        ]
      ]

  -- nobody else comes to have to tell the one that waits to write
  its_last : (in_turn : Bool) → steps_in_turn from ≡ in_turn → IsLast t.machine.lock from to
  its_last true h = inl ((turn_row v (turn_at n.courses p) from fnd h (led memory starving p l n from fnd k.acts.turn (fit t u m a w k))).unowed)
  its_last false h = (row memory t.machine.lock v from fnd k.acts.finds (strays_not w from k.moves.course) h).last

  only_last : has_to_tell for_no_readers old p ≡ false → has_to_tell for_no_readers new p ≡ true → (reads old p ≡ true) × (how_many_read new ≡ 0)
  only_last had has =
      let owes : Owes for_no_readers to = ap (λ z. owes_in for_no_readers (owing_at z)) (sym lands) ∙ (sym (owes_seen u for_no_readers p) ∙ has) in
      elim (its_last (steps_in_turn from) refl) as (λ _. (reads old p ≡ true) × (how_many_read new ≡ 0)) [
        | inl not ↦ absurd (false≢true (sym not ∙ owes))
        | inr last ↦ (
          view.reads_at t.machine.lock.places p ∙ ap (λ (z : ℕ). z == 1) (here last.0),
          view.how_many-read u.machine.lock.places ∙ omega (arith, sum, sum_by-set reads_there t.machine.lock.places p to Place.Out known, here last.0, last.1, last.2),
        )
      ] where
        here : reads_there from ≡ 1 → reads_there x ≡ 1
        here one = sym k.moves.same.reading ∙ one

        sum : readers u.machine.lock ≡ sum_by reads_there (set t.machine.lock.places p to)
        sum = ap (sum_by reads_there) (k.acts.places ∙ ap (λ z. set t.machine.lock.places p (place_after z)) k.acts.next_is)

  -- nobody comes to have to tell but who has given that up
  owes_to : (list : ListName) → has_to_tell list new p ≡ true → Owes list to
  owes_to list has = ap (λ z. owes_in list (owing_at z)) (sym lands) ∙ (sym (owes_seen u list p) ∙ has)

  released : (y : Place) (f : Found) (e : Ending) → y ≡ Place.ReleaseTurn e → f ≡ Found.Turn TurnStep.More → fits_turn y c ≡ true → On y f → HasTurn old.state.turn p × (HasTurn new.state.turn p → ⊥)
  released y f e at found link o =
      let Q : Place → Type 0 = λ z. fits_turn z c ≡ true in
      let holds_then : is_holding c ≡ true = subst Q at link in
      let held : holder_of l ≡ Some p = sees.holds_it l.courses p k.old.lock.turn.one_holder (holding_holds c holds_then) in
      let P : Place → Found → Type 0 = λ z g. On z g in
      let begun : On (Place.ReleaseTurn e) (Found.Turn TurnStep.More) = subst (P (Place.ReleaseTurn e)) found (subst (λ z. P z f) at o) in
      let free : holds (turn_at n.courses p) ≡ 0 = releasing_free (turn_at n.courses p) begun.leads in (
        owns.has_as old.state.turn p (share_of (place_at t.machine.lock.places p)) (turn_of t p held),
        λ has. (
            let some : holds (turn_at n.courses p) ≡ 1 = sees.is_held_by n.courses p (holder_so (holder_of n) u.machine.lock.places p has) in
            omega (arith, free, some)),
      )

  only_turn : has_to_tell for_the_turn old p ≡ false → has_to_tell for_the_turn new p ≡ true → HasTurn old.state.turn p × (HasTurn new.state.turn p → ⊥)
  only_turn had has = let by = comes_to_turn from fnd (owes_to for_the_turn has) in released from fnd by.0 by.1 by.2 (fit t u m a w k) k.acts.turn

  -- who had to tell readers where it acts had to before
  owed_before : Owes for_no_writer from → Owes for_no_writer x
  owed_before o = by_what m.what k.starts where
    by_what : (what : What) → place_for what x ≡ Some from → Owes for_no_writer x
    by_what (Begin c i) e = absurd (false≢true (sym (begins_unowed c x from e) ∙ o))
    by_what (Go i) e = ap (λ z. owes_in for_no_writer (owing_at z)) (some_eq e) ∙ o

  only_bit : has_to_tell for_no_writer old p ≡ false → has_to_tell for_no_writer new p ≡ true → HasTurn old.state.turn p × (is_marked old.state.turn ≡ true) × (is_marked new.state.turn ≡ false)
  only_bit had has = elim (comes_to_bit from fnd (owes_to for_no_writer has)) as (λ _. HasTurn old.state.turn p × (is_marked old.state.turn ≡ true) × (is_marked new.state.turn ≡ false)) [
    | inl owed ↦ absurd (false≢true (sym had ∙ (owes_seen t for_no_writer p ∙ owed_before owed)))
    | inr clear ↦ (
        let before : old.state.turn ≡ turn_as p (share_of x) = owns.turn_at_place t.machine.lock t.stages t.opening t.machine.value k.old.lock k.old.fits p x refl (omega (arith, clear.2, k.moves.same.turning, k.moves.same.marking)) in
        let has_it : HasTurn old.state.turn p = owns.has_as old.state.turn p (share_of x) before in
        let held = holder_so (holder_of l) t.machine.lock.places p has_it in
        let still : holder_of n ≡ Some p = ap holder_of (marks_still memory starving p from fnd l n clear.0 k.acts.turn) ∙ held in (
          has_it,
          ap is_marked before ∙ (bit_as p (share_of x) ∙ (sym (ap is_bit k.moves.share) ∙ clear.0)),
          ap is_marked (turn_of u p still) ∙ (bit_as p (share_of (place_at u.machine.lock.places p)) ∙ (ap (λ z. is_bit (share_of z)) lands ∙ clear.1)),
        ))
  ]

  -- ---- who has to tell

  abbrev Told : ListName → Place → Found → Type 0
  Told list y f = (list_of new list ≡ notified (list_of old list) 1) ⊎ Tells v list y f

  tells_by : (list : ListName) (y : Place) (f : Found) → Owes list y → fits_turn y c ≡ true → On y f → OnNoWriter p (action_of y) f t.machine.lock.no_writer u.machine.lock.no_writer → OnNoReaders p (action_of y) f t.machine.lock.no_readers u.machine.lock.no_readers → Told list y f
  tells_by for_the_turn (Place.ReleasingTurn e) (Found.Turn s) o link g w r = inl (g.legal.entries ∙ ap (λ z. mutex.entries_after p z l.entries) (g.legal.releases link))
  tells_by for_the_turn (Place.ReleasingTurn e) _ o link g w r = absurd g
  tells_by for_the_turn (Place.ReleaseTurn e) f o link g w r = absurd (cc o)
  tells_by for_the_turn Place.DropReadNotify f o link g w r = absurd (cc o)
  tells_by for_the_turn Place.DropUpgradableNotify f o link g w r = absurd (cc o)
  tells_by for_the_turn (Place.UnmarkNotify refused) f o link g w r = absurd (cc o)
  tells_by for_the_turn Place.DownNotify f o link g w r = absurd (cc o)
  tells_by for_the_turn Place.DowngradeNotify f o link g w r = absurd (cc o)
  tells_by for_no_writer (Place.ReleaseTurn Ending.NotifyReaders) (Found.Turn s) o link g w r =
      let P : TurnStep → Type 0 = λ z. Tells v for_no_writer (Place.ReleaseTurn Ending.NotifyReaders) (Found.Turn z) in
      inr (subst P (sym (g.releases refl)) (refl, refl))
  tells_by for_no_writer (Place.ReleasingTurn Ending.NotifyReaders) (Found.Turn s) o link g w r =
      let P : TurnStep → Type 0 = λ z. Tells v for_no_writer (Place.ReleasingTurn Ending.NotifyReaders) (Found.Turn z) in
      inr (subst P (sym (g.leads.releases link).0) (refl, refl))
  tells_by for_no_writer (Place.ReleaseTurn Ending.NotifyReaders) _ o link g w r = absurd g
  tells_by for_no_writer (Place.ReleasingTurn Ending.NotifyReaders) _ o link g w r = absurd g
  tells_by for_no_writer (Place.ReleaseTurn _) f o link g w r = absurd (cc o)
  tells_by for_no_writer (Place.ReleasingTurn _) f o link g w r = absurd (cc o)
  tells_by for_no_writer (Place.UnmarkNotify refused) Found.Done o link g w r = inl w
  tells_by for_no_writer (Place.UnmarkNotify refused) _ o link g w r = absurd w
  tells_by for_no_writer Place.DownNotify Found.Done o link g w r = inl w
  tells_by for_no_writer Place.DownNotify _ o link g w r = absurd w
  tells_by for_no_writer Place.DowngradeNotify Found.Done o link g w r = inl w
  tells_by for_no_writer Place.DowngradeNotify _ o link g w r = absurd w
  tells_by for_no_writer Place.DropReadNotify f o link g w r = absurd (cc o)
  tells_by for_no_writer Place.DropUpgradableNotify f o link g w r = absurd (cc o)
  tells_by for_no_readers Place.DropReadNotify Found.Done o link g w r = inl r
  tells_by for_no_readers Place.DropReadNotify _ o link g w r = absurd r
  tells_by for_no_readers Place.DropUpgradableNotify Found.Done o link g w r = inl r
  tells_by for_no_readers Place.DropUpgradableNotify _ o link g w r = absurd r
  tells_by for_no_readers (Place.ReleaseTurn e) f o link g w r = absurd (cc o)
  tells_by for_no_readers (Place.ReleasingTurn e) f o link g w r = absurd (cc o)
  tells_by for_no_readers (Place.UnmarkNotify refused) f o link g w r = absurd (cc o)
  tells_by for_no_readers Place.DownNotify f o link g w r = absurd (cc o)
  tells_by for_no_readers Place.DowngradeNotify f o link g w r = absurd (cc o)
  tells_by list _ f o link g w r = not_owed list o

  -- it acts where it stands
  owed_here : (list : ListName) → Owes list x → Owes list from
  owed_here list o =
      let within = owes_inside list (stage_at t.stages p) x o (k.old.fits.stands p k.inside) in
      let is : from ≡ x = going_here (knows_at x) w (stage_at t.stages p) within.0 m.what x from k.call within.1 k.starts in
      ap (λ z. owes_in list (owing_at z)) is ∙ o

  told_now : (list : ListName) → has_to_tell list old p ≡ true → Told list from fnd
  told_now list h = tells_by list from fnd (owed_here list (sym (owes_seen t list p) ∙ h)) (fit t u m a w k) k.acts.turn k.acts.no_writer k.acts.no_readers

  -- at once for the turn
  turn_now : (y : Place) (f : Found) → Owes for_the_turn y → Told for_the_turn y f → fits_turn y c ≡ true → On y f → new.turn_list ≡ notified old.turn_list 1
  turn_now (Place.ReleasingTurn e) (Found.Turn s) o told link g = g.legal.entries ∙ ap (λ z. mutex.entries_after p z l.entries) (g.legal.releases link)
  turn_now (Place.ReleasingTurn e) _ o told link g = absurd g
  turn_now (Place.ReleaseTurn e) f o told link g = absurd (cc o)
  turn_now _ f o told link g = absurd (cc o)

  pub releases : TellsOnRelease old m a new
  releases = record {
    turn = turn;
    bit = bit;
    last_reader = last_reader;
    only_turn = only_turn;
    only_bit = only_bit;
    only_last = only_last;
    tells = λ list h possible. elim (told_now list h) as (λ _. (list_of new list ≡ notified (list_of old list) 1) ⊎ ((a ≡ Answer.Stepped) × (has_to_tell list new p ≡ true))) [ inl told ↦ inl told | inr later ↦ inr (told_by list later) ];
    tells_at_once = λ h possible. turn_now from fnd (owed_here for_the_turn (sym (owes_seen t for_the_turn p) ∙ h)) (told_now for_the_turn h) (fit t u m a w k) k.acts.turn;
    others = λ list q apart. owes_seen u list q ∙ (ap (λ z. owes_in list (owing_at z)) (ap (λ xs. place_at xs q) k.acts.places ∙ get_or-set_other t.machine.lock.places p q (place_after k.next) Place.Out apart) ∙ sym (owes_seen t list q));
  }

-- ---- where nothing is given back

-- a move that changes neither the turn nor who reads nor who owes: its party has nothing to tell, or it isn't possible
pub keeps_owing : (w : World) (m : Move) (a : Answer) (v : World) → v.state.turn ≡ w.state.turn → v.owing ≡ w.owing → (reads w m.party ≡ true → how_many_read v ≡ 0 → ⊥) → ((list : ListName) → has_to_tell list w m.party ≡ true → is_possible a ≡ true → ⊥) → TellsOnRelease w m a v
keeps_owing w m a v same owing drops quiet = record {
  turn = λ has lost. absurd (lost (let T : Turn → Type 0 = λ z. HasTurn z m.party in subst T (sym same) has));
  bit = λ has was now. absurd (cc (was, now, same));
  last_reader = λ r none why. absurd (drops r none);
  only_turn = λ had has. absurd (false≢true (sym had ∙ (sym (ap (λ os. owes_in for_the_turn (get_or os m.party nothing_owed)) owing) ∙ has)));
  only_bit = λ had has. absurd (false≢true (sym had ∙ (sym (ap (λ os. owes_in for_no_writer (get_or os m.party nothing_owed)) owing) ∙ has)));
  only_last = λ had has. absurd (false≢true (sym had ∙ (sym (ap (λ os. owes_in for_no_readers (get_or os m.party nothing_owed)) owing) ∙ has)));
  tells = λ list h possible. absurd (quiet list h possible);
  tells_at_once = λ h possible. absurd (quiet for_the_turn h possible);
  others = λ list q apart. ap (λ os. owes_in list (get_or os q nothing_owed)) owing;
}
